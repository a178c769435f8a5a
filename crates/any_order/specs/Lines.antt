-- The lines of a block: as bytes, as replies, and what is asked of them so that their order does not matter.
-- Assumes nothing.
use Rattle.std.specs.Prelude.{Bool, true, false, List, [], ◌∷◌, ◌++◌, map, ℕ, zero, suc, ◌+◌, ◌/◌, eqb, length, take, drop}
use Rattle.std.specs.Prelude.{Option, Some, None}
use Rattle.event_lines.specs.declared.Event.{Event}
use Rattle.guarantee.specs.Machine.{Asked, replied}
use Rattle.guarantee.specs.Counted.{accepts}
use Rattle.guarantee.specs.AnyOrder.{every, different}
use Rattle.calls.specs.Calls.{asked_call}
use Rattle.block_calls.specs.Block.{lines_of}

-- the bytes of each line: six, or what is left at the end
unfoldable pub rows_from : ℕ → List ℕ → List (List ℕ)
rows_from zero rest = []
rows_from (suc more) rest = take 6 rest ∷ rows_from more (drop 6 rest)

unfoldable pub rows_of : List ℕ → List (List ℕ)
rows_of block = rows_from ((length block + 5) / 6) block

-- lines put one after the other; those of a block have six bytes each if they are well formed
unfoldable pub joined : List (List ℕ) → List ℕ
joined [] = []
joined (row ∷ rows) = row ++ joined rows

unfoldable pub has_six : List ℕ → Bool
has_six row = eqb (length row) 6

-- the reply on each line; a misformed one has none, and it does not matter which is named
unfoldable pub reply_on : Option Event → Asked
reply_on (Some v) = replied v.letter v.booking
reply_on None = replied 0 0

unfoldable pub replies_on : List ℕ → List Asked
replies_on block = map reply_on (lines_of block)

-- ---- what is asked of a block

-- its lines are well formed
unfoldable pub is_given : Option Event → Bool
is_given (Some v) = true
is_given None = false

unfoldable pub well_formed : List ℕ → Bool
well_formed block = every is_given (lines_of block)

-- its replies all fit: each of them is accepted if it comes alone
unfoldable pub all_fit : List ℕ → List ℕ → List ℕ → Bool
all_fit s bs block = every accepts (map (asked_call s bs) (replies_on block))

-- they name different bookings
unfoldable pub all_differ : List ℕ → Bool
all_differ block = different (replies_on block)
