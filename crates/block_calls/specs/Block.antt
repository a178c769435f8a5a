-- A block of replies: lines of six bytes, taken one after the other up to the first bad one.
-- Assumes nothing.
use Rattle.std.specs.Prelude.{Option, Some, None, cond, List, [], ◌∷◌, ℕ, ◌+◌, ◌/◌, ◌%◌, eqb, length, drop}
use Rattle.event_lines.specs.Line.{lines_from}
use Rattle.event_lines.specs.declared.Event.{Event}
use Rattle.network.specs.declared.Network.{Network}
use Rattle.run.specs.Bytes.{bytes_of, run_of}
use Rattle.run.specs.declared.Run.{Run}
use Rattle.guarantee.specs.Answers.{pack}
use Rattle.guarantee.specs.Machine.{Asked, replied, reply_to, final}
use Rattle.lent_state.specs.declared.LineFault.{LineFault}
use Rattle.lent_state.specs.declared.LineFault.TheVariants.{Misformed}
use Rattle.calls.specs.Calls.{network_in, in_order, refused_with}

-- all lines of a block; fewer than six bytes at the end are a line too, an unfinished one, and so misformed
unfoldable pub lines_of : List ℕ → List (Option Event)
lines_of block = lines_from ((length block + 5) / 6) block

-- the replies that are kept, as calls made singly: those before the first line that is misformed or does not fit
unfoldable pub kept_of : Network → Run → List (Option Event) → List Asked
kept_of g r [] = []
kept_of g r (Some e ∷ lines) = let t = reply_to g r e.letter e.booking in cond t.taken (replied e.letter e.booking ∷ kept_of g t.run lines) []
kept_of g r (None ∷ lines) = []

-- what is wrong with the line after them: 1 where it is misformed, 9 where its reply does not fit; 0 where no line is left
unfoldable pub fault_of : List (Option Event) → ℕ
fault_of [] = 0
fault_of (Some e ∷ lines) = 9
fault_of (None ∷ lines) = 1

-- a block taken: how many replies are kept, what is wrong with the next line, and the state after the kept ones
pub record Block : Type 0 where
  pub kept : ℕ
  pub fault : ℕ
  pub run : Run

unfoldable pub block_of : Network → Run → List (Option Event) → Block
block_of g r lines = let kept = kept_of g r lines in record { kept = length kept; fault = fault_of (drop (length kept) lines); run = final g r kept }

-- the same from what is wrong among the whole lines: an unfinished line at the end is misformed
unfoldable pub with_tail : Option LineFault → ℕ → Option LineFault
with_tail None n = cond (eqb (n % 6) 0) None (Some Misformed)
with_tail (Some fault) n = Some fault

-- accepted with the number taken, or the fault with its line
unfoldable pub bits_of : ℕ → ℕ → ℕ
bits_of kept fault = cond (eqb fault 0) (pack 6 0 kept) (pack 0 fault (kept + 1))

unfoldable pub block_bits : Block → ℕ
block_bits t = bits_of t.kept t.fault

-- a block on a sheet's and a state's bytes: where the sheet is refused, or else the state is not sound, nothing is taken
unfoldable pub block_in : List ℕ → List ℕ → List ℕ → Block
block_in s block bs = block_of (network_in s) (run_of bs) (lines_of block)

unfoldable pub block_call : List ℕ → List ℕ → List ℕ → ℕ
block_call s block bs = cond (in_order s bs) (block_bits (block_in s block bs)) (refused_with s)

unfoldable pub block_leaves : List ℕ → List ℕ → List ℕ → List ℕ
block_leaves s block bs = cond (in_order s bs) (bytes_of (block_in s block bs).run) bs
