-- A link's line: `L`, the booking that comes before, the booking that comes after. Links rise strictly by the first, then by the second.
-- Assumes nothing.
use Rattle.std.specs.Prelude.{ℕ, List, [], ◌∷◌, ◌++◌, Bool, cond, Result, Ok, Err}
use Rattle.decimal.specs.Decimal.{columns, same_bytes, number_at}
use Rattle.plan.specs.Limits.{in_sequence}
use Rattle.lines.specs.declared.LineFault.{LineFault}
use Rattle.lines.specs.declared.LineFault.TheVariants.{Malformed, OutOfSequence}

unfoldable pub link_text : ℕ → ℕ → List ℕ
link_text u v = 76 ∷ (columns 4 u ++ (columns 4 v ++ (10 ∷ [])))

-- the two bookings at the columns of a line
abbrev pub from_in : List ℕ → ℕ
from_in line = number_at 4 1 line

abbrev pub to_in : List ℕ → ℕ
to_in line = number_at 4 5 line

-- a line is of this form if it is the text of these two
unfoldable pub is_link : List ℕ → Bool
is_link line = same_bytes line (link_text (from_in line) (to_in line))

-- the pair of a line of this form, if it is in sequence
unfoldable pub pair_of : ℕ → ℕ → ℕ → ℕ → ℕ → Result (ℕ × ℕ) LineFault
pair_of n lastFrom last_to u v = cond (in_sequence n lastFrom last_to u v) (Ok (u, v)) (Err OutOfSequence)

-- what a line holds that stands after the link from lastFrom to last_to, in a plan of n bookings
unfoldable pub link_of : List ℕ → ℕ → ℕ → ℕ → Result (ℕ × ℕ) LineFault
link_of line n lastFrom last_to = cond (is_link line) (pair_of n lastFrom last_to (from_in line) (to_in line)) (Err Malformed)
