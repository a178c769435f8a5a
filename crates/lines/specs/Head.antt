-- The head line: `P`, then how many bookings, links and ways there are, and how many matters a desk may have open. It is judged whole for
-- its form, then for these numbers, and then for what the caller takes.
-- Assumes nothing.
use Rattle.std.specs.Prelude.{ℕ, List, [], ◌∷◌, ◌++◌, Bool, not, ◌&&◌, cond, Result, Ok, Err}
use Rattle.decimal.specs.Decimal.{columns, same_bytes, number_at}
use Rattle.plan.specs.Limits.{counted, limits}
use Rattle.plan.specs.declared.Limits.{Limits}
use Rattle.lines.specs.declared.Counts.{Counts}
use Rattle.lines.specs.declared.HeadFault.{HeadFault}
use Rattle.lines.specs.declared.HeadFault.TheVariants.{Malformed, OutOfLimits, Oversize}

unfoldable pub head_text : ℕ → ℕ → ℕ → ℕ → List ℕ
head_text n m a limit = 80 ∷ (columns 4 n ++ (columns 4 m ++ (columns 4 a ++ (columns 4 limit ++ (10 ∷ [])))))

-- the numbers at the columns of a line
abbrev pub booking_count_in : List ℕ → ℕ
booking_count_in line = number_at 4 1 line

abbrev pub link_count_in : List ℕ → ℕ
link_count_in line = number_at 4 5 line

abbrev pub way_count_in : List ℕ → ℕ
way_count_in line = number_at 4 9 line

abbrev pub limit_in : List ℕ → ℕ
limit_in line = number_at 4 13 line

-- a line is of this form if it is the text of these numbers
unfoldable pub is_head : List ℕ → Bool
is_head line = same_bytes line (head_text (booking_count_in line) (link_count_in line) (way_count_in line) (limit_in line))

-- the numbers of a line of this form, if they are within the limits of every sheet, and then within those of the caller
unfoldable pub counts_of : Limits → ℕ → ℕ → ℕ → ℕ → Result Counts HeadFault
counts_of most n m a limit =
    cond (limits n m a limit) (cond (counted most n m a) (Ok (record { bookings = n; links = m; ways = a; limit = limit })) (Err Oversize)) (Err OutOfLimits)

-- what a line holds that stands first, for a caller with such limits
unfoldable pub head_of : Limits → List ℕ → Result Counts HeadFault
head_of most line = cond (is_head line) (counts_of most (booking_count_in line) (link_count_in line) (way_count_in line) (limit_in line)) (Err Malformed)

-- a line of this form whose numbers are within the limits of every sheet and over those of the caller
unfoldable pub over_head : Limits → List ℕ → Bool
over_head most line =
    is_head line && (limits (booking_count_in line) (link_count_in line) (way_count_in line) (limit_in line) && not (counted most (booking_count_in line) (link_count_in line) (way_count_in line)))
