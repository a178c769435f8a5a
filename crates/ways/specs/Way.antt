-- Reading a way line: the letter and the count for form, the count for its limits, then the rest of the line for form, and last
-- the numbers for their sequence. So a count outside its limits is told before anything that follows it, and a surplus number is a
-- fault of form. Then what a line that was accepted has in its columns.
-- Assumes nothing.
use Rattle.std.specs.Prelude.{Bool, cond, List, ℕ, zero, suc, ◌+◌, ◌*◌, ◌-◌, eqb, get_or, take, drop, Result, Ok, Err, is_ok}
use Rattle.bounded.specs.Bounded.{all}
use Rattle.sets.specs.Sets.{insert}
use Rattle.plan.specs.Limits.{within}
use Rattle.decimal.specs.Decimal.{Field, field_at, number_at}
use Rattle.decimal.specs.declared.NoNumber.TheVariants as N
use Rattle.lines.specs.declared.LineFault.{LineFault}
use Rattle.lines.specs.declared.LineFault.TheVariants as L
use Rattle.ways.specs.WayText.{way_front_bytes}
use Rattle.ways.specs.declared.WayFault.{WayFault}
use Rattle.ways.specs.declared.WayFault.TheVariants.{Malformed, OutOfLimits, OutOfSequence}

-- the count at the front of a line, after the letter
unfoldable pub count_of : List ℕ → Field
count_of front = cond (eqb (get_or front 0 0) 65) (field_at 4 1 front) (Err N.Fault)

-- field j is a number
unfoldable pub number_there : List ℕ → ℕ → Bool
number_there fields j = is_ok (field_at 4 (4 * j) fields)

-- past a number that is out of sequence, k more fields decide between form and sequence
unfoldable pub sequence_or_form : ℕ → List ℕ → LineFault
sequence_or_form k fields = cond (all (number_there fields) k) L.OutOfSequence L.Malformed

-- on with a number that is above the last and at most n
abbrev pub after_number : Field → ℕ → ℕ → LineFault → (ℕ → Result ℕ LineFault) → Result ℕ LineFault
after_number (Ok x) n last refused next = cond (within (last + 1) x n) (next x) (Err refused)
after_number (Err none) n last refused next = Err L.Malformed

-- the set s with k numbers more, which rise strictly from above last and are at most n; booking number x has index x - 1
unfoldable pub gather_of : ℕ → ℕ → ℕ → ℕ → List ℕ → Result ℕ LineFault
gather_of n last s zero fields = Ok s
gather_of n last s (suc k) fields =
    after_number (field_at 4 0 fields) n last (sequence_or_form k (drop 4 fields)) (λ x. gather_of n x (insert s (x - 1)) k (drop 4 fields))

-- a line feed stands at a place of the rest
unfoldable pub line_feed_at : ℕ → List ℕ → Bool
line_feed_at at rest = eqb (get_or rest at 0) 10

-- why a line is refused for its numbers
abbrev pub way_fault : LineFault → WayFault
way_fault L.Malformed = Malformed
way_fault L.OutOfSequence = OutOfSequence

abbrev pub as_way : ℕ → Result ℕ LineFault → Result (ℕ × ℕ) WayFault
as_way k (Ok s) = Ok (k, s)
as_way k (Err fault) = Err (way_fault fault)

-- the line after its count k: form, then sequence
unfoldable pub members_of : ℕ → ℕ → List ℕ → Result (ℕ × ℕ) WayFault
members_of n k rest = cond (line_feed_at (way_front_bytes + 4 * k) rest) (as_way k (gather_of n 0 0 k (drop way_front_bytes rest))) (Err Malformed)

-- a way has 1 to n bookings
abbrev pub after_count : Field → ℕ → List ℕ → Result (ℕ × ℕ) WayFault
after_count (Ok k) n rest = cond (within 1 k n) (members_of n k rest) (Err OutOfLimits)
after_count (Err none) n rest = Err Malformed

-- the first line of the rest of a sheet, as a way of a plan with n bookings: how many bookings it has, and their set
unfoldable pub way_line_of : ℕ → List ℕ → Result (ℕ × ℕ) WayFault
way_line_of n rest = after_count (count_of (take way_front_bytes rest)) n rest

-- ---- the columns of that line

-- its count
abbrev pub count_in : List ℕ → ℕ
count_in rest = number_at 4 1 rest

-- its number j is that of the booking at index b
unfoldable pub number_is : List ℕ → ℕ → ℕ → Bool
number_is rest b j = eqb (number_at 4 (way_front_bytes + 4 * j) rest) (b + 1)
