-- Reading the way lines of a sheet; and what they list, by their columns alone.
-- Assumes nothing.
use Rattle.std.specs.Prelude.{Bool, List, ℕ, zero, suc, ◌+◌, drop, set, replicate, Result, Ok, Err}
use Rattle.bounded.specs.Bounded.{any, sum}
use Rattle.plan.specs.Limits.{most_ways}
use Rattle.plan.specs.declared.Fault.{Fault}
use Rattle.plan.specs.declared.Fault.TheVariants as J
use Rattle.ways.specs.WayText.{way_bytes}
use Rattle.ways.specs.Way.{way_line_of, count_in, number_is}
use Rattle.ways.specs.declared.WayFault.{WayFault}
use Rattle.ways.specs.declared.WayFault.TheVariants.{Malformed, OutOfLimits, OutOfSequence}
use Rattle.ways.specs.declared.Ways.{Ways}

-- what is wrong with a sheet whose way on line l is refused
abbrev pub way_fault_on : WayFault → ℕ → Fault
way_fault_on Malformed l = J.Form l
way_fault_on OutOfLimits l = J.Count l
way_fault_on OutOfSequence l = J.Sequence l

-- on with the bookings that a line lists, or refused at line l with the ways so far
abbrev pub after_way : Result (ℕ × ℕ) WayFault → ℕ → ℕ → List ℕ → (ℕ → ℕ → Ways) → Ways
after_way (Ok way) l at ws next = next way.0 way.1
after_way (Err fault) l at ws next = record { judged = Err (way_fault_on fault l); next = at; way = ws }

-- the ways of the first lines of the rest of a sheet, from way i + 1 on, which stands on line first + i and at place at
unfoldable pub ways_of : ℕ → ℕ → ℕ → ℕ → ℕ → List ℕ → List ℕ → Ways
ways_of n first zero i at rest ws = record { judged = Ok tt; next = at; way = ws }
ways_of n first (suc more) i at rest ws =
    after_way (way_line_of n rest) (first + i) at ws (λ k s. ways_of n first more (i + 1) (at + way_bytes k) (drop (way_bytes k) rest) (set ws i s))

-- no way yet
unfoldable pub no_ways : List ℕ
no_ways = replicate most_ways 0

-- ---- what the lines list

-- the rest of a sheet from the line of way w + 1 on; each line before it is as long as its count says
unfoldable pub from_way_line : ℕ → List ℕ → List ℕ
from_way_line zero rest = rest
from_way_line (suc w) rest = from_way_line w (drop (way_bytes (count_in rest)) rest)

-- the count on that line
unfoldable pub count_on : List ℕ → ℕ → ℕ
count_on rest w = count_in (from_way_line w rest)

-- the sum of the counts that so many way lines list
unfoldable pub counts_listed : ℕ → List ℕ → ℕ
counts_listed a rest = sum (count_on rest) a

-- one of the numbers on the line of way w + 1 is that of the booking at index b
unfoldable pub listed_on : ℕ → ℕ → List ℕ → Bool
listed_on w b rest = any (number_is (from_way_line w rest) b) (count_on rest w)
