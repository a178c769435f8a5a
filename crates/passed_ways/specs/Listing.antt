-- The listing of the ways before the current one: a line for each, lowest first, and no other. A line is `V`, the way, then `N` and the way's lowest
-- lost booking, or, if it has none, `H` and the lowest held firm booking that it lacks. Bookings go by index here and are shown by number.
-- Assumes nothing.
use Rattle.std.specs.Prelude.{ℕ, suc, not, cond, List, [], ◌∷◌, ◌++◌, get_or}
use Rattle.std.specs.Int.Bits.{bit_and}
use Rattle.bounded.specs.Bounded.{first}
use Rattle.decimal.specs.Decimal.{columns}
use Rattle.decimal.specs.Rows.{in_row}
use Rattle.sets.specs.Sets.{member, without, disjoint_from}
use Rattle.network.specs.declared.Network.{Network}
use Rattle.standing.specs.declared.Standing.{Standing}
use Rattle.standing.specs.Ways.{held_firm}
use Rattle.run.specs.State.{standing}
use Rattle.run.specs.Sound.{ways_before}
use Rattle.run.specs.declared.Run.{Run}
use Rattle.passed_ways.specs.declared.Reason.{Reason}
use Rattle.passed_ways.specs.declared.Reason.TheVariants.{Lost, Lacks}

-- ---- why a way is out

-- the lowest member of a set, 64 where it has none
unfoldable pub lowest : ℕ → ℕ
lowest s = first (member s) 64

-- lost is the set of the lost bookings, firm that of the held firm ones, way that of the way's
unfoldable pub reason_of : ℕ → ℕ → ℕ → Reason
reason_of lost firm way = cond (not (disjoint_from way lost)) (Lost (lowest (bit_and way lost))) (Lacks (lowest (without firm way)))

-- ---- its line

-- its bytes, the line feed included
abbrev pub line_bytes : ℕ
line_bytes = 11

-- N or H
abbrev pub letter_of : Reason → ℕ
letter_of (Lost b) = 78
letter_of (Lacks b) = 72

abbrev pub booking_of : Reason → ℕ
booking_of (Lost b) = b
booking_of (Lacks b) = b

-- the line of way number x
unfoldable pub line_text : ℕ → Reason → List ℕ
line_text x y = 86 ∷ (columns 4 x ++ (letter_of y ∷ (columns 4 (suc (booking_of y)) ++ (10 ∷ []))))

-- ---- the listing

-- the line of the way at index k among the sets ways
unfoldable pub row_of : ℕ → ℕ → List ℕ → ℕ → List ℕ
row_of lost firm ways k = line_text (suc k) (reason_of lost firm (get_or ways k 0))

-- the ways before way w, all of them for 0
unfoldable pub listing_of : Network → Standing → ℕ → List ℕ
listing_of g s w = in_row (row_of s.lost (held_firm g s) g.way) (ways_before g w)

-- by a state: the ways before its current one
unfoldable pub listing : Network → Run → List ℕ
listing g r = listing_of g (standing g r) r.way
