-- What the loop of `ways::read_ways` keeps.
-- Assumes nothing.
use Rattle.std.proofs.Common.{◌≡◌, ◌+◌, ◌*◌, ◌-◌, ◌≤◌, length, drop}
use Rattle.plan.specs.Limits.{most_bookings}
use Rattle.ways.specs.WayText.{way_bytes}
use Rattle.ways.specs.Ways.{ways_of, no_ways}
use Rattle.ways.proofs.read_ways.Given as goal

abbrev pub invariant-loop-i : goal.invariant-loop-i
invariant-loop-i l = (length l.way ≡ 16) × (l.next ≤ l.at + way_bytes most_bookings * l.i) × (ways_of l.n l.first (l.a - l.i) l.i l.next (drop l.next l.s) l.way ≡ ways_of l.n l.first l.a 0 l.at (drop l.at l.s) no_ways)
