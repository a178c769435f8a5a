-- What the loop of `lines::read_bookings` keeps.
-- Assumes nothing.
use Prim.Native.Nat.{◌+◌, ◌*◌, ◌-◌}
use mathlib.Core.Path.{◌≡◌}
use lib.ListN.{drop}
use Rattle.lines.specs.Form.{booking_bytes}
use Rattle.lines.specs.Bookings.{bookings_of, no_bookings}
use Rattle.lines.proofs.read_bookings.Given as goal

abbrev pub invariant-loop-i : goal.invariant-loop-i
invariant-loop-i l = bookings_of (l.n - l.i) l.i (drop (l.at + booking_bytes * l.i) l.s) l.kind l.desk ≡ bookings_of l.n 0 (drop l.at l.s) no_bookings no_bookings
