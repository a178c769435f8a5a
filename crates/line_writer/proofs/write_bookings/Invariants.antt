-- What the loop of `line_writer::write_bookings` keeps.
-- Assumes nothing.
use Prim.Native.Nat.{◌*◌, ◌-◌}
use mathlib.Core.Path.{◌≡◌}
use lib.ListN.{length}
use lib.Seq.{sets}
use Rattle.lines.specs.Form.{booking_bytes}
use Rattle.lines.specs.Bookings.{bookings_text}
use Rattle.line_writer.proofs.write_bookings.Given as goal

abbrev pub invariant-loop-i : goal.invariant-loop-i
invariant-loop-i l = (length l.text ≡ length l.initial.text) × (sets l.text (booking_bytes * l.i) (bookings_text (l.n - l.i) l.i l.kind l.desk) ≡ sets l.initial.text 0 (bookings_text l.n 0 l.kind l.desk))
