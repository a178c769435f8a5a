-- What is left of `lines::read_bookings`.
-- Assumes nothing.
use native.Mathlib.Nat.{add-zero, sub-zero, mul-zero}
use Rattle.lines.specs.Bookings.{no_bookings}
use Rattle.lines.proofs.BookingsLaws.{went_on, refused, ended}
use Rattle.lines.proofs.read_bookings.Goals as goal

pub loop-i-init : goal.loop-i-init
unfolding no_bookings
loop-i-init c = simp (add-zero, sub-zero, mul-zero)

pub loop-i-preserved : goal.loop-i-preserved
loop-i-preserved c =
    let l = c.loop-i in
    went_on c.args.n c.args.at l.i c.args.s.now l.kind l.desk _ _ _ c.loop-i-test.true c.part-line.ensures c.read_booking.ensures l.invariant _ _ c.in-Ok.is

pub returns-in-Err : goal.returns-in-Err
returns-in-Err c =
    let l = c.loop-i in
    rw c.on.ensures (refused c.args.n c.args.at l.i c.args.s.now l.kind l.desk _ _ _ c.loop-i-test.true c.part-line.ensures c.read_booking.ensures l.invariant _ c.in-Err.is)

pub returns : goal.returns
returns c = search ended
