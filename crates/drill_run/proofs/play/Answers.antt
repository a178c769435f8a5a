-- What is left of `drill_run::play`.
-- Assumes nothing.
use Rattle.std.proofs.Common.{arith}
use Rattle.drill_run.specs.Drilled.{begun}
use Rattle.drill_run.proofs.DrillLaws.{order-taken, reply-heard, silence}
use Rattle.drill_run.proofs.play.Goals as goal
use Rattle.drill_run.proofs.play.Goals.{in-TakeOrder, in-ReadReply+in-Some}

pub loop-init : goal.loop-init
loop-init c = record { counted = omega arith; so_far = begun }

pub returns-in_default : goal.returns-in_default
returns-in_default c = silence _ _ _ _ _ _ c.loop.invariant.so_far _ c.hear.ensures c.in_default.is

pub loop-preserved : goal.loop-preserved
loop-preserved c = elim c.match-after_answer.branch [
  | in-TakeOrder w ↦
      (let asked = w.campaign_next_order-bits.ensures in
      record {
        counted = omega arith;
        so_far = rw (w.bits-is, w.state-is) (order-taken _ _ _ _ _ _ c.loop.invariant.so_far _ _ c.after_answer.ensures w.in-TakeOrder.is asked.answer asked.left);
      })
  | in-ReadReply+in-Some w ↦
      record {
        counted = omega arith;
        so_far = rw (w.bits-is, w.state-is) (reply-heard _ _ _ _ _ _ c.loop.invariant.so_far _ w.hear.ensures _ _ c.after_answer.ensures w.in-ReadReply.is w.in-Some.is);
      }
]
