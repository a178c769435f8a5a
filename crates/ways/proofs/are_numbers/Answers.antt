-- What is left of `ways::are_numbers`.
-- Assumes nothing.
use Rattle.bounded.proofs.Loops.{all-over}
use Rattle.ways.proofs.ReadLaws.{number-out, number-on}
use Rattle.ways.proofs.are_numbers.Goals as goal

pub returns-then-is_err : goal.returns-then-is_err
returns-then-is_err c = number-out _ _ _ _ _ _ c.field_at.ensures c.is_err.ensures.negation c.if-is_err.true c.loop-j-test.true

pub loop-j-preserved : goal.loop-j-preserved
loop-j-preserved c = number-on _ _ _ _ _ c.field_at.ensures c.is_err.ensures.negation c.if-is_err.false c.loop-j.invariant

pub returns : goal.returns
returns c = all-over _ _ _ c.loop-j.invariant c.loop-j-test.false
