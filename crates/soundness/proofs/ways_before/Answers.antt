-- What is left of `soundness::ways_before`.
-- Assumes nothing.
use Rattle.run.specs.Sound.{ways_before}
use Rattle.soundness.proofs.Tests.{way-before}
use Rattle.soundness.proofs.ways_before.Goals as goal

pub returns-then-w-eq0 : goal.returns-then-w-eq0
unfolding ways_before
returns-then-w-eq0 c = rw c.if-w-eq0.true

pub returns-else-w-eq0 : goal.returns-else-w-eq0
returns-else-w-eq0 c = way-before c.args.g.now c.args.w c.if-w-eq0.false
