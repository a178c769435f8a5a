-- What is left of `soundness::returning_outside`.
-- Assumes nothing.
use Rattle.run.specs.Sound.{returning_outside}
use Rattle.soundness.proofs.returning_outside.Goals as goal

pub returns : goal.returns
unfolding returning_outside
returns c = c.disjoint.ensures
