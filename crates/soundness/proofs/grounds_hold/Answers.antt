-- What is left of `soundness::grounds_hold`.
-- Assumes nothing.
use Rattle.std.proofs.Common.{arith}
use Rattle.std.proofs.lemmas.Grind.{common_steps}
use Rattle.run.specs.Sound.{lost_exposed, requested_inside}
use Rattle.soundness.specs.Parts.{grounds_hold}
use Rattle.soundness.proofs.grounds_hold.Goals as goal

pub returns-then-subset : goal.returns-then-subset
unfolding grounds_hold lost_exposed requested_inside
returns-then-subset c = grind (arith, common_steps)

pub returns-else-subset : goal.returns-else-subset
unfolding grounds_hold lost_exposed requested_inside
returns-else-subset c = grind (arith, common_steps)
