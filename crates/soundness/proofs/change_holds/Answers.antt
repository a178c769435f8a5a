-- What is left of `soundness::change_holds`.
-- Assumes nothing.
use Rattle.std.proofs.Common.{arith}
use Rattle.std.proofs.lemmas.Grind.{common_steps}
use Rattle.soundness.specs.Parts.{change_holds}
use Rattle.soundness.proofs.change_holds.Goals as goal

pub returns-then-quiet : goal.returns-then-quiet
unfolding change_holds
returns-then-quiet c = grind (arith, common_steps)

pub returns-else-quiet : goal.returns-else-quiet
unfolding change_holds
returns-else-quiet c = grind (arith, common_steps)
