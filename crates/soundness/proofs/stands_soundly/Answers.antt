-- What is left of `soundness::stands_soundly`.
-- Assumes nothing.
use Rattle.std.proofs.Common.{arith}
use Rattle.std.proofs.lemmas.Grind.{common_steps}
use Rattle.soundness.specs.Parts.{stands_soundly}
use Rattle.soundness.proofs.stands_soundly.Goals as goal

pub returns-then-change_holds : goal.returns-then-change_holds
unfolding stands_soundly
returns-then-change_holds c = grind (arith, common_steps)

pub returns-else-change_holds : goal.returns-else-change_holds
unfolding stands_soundly
returns-else-change_holds c = grind (arith, common_steps)
