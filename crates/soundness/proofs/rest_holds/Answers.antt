-- What is left of `soundness::rest_holds`.
-- Assumes nothing.
use Rattle.std.proofs.Common.{arith}
use Rattle.std.proofs.lemmas.Grind.{common_steps}
use Rattle.run.specs.Sound.{firm_inside}
use Rattle.standing.specs.Ways.{held_firm}
use Rattle.soundness.specs.Parts.{rest_holds}
use Rattle.soundness.proofs.rest_holds.Goals as goal

pub returns-then-desks_kept : goal.returns-then-desks_kept
unfolding rest_holds firm_inside held_firm
returns-then-desks_kept c = grind (arith, common_steps)

pub returns-else-desks_kept : goal.returns-else-desks_kept
unfolding rest_holds firm_inside held_firm
returns-else-desks_kept c = grind (arith, common_steps)
