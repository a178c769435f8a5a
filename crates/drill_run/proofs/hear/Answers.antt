-- What is left of `drill_run::hear`.
-- Assumes nothing.
use Rattle.drill_run.proofs.DrillLaws.{ended}
use Rattle.drill_run.proofs.hear.Goals as goal

pub returns-in_err-n : goal.returns-in_err-n
returns-in_err-n c = rw c.from_residual.ensures (ended _ _)

pub returns-then-n-eq0 : goal.returns-then-n-eq0
returns-then-n-eq0 c = ended _ _
