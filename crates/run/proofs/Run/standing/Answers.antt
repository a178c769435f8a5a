-- What is left of `run::Run::standing`.
-- Assumes nothing.
use mathlib.Core.Path.{◌∙◌}
use native.Mathlib.Omega.{arith}
use Rattle.standing.proofs.Codes.{standing-cut}
use Rattle.run.proofs.Run.standing.Goals as goal

pub returns : goal.returns
returns c = c.look.ensures ∙ standing-cut c.args.self.code c.args.n (omega arith)
