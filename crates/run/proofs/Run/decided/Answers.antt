-- What is left of `run::Run::decided`.
-- Assumes nothing.
use mathlib.Core.Path.{ap}
use native.Mathlib.Omega.{arith}
use borrow.Author.Rules.{rules}
use Rattle.run.specs.declared.Run.{Run}
use Rattle.run.proofs.Steps.{moved-stands}
use Rattle.run.proofs.Run.decided.Goals as goal

pub settle-requires : goal.settle-requires
settle-requires c = (
  omega arith,
  omega (arith, ap (λ (r : Run). r.way) c.put-after.ensures),
  moved-stands c.args.chart.now.network c.args.self _ c.args.s _ c.args.b _ _ (omega arith) (omega arith)
      (search rules) c.requires.1 c.bit.ensures c.moved-moved.ensures c.put-after.ensures,
)
