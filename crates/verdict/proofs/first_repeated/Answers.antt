-- What is left of `verdict::first_repeated`.
-- Assumes nothing.
use Rattle.std.proofs.Common.{rules, tests}
use Rattle.std.proofs.lemmas.Iterator.{first_from_Range}
use Rattle.verdict.specs.Check.{repeated}
use Rattle.bounded.proofs.Sought.{sought-by}
use Rattle.verdict.proofs.first_repeated.Goals as goal

pub returns : goal.returns
returns c = let g = c.args.chart.now.network in sought-by (repeated g) g.a _ (first_from_Range _ _ _ _ _ _ c.find.ensures.ran (λ x q k. search (rules, tests)) (λ x q k. search (rules, tests)))
