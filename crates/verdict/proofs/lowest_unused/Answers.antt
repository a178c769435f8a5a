-- What is left of `verdict::lowest_unused`.
-- Assumes nothing.
use Rattle.std.proofs.Common.{rules, tests}
use Rattle.std.proofs.lemmas.Iterator.{first_from_Range}
use Rattle.verdict.specs.Check.{unused}
use Rattle.bounded.proofs.Sought.{sought-by}
use Rattle.verdict.proofs.lowest_unused.Goals as goal

pub returns : goal.returns
unfolding unused
returns c = let g = c.args.chart.now.network in sought-by (unused g) g.n _ (first_from_Range _ _ _ _ _ _ c.find.ensures.ran (λ x q k. search (rules, tests, c.used-used.ensures)) (λ x q k. search (rules, tests, c.used-used.ensures)))
