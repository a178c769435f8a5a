-- What is left of `verdict::lowest_circular`.
-- Assumes nothing.
use Rattle.std.proofs.Common.{rules, tests}
use Rattle.std.proofs.lemmas.Iterator.{first_from_Range}
use Rattle.network.specs.Network.{pre, before}
use Rattle.verdict.specs.Check.{circular}
use Rattle.bounded.proofs.Sought.{sought-by}
use Rattle.verdict.proofs.lowest_circular.Goals as goal

pub returns : goal.returns
unfolding circular pre before
returns c = let g = c.args.chart.now.network in sought-by (circular g) g.n _ (first_from_Range _ _ _ _ _ _ c.find.ensures.ran (λ x q k. search (rules, tests)) (λ x q k. search (rules, tests)))
