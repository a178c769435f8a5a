-- What is left of `plan::counts_fit`.
-- Assumes nothing.
use Rattle.std.proofs.Common.{rules, tests, refl, ◌∙◌, take, arith}
use Rattle.std.proofs.lemmas.Iterator.{YieldsList-from_slice}
use Rattle.std.proofs.lemmas.Iterator.Search.{all_from_yields_List}
use Rattle.sets.specs.Sets.{size_of}
use Rattle.plan.specs.Limits.{within}
use Rattle.plan.specs.Record.{count_at}
use Rattle.plan.proofs.Chains.{all-of}
use Rattle.plan.proofs.counts_fit.Goals as goal

pub returns : goal.returns
unfolding count_at
returns c =
    all_from_yields_List (λ x. within 1 (size_of x) c.args.n) _ _ _ c.all.ensures.ran (YieldsList-from_slice (take c.args.a c.args.way.now) cc) (λ x b q k. search (rules, tests))
    ∙ all-of _ (count_at c.args.n c.args.way.now) _ (λ i. refl) c.args.a (omega arith)
