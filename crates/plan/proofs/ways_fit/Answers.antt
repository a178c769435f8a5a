-- What is left of `plan::ways_fit`.
-- Assumes nothing.
use Rattle.std.proofs.Common.{rules, tests, refl, ◌∙◌, take, ltb, ◌^◌, arith}
use Rattle.std.proofs.lemmas.Iterator.{YieldsList-from_slice}
use Rattle.std.proofs.lemmas.Iterator.Search.{all_from_yields_List}
use Rattle.plan.specs.Record.{within_at}
use Rattle.plan.proofs.Chains.{all-of}
use Rattle.plan.proofs.ways_fit.Goals as goal

pub returns : goal.returns
unfolding within_at
returns c =
    all_from_yields_List (λ x. ltb x (2 ^ c.args.n)) _ _ _ c.all.ensures.ran (YieldsList-from_slice (take c.args.a c.args.way.now) cc) (λ x b q k. search (rules, tests))
    ∙ all-of _ (within_at c.args.n c.args.way.now) _ (λ i. refl) c.args.a (omega arith)
