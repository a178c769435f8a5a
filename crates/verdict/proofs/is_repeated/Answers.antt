-- What is left of `verdict::is_repeated`.
-- Assumes nothing.
use Rattle.std.proofs.Common.{rules, tests, take, ◌∙◌}
use Rattle.std.proofs.lemmas.Iterator.{YieldsList-from_slice}
use Rattle.std.proofs.lemmas.Iterator.Search.{any_from_yields_List}
use lib.Dec.{eqb}
use lib.ListN.{get_or}
use Rattle.network.specs.Network.{way_of}
use Rattle.verdict.specs.Check.{repeated, same_way}
use Rattle.verdict.proofs.Listed.{any-front}
use Rattle.verdict.proofs.is_repeated.Goals as goal

pub returns : goal.returns
unfolding repeated same_way way_of
returns c =
    let ws = c.args.chart.now.network.way in
    let k = c.args.k in
    any_from_yields_List (λ y. eqb y (get_or ws k 0)) _ _ _ c.any.ensures.ran (YieldsList-from_slice (take k ws) cc) (λ x b q h. search (rules, tests)) ∙ any-front (λ y. eqb y (get_or ws k 0)) ws k (search rules)
