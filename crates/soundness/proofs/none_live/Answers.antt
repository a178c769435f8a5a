-- What is left of `soundness::none_live`.
-- Assumes nothing.
use Rattle.std.proofs.Common.{rules, tests, refl, ◌∙◌, not, take}
use Rattle.std.proofs.lemmas.Iterator.{YieldsList-from_slice}
use Rattle.std.proofs.lemmas.Iterator.Search.{all_from_yields_List}
use Rattle.network.specs.Network.{way_of}
use Rattle.standing.specs.Ways.{live, live_at}
use Rattle.run.specs.Sound.{passed_over}
use Rattle.soundness.proofs.Listed.{all-front}
use Rattle.soundness.proofs.none_live.Goals as goal

pub returns : goal.returns
unfolding passed_over live_at way_of
returns c =
    let g = c.args.g.now in
    let n = c.args.k in
    all_from_yields_List (λ x. not (live g c.args.s x)) _ _ _ c.all.ensures.ran (YieldsList-from_slice (take n g.way) cc) (λ x b q k. search (rules, tests))
    ∙ all-front (λ x. not (live g c.args.s x)) (passed_over g c.args.s) g.way (λ j. refl) n (search rules)
