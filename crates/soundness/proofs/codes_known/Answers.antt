-- What is left of `soundness::codes_known`.
-- Assumes nothing.
use Rattle.std.proofs.Common.{rules, tests, refl, ◌∙◌, take}
use lib.Dec.{leb}
use Rattle.std.proofs.lemmas.Iterator.{YieldsList-from_slice}
use Rattle.std.proofs.lemmas.Iterator.Search.{all_from_yields_List}
use Rattle.standing.specs.Standing.{returning}
use Rattle.run.specs.State.{code}
use Rattle.run.specs.Sound.{code_known}
use Rattle.soundness.proofs.Listed.{all-front}
use Rattle.soundness.proofs.codes_known.Goals as goal

pub returns : goal.returns
unfolding code_known code
returns c =
    let r = c.args.r.now in
    all_from_yields_List (λ x. leb x returning) _ _ _ c.all.ensures.ran (YieldsList-from_slice (take c.args.n r.code) cc) (λ x b q k. search (rules, tests))
    ∙ all-front (λ x. leb x returning) (code_known r) r.code (λ j. refl) c.args.n (search rules)
