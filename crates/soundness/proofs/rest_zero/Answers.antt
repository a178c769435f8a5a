-- What is left of `soundness::rest_zero`.
-- Assumes nothing.
use Rattle.std.proofs.Common.{rules, tests, ◌∙◌, take, drop, ◌-◌}
use lib.Dec.{eqb}
use Rattle.std.proofs.lemmas.Iterator.{YieldsList-from_slice}
use Rattle.std.proofs.lemmas.Iterator.Search.{all_from_yields_List}
use Rattle.standing.specs.Standing.{free, code_is}
use Rattle.run.specs.Sound.{zero_past, rest_zero}
use Rattle.soundness.proofs.Listed.{all-back}
use Rattle.soundness.proofs.rest_zero.Goals as goal

pub returns : goal.returns
unfolding rest_zero zero_past code_is
returns c =
    let r = c.args.r.now in
    let n = c.args.chart.now.network.n in
    all_from_yields_List (λ x. eqb x free) _ _ _ c.all.ensures.ran (YieldsList-from_slice (take (64 - n) (drop n r.code)) cc) (λ x b q k. search (rules, tests))
    ∙ all-back (λ x. eqb x free) r.code n 64 (search rules) c.args.chart.now.few_bookings
