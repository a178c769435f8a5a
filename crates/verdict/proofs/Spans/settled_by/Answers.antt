-- What is left of `verdict::Spans::settled_by`.
-- Assumes nothing.
use Rattle.std.proofs.Common.{◌≡◌, refl, rules}
use mir.Val.{Fits}
use mir.Syntax.{w64}
use lib.ListN.{get_or}
use Rattle.network.specs.Network.{before}
use Rattle.verdict.proofs.Parts.{leads-none, leads-more, leads-all, settled_is}
use Rattle.verdict.proofs.Spans.settled_by.Goals as goal

pub loop-i-init : goal.loop-i-init
loop-i-init c =
    let e : c.into_iter-i-iterator.result.rest ≡ c.args.s = cc in
    rw e (leads-none _ _ _ c.ranges.s.fits c.all_below-r.ensures)

pub loop-i-preserved : goal.loop-i-preserved
loop-i-preserved c =
    let s = c.in-Some.ensures.steps in
    leads-more _ _ _ _ _ _ s.some s.lowest s.others c.loop-i.invariant

pub returns : goal.returns
unfolding before
returns c =
    let g = c.args.chart.now.network in
    let f : Fits w64 (get_or g.before c.args.x 0) = search rules in
    settled_is g _ _ _ c.requires.2 _ _ _ c.args.chart.now.few_bookings c.requires.0.upto refl f.fits c.loop-i.invariant.fits (leads-all _ _ _ _ c.in-None.ensures.steps.0 c.loop-i.invariant)
