-- What is left of `verdict::take_from_members`.
-- Assumes nothing.
use Rattle.std.proofs.Common.{◌≡◌}
use Rattle.verdict.proofs.Parts.{take_none, take_more, take_all}
use Rattle.verdict.proofs.take_from_members.Goals as goal

pub loop-x-init : goal.loop-x-init
loop-x-init c =
    let e : c.into_iter-x-iterator.result.rest ≡ c.args.up = cc in
    rw e (take_none _ _ _ c.ranges.up.fits c.requires)

pub loop-x-preserved : goal.loop-x-preserved
loop-x-preserved c =
    let s = c.in-Some.ensures.steps in
    take_more _ _ _ _ _ _ _ _ s.some s.lowest s.others c.minus.ensures c.loop-x.invariant

pub returns : goal.returns
returns c = take_all _ _ _ _ _ c.in-None.ensures.steps.0 c.loop-x.invariant
