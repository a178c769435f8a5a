-- What is left of `desks::full`.
-- Assumes nothing.
use Rattle.std.proofs.Common.{◌≡◌, Fits, w64, arith, rules}
use Rattle.desks.proofs.Laws.{far_none, far-more, far-all, far-few}
use Rattle.desks.proofs.full.Goals as goal

pub returns-then-size-limit : goal.returns-then-size-limit
returns-then-size-limit c = far-few _ _ _ (rw c.size.ensures at c.if-size-limit.true)

pub loop-desk-init : goal.loop-desk-init
loop-desk-init c = (omega arith, far_none _ _ _)

pub loop-desk-preserved : goal.loop-desk-preserved
loop-desk-preserved c =
    let f : Fits w64 c.with_desk-at_full.result = search rules in
    (f.fits, far-more _ _ _ c.loop-desk.at_full _ c.loop-desk.desk-index c.loop-desk.invariant.1 c.with_desk-at_full.ensures)

pub returns : goal.returns
returns c =
    let i = c.loop-desk in
    let e : i.desk-index ≡ 8 = omega arith in
    far-all _ _ _ i.at_full i.invariant.0 (rw e at i.invariant.1)
