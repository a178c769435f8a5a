-- What is left of `standing::preceding`.
-- Assumes nothing.
use Rattle.std.proofs.Common.{rules, arith, Fits, w64, get_or}
use lib.Bits.{or_lt}
use Rattle.sets.proofs.Whole.{cut_fits}
use Rattle.standing.proofs.Loops.{join-none, join-on, join-all}
use Rattle.standing.proofs.preceding.Goals as goal

pub loop-v-init : goal.loop-v-init
loop-v-init c =
    rw (c.into_iter-v-iterator.ensures.into_iter_gives, c.members_of-v-items.ensures)
    (omega arith, join-none _ _ (cut_fits c.args.s _ _ c.all_below.ensures c.requires))

pub loop-v-preserved : goal.loop-v-preserved
loop-v-preserved c =
    let t = c.in-Some.ensures.steps in
    let i = c.loop-v.invariant in
    let f : Fits w64 (get_or c.args.g.now.before c.in-Some.v 0) = search rules in
    (or_lt 64 _ _ i.0 f.fits, join-on _ _ _ _ _ _ t.lowest t.others t.some i.1)

pub returns : goal.returns
returns c =
    let i = c.loop-v.invariant in
    join-all c.args.g.now c.args.s _ _ _ c.all_below.ensures i.0 c.in-None.ensures.steps.0
    (rw (c.into_iter-v-iterator.ensures.into_iter_gives, c.members_of-v-items.ensures) at i.1)
