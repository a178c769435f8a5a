-- What is left of `join::pair_ways`.
-- Assumes nothing.
use mathlib.Core.Path.{refl, sym}
use native.Mathlib.Omega.{arith}
use Rattle.join.proofs.Rows.{laying-put, laying-all, pair-at, pair-past}
use Rattle.join.proofs.pair_ways.Goals as goal

pub loop-i-preserved : goal.loop-i-preserved
loop-i-preserved c =
    let a = c.args in
    let l = c.loop-i in
    laying-put _ _ l.i l.way _ _ l.invariant refl (omega (arith, c.requires.few)) (rw c.bit-up.ensures (sym (pair-at a.k a.l a.n a.xs.now a.ys.now l.i (omega arith))))

pub returns : goal.returns
returns c =
    let a = c.args in
    let l = c.loop-i in
    laying-all _ _ l.i l.way l.invariant (λ j h. pair-past a.k a.l a.n a.xs.now a.ys.now j (omega arith))
