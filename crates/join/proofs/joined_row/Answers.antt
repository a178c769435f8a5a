-- What is left of `join::joined_row`.
-- Assumes nothing.
use mathlib.Core.Path.{sym}
use Prim.Native.Nat.{◌+◌}
use native.Mathlib.Nat.{add-zero}
use native.Mathlib.Omega.{arith}
use Rattle.join.proofs.Rows.{laying-copied, laying-put, laying-all, row_first, row-second, row-past}
use Rattle.join.proofs.joined_row.Goals as goal

pub loop-i-init : goal.loop-i-init
loop-i-init g c =
    let a = c.args in
    rw (c.copy_from_slice.ensures.after, add-zero)
    (laying-copied g.row.N _ a.k a.xs.now (omega (arith, c.requires.room)) (omega (arith, c.requires.room)) (row_first a.k a.l a.up a.xs.now a.ys.now))

pub loop-i-preserved : goal.loop-i-preserved
loop-i-preserved g c =
    let a = c.args in
    let l = c.loop-i in
    laying-put _ _ (a.k + l.i) l.row _ _ l.invariant (omega arith) (omega (arith, c.requires.room)) (sym (row-second a.k a.l a.up a.xs.now a.ys.now l.i (omega arith)))

pub returns : goal.returns
returns g c =
    let a = c.args in
    let l = c.loop-i in
    laying-all _ _ (a.k + l.i) l.row l.invariant (λ j h. row-past a.k a.l a.up a.xs.now a.ys.now j (omega arith))
