-- What is left of `ways::gather`.
-- Assumes nothing.
use Rattle.std.proofs.Common.{◌≡◌, ◌+◌, ◌-◌, ◌≤◌, bit_or, arith, sym}
use Rattle.std.proofs.lemmas.Result.{err_from_is_err_and}
use Rattle.sets.specs.Sets.{insert}
use Rattle.sets.proofs.Operations.{put_alone}
use Rattle.plan.proofs.LimitLaws.{within-lo, within-hi}
use Rattle.ways.proofs.ReadLaws.{gather-fault, gather-out, gather-on, gather-end}
use Rattle.ways.proofs.gather.Goals.{Else-not-is_within}
use Rattle.ways.proofs.gather.Goals as goal

-- a number in sequence is above the last, and at most n
above : (c : Else-not-is_within) → c.loop-j.last + 1 ≤ c.in_ok-x.x
above c = within-lo _ _ c.args.n (sym c.if-not-is_within.ensures)

below : (c : Else-not-is_within) → c.in_ok-x.x ≤ c.args.n
below c = within-hi (c.loop-j.last + 1) _ _ (sym c.if-not-is_within.ensures)

pub returns-in_err-x : goal.returns-in_err-x
returns-in_err-x c =
    let p = err_from_is_err_and c.from_residual.result c.from_residual.ensures.1 in
    rw (p.1, p.2) (gather-fault _ _ _ _ _ _ _ _ c.loop-j-test.true c.loop-j.invariant.1 _ c.in_err-x.ensures)

pub returns-then-not-is_within : goal.returns-then-not-is_within
returns-then-not-is_within c =
    rw c.sequence_or_form.ensures (gather-out _ _ _ _ _ _ _ _ c.loop-j-test.true c.loop-j.invariant.1 _ c.in_ok-x.ensures c.if-not-is_within.ensures)

pub overflow_sub-x : goal.overflow_sub-x
overflow_sub-x c = omega (arith, above c)

pub bit-set-requires : goal.bit-set-requires
bit-set-requires c = omega (arith, above c, below c)

pub loop-j-preserved : goal.loop-j-preserved
loop-j-preserved c =
    let w = (goal.at.loop-j-preserved c).Else-not-is_within in
    let put : bit_or c.loop-j.set c.bit-set.result ≡ insert c.loop-j.set (c.in_ok-x.x - 1) = put_alone _ _ _ c.bit-set.ensures (omega (arith, above w, below w)) (omega arith) in
    (below w, rw put (gather-on _ _ _ _ _ _ _ _ c.loop-j-test.true c.loop-j.invariant.1 _ c.in_ok-x.ensures c.if-not-is_within.ensures))

pub returns : goal.returns
returns c = gather-end _ _ _ _ _ _ _ c.loop-j-test.false c.loop-j.invariant.1
