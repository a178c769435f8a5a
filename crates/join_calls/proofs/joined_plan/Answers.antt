-- What is left of `join_calls::joined_plan`.
-- Assumes nothing.
use Prim.Native.Nat.{◌*◌, ◌≤◌}
use native.Mathlib.Omega.{arith}
use native.Mathlib.Nat.{mul-le-mul}
use Rattle.std.proofs.lemmas.Result.{err_from_is_err_and}
use Rattle.join.proofs.ValidJoin.{joins}
use Rattle.join_calls.proofs.Exits.{its-plan, its-valid, first-refused, second-refused, too_large, both-within, both-joined}
use Rattle.join_calls.proofs.joined_plan.Goals as goal

pub returns-in_err-p : goal.returns-in_err-p
returns-in_err-p c =
    let p = err_from_is_err_and c.from_residual.result c.from_residual.ensures.1 in
    rw (p.1, p.2) (first-refused _ _ _ c.in_err-p.ensures.told)

pub returns-in_err-q : goal.returns-in_err-q
returns-in_err-q c =
    let p = err_from_is_err_and c.from_residual-in_err-q.result c.from_residual-in_err-q.ensures.1 in
    rw (p.1, p.2) (second-refused _ _ c.in_ok-p.ensures.told.clear _ c.in_err-q.ensures.told)

pub overflow_add-p : goal.overflow_add-p
overflow_add-p c =
    let x = c.in_ok-p.ensures in
    let y = c.in_ok-q.ensures in
    omega (arith, (its-valid _ _ _ _ x.told x.left.0 x.left.1).counts.bookings, (its-valid _ _ _ _ y.told y.left.0 y.left.1).counts.bookings)

pub overflow_add-p-2 : goal.overflow_add-p-2
overflow_add-p-2 c =
    let x = c.in_ok-p.ensures in
    let y = c.in_ok-q.ensures in
    omega (arith, (its-valid _ _ _ _ x.told x.left.0 x.left.1).counts.links, (its-valid _ _ _ _ y.told y.left.0 y.left.1).counts.links)

pub overflow_mul-p : goal.overflow_mul-p
overflow_mul-p c =
    let x = c.in_ok-p.ensures in
    let y = c.in_ok-q.ensures in
    let h : c.in_ok-p.p.a * c.in_ok-q.q.a ≤ 16 * 16 = mul-le-mul (its-valid _ _ _ _ x.told x.left.0 x.left.1).counts.ways (its-valid _ _ _ _ y.told y.left.0 y.left.1).counts.ways in
    omega arith

pub returns-then-not-are_counted : goal.returns-then-not-are_counted
returns-then-not-are_counted c =
    let x = c.in_ok-p.ensures in
    let y = c.in_ok-q.ensures in
    too_large _ _ x.told.clear y.told.clear _ _ (its-plan _ _ _ _ x.told x.left.0 x.left.1) (its-plan _ _ _ _ y.told y.left.0 y.left.1) _ c.ours.ensures c.if-not-are_counted.ensures

pub join_plans-requires : goal.join_plans-requires
join_plans-requires c =
    let x = c.in_ok-p.ensures in
    let y = c.in_ok-q.ensures in
    joins _ _ (its-valid _ _ _ _ y.told y.left.0 y.left.1)
    (both-within _ _ x.told.clear y.told.clear _ _ (its-plan _ _ _ _ x.told x.left.0 x.left.1) (its-plan _ _ _ _ y.told y.left.0 y.left.1) _ c.ours.ensures c.if-not-are_counted.ensures)

pub returns : goal.returns
returns c =
    let x = c.in_ok-p.ensures in
    let y = c.in_ok-q.ensures in
    both-joined _ _ x.told.clear y.told.clear _ _ (its-plan _ _ _ _ x.told x.left.0 x.left.1) (its-plan _ _ _ _ y.told y.left.0 y.left.1) _ c.ours.ensures c.if-not-are_counted.ensures
    _ c.join_plans.ensures
