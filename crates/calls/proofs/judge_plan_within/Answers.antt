-- What is left of `calls::judge_plan_within`.
-- Assumes nothing.
use mathlib.Core.Path.{refl}
use Rattle.calls.specs.Refusals.{PlanRead}
use Rattle.calls.proofs.Exits.{on-err, unread, can-network, can-check, plan-told}
use Rattle.calls.proofs.judge_plan_within.Goals as goal

pub returns-in_err-outline-clause-told : goal.returns-in_err-outline-clause-told
returns-in_err-outline-clause-told c = on-err (PlanRead c.args.most c.args.sheet.now) _ _ c.from_residual.ensures.1 (unread _ _ _ c.in_err-outline.ensures.told)

pub network_of-network-requires : goal.network_of-network-requires
network_of-network-requires c = let e = c.in_ok-outline.ensures in can-network _ _ _ _ _ e.told e.left.0 e.left.1

pub invariant_of-planned : goal.invariant_of-planned
invariant_of-planned c =
    let e = c.in_ok-outline.ensures in
    let h = can-check _ _ _ _ _ e.told e.left.0 e.left.1 _ c.network_of-network.ensures in
    record { few_bookings = h.0; few_ways = h.1 }

pub returns-clause-told : goal.returns-clause-told
returns-clause-told c = let e = c.in_ok-outline.ensures in plan-told _ _ _ _ _ e.told e.left.0 e.left.1 _ c.network_of-network.ensures _ _ refl c.check-planned.ensures
