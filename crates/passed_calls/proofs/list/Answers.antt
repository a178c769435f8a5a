-- What is left of `passed_calls::list`.
-- Assumes nothing.
use Rattle.std.proofs.Common.{◌≡◌, rules, length}
use native.Mathlib.Omega.{arith}
use Rattle.standing.specs.Ways.{held_firm}
use Rattle.calls.specs.Refusals.{Answers}
use Rattle.calls.proofs.Exits.{on-err}
use Rattle.passed_calls.specs.Passed.{passed_call}
use Rattle.passed_calls.proofs.Exits.{refused, few, short, written}
use Rattle.passed_calls.proofs.list.Goals as goal

pub returns-in_err-campaign : goal.returns-in_err-campaign
returns-in_err-campaign c =
    let d = c.args.listing.now in
    let t = refused c.args.sheet.now c.args.state.now _ c.in_err-campaign.ensures d in
    record { answer = on-err (Answers (passed_call c.args.sheet.now c.args.state.now (length d))) _ _ c.from_residual.ensures.1 t.answer; left = t.left }

pub overflow_mul-size : goal.overflow_mul-size
overflow_mul-size c =
    let h = few _ _ _ c.in_ok-campaign.ensures _ c.ways_before-count.ensures c.in_ok-campaign.campaign.chart.few_ways in
    search (rules, h)

pub returns-then-listing-size : goal.returns-then-listing-size
returns-then-listing-size c =
    let t = short _ _ _ c.in_ok-campaign.ensures _ c.ways_before-count.ensures _ c.if-listing-size.true in
    record { answer = t.answer; left = t.left }

pub shared_ref_as_front-ways : goal.shared_ref_as_front-ways
shared_ref_as_front-ways c = few _ _ _ c.in_ok-campaign.ensures _ c.ways_before-count.ensures c.in_ok-campaign.campaign.chart.few_ways

pub returns : goal.returns
unfolding held_firm
returns c =
    let few = few _ _ _ c.in_ok-campaign.ensures _ c.ways_before-count.ensures c.in_ok-campaign.campaign.chart.few_ways in
    let sixteen : length c.in_ok-campaign.campaign.chart.network.way ≡ 16 = search (rules, rw c.in_ok-campaign.was at c.take_up.type_inv) in
    let t = written _ _ _ c.in_ok-campaign.ensures _ c.ways_before-count.ensures (omega arith) _ c.if-listing-size.false _ c.pack.ensures _ c.write_listing.ensures in
    record { answer = t.answer; left = t.left }
