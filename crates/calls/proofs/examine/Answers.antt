-- What is left of `calls::examine`.
-- Assumes nothing.
use mathlib.Core.Path.{◌≡◌}
use mathlib.Core.Bool.{true}
use Rattle.std.specs.Prelude.{Result, MatchResult}
use Rattle.calls.specs.Calls.{passes_within, check_within}
use Rattle.calls.specs.Refusals.{Refused}
use Rattle.calls.specs.declared.Refusal.{Refusal}
use Rattle.calls.proofs.Exits.{on-err, unread, unread-refused, judged-unread, can-network, can-check, told-of, told-refused, told-passed}
use Rattle.calls.proofs.examine.Goals as goal

pub returns-in_err-outline : goal.returns-in_err-outline
returns-in_err-outline c =
    let m = c.args.most in
    let s = c.args.sheet.now in
    on-err (λ (r : Result (Unit {0}) Refusal). MatchResult r (λ u. passes_within m s ≡ true) (Refused (passes_within m s) (check_within m s))) _ _ c.from_residual.ensures.1
    (judged-unread _ _ _ (unread-refused _ _ _ (unread m s _ c.in_err-outline.ensures.told).judged))

pub network_of-requires : goal.network_of-requires
network_of-requires c = let e = c.in_ok-outline.ensures in can-network _ _ _ _ _ e.told e.left.0 e.left.1

pub invariant_of-chart : goal.invariant_of-chart
invariant_of-chart c =
    let e = c.in_ok-outline.ensures in
    let h = can-check _ _ _ _ _ e.told e.left.0 e.left.1 _ c.network_of.ensures in
    record { few_bookings = h.0; few_ways = h.1 }

pub returns-in_err-check : goal.returns-in_err-check
returns-in_err-check c =
    let m = c.args.most in
    let s = c.args.sheet.now in
    let e = c.in_ok-outline.ensures in
    on-err (λ (r : Result (Unit {0}) Refusal). MatchResult r (λ u. passes_within m s ≡ true) (Refused (passes_within m s) (check_within m s))) _ _ c.from_residual-in_err-check.ensures.1
    (told-refused m s _ (told-of _ _ _ _ _ e.told e.left.0 e.left.1 _ c.network_of.ensures _ c.check.ensures) _ c.in_err-check.was)

pub returns : goal.returns
returns c =
    let m = c.args.most in
    let s = c.args.sheet.now in
    let e = c.in_ok-outline.ensures in
    (told-passed m s _ (told-of _ _ _ _ _ e.told e.left.0 e.left.1 _ c.network_of.ensures _ c.check.ensures) _ c.in_ok-check.was).holds
