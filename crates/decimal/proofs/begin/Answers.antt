-- What is left of `decimal::begin`.
-- Assumes nothing.
use Rattle.std.proofs.Common.{◌≡◌, ◌≢◌, ◌∙◌, arith, rules}
use Rattle.std.proofs.lemmas.Iterator.{IsFirst-from_position, YieldsList-from_take, YieldsList-from_slice}
use borrow.Author.Tests.{tests}
use Rattle.decimal.proofs.Laws.{begins_at}
use Rattle.decimal.proofs.begin.Goals as goal

pub returns : goal.returns
returns c =
    let s = c.args.s.now in
    let p = IsFirst-from_position _ _ c.position.result (λ x. x ≢ 32) (λ x. x ≡ 32) c.position.ensures.ran
    (YieldsList-from_take c.saturating_sub-last.result (YieldsList-from_slice s cc) cc) (λ x q k. search (rules, tests)) (λ x q k. search (rules, tests)) in
    let b = begins_at s c.saturating_sub-last.result c.position.result p (omega (arith, c.saturating_sub-last.ensures)) in
    record {
      within = omega (arith, c.unwrap_or.ensures, b.0, c.saturating_sub-last.ensures);
      place = rw (← c.saturating_sub-last.ensures) (c.unwrap_or.ensures ∙ b.1);
    }
