-- What is left of `decimal::unread`.
-- Assumes nothing.
use Rattle.std.proofs.Common.{◌≡◌, ◌≢◌, rules, arith}
use Rattle.std.proofs.lemmas.Iterator.{cases_from_all, YieldsList-from_slice}
use borrow.Author.Tests.{tests}
use Rattle.decimal.proofs.Laws.{no-blank, all-blank}
use Rattle.decimal.proofs.unread.Goals as goal

pub returns-then-all : goal.returns-then-all
returns-then-all c =
    let p = cases_from_all _ _ _ (λ x. x ≡ 32) (λ x. x ≢ 32) c.if-all.ensures.ran (YieldsList-from_slice c.args.s.now cc) (λ x q k. search (rules, tests)) (λ x q k. search (rules, tests)) in
    all-blank c.args.s.now (λ k h. p k 0 (omega arith) h)

pub returns-else-all : goal.returns-else-all
returns-else-all c =
    let p = cases_from_all _ _ _ (λ x. x ≡ 32) (λ x. x ≢ 32) c.if-all.ensures.ran (YieldsList-from_slice c.args.s.now cc) (λ x q k. search (rules, tests)) (λ x q k. search (rules, tests)) in
    no-blank _ c.args.s.now p.0 p.1 (p.2 0)
