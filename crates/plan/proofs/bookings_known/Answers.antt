-- What is left of `plan::bookings_known`.
-- Assumes nothing.
use Rattle.std.proofs.Common.{rules, tests, refl, ◌∙◌, take, ◌&&◌, arith, ℕ}
use Rattle.std.proofs.lemmas.Iterator.{YieldsList-from_slice, YieldsList-from_zip}
use Rattle.std.proofs.lemmas.Iterator.Search.{all_from_yields_List}
use Rattle.plan.specs.Limits.{is_kind, is_desk}
use Rattle.plan.specs.Record.{booking_at}
use Rattle.plan.proofs.Chains.{all-of-both}
use Rattle.plan.proofs.bookings_known.Goals as goal

pub returns : goal.returns
unfolding booking_at
returns c =
    all_from_yields_List (λ (p : ℕ × ℕ). is_kind p.0 && is_desk p.1) c.all.new.self _ _ c.all.ensures.ran
    (YieldsList-from_zip (YieldsList-from_slice (take c.args.n c.args.kind.now) cc) (YieldsList-from_slice (take c.args.n c.args.desk.now) cc))
    (λ x b q k. search (rules, tests))
    ∙ all-of-both _ (booking_at c.args.kind.now c.args.desk.now) _ _ (λ i. refl) c.args.n (omega arith) (omega arith)
