-- What is left of `calls::ask`.
-- Assumes nothing.
use mathlib.Core.Path.{ap, ◌∙◌}
use native.Mathlib.Omega.{arith}
use Rattle.run.specs.declared.Ordered.{Ordered}
use Rattle.run.specs.Bytes.{bytes_of}
use Rattle.guarantee.specs.Answers.{order_bits}
use Rattle.guarantee.specs.Machine.{next_order, answer, after}
use Rattle.calls.specs.Calls.{asked_call}
use Rattle.calls.specs.Refusals.{Answers}
use Rattle.calls.proofs.Places.{order_small}
use Rattle.calls.proofs.Exits.{on-err, asked-refused, step-answers, step-leaves}
use Rattle.calls.proofs.ask.Goals as goal

pub returns-in_err-campaign : goal.returns-in_err-campaign
returns-in_err-campaign c =
    let s = c.args.sheet.now in
    let bs = c.args.state.now in
    let t = asked-refused s bs _ c.in_err-campaign.ensures next_order in
    record { answer = on-err (Answers (asked_call s bs next_order)) _ _ c.from_residual.ensures.1 t.0; left = t.1 }

pub order_bits-requires : goal.order_bits-requires
order_bits-requires c =
    let t = c.in_ok-campaign.ensures in
    let h = c.in_ok-campaign.campaign.chart.few_bookings in
    rw c.next_order-ordered.ensures (order_small _ _ h (omega (arith, t.way)))

pub returns : goal.returns
unfolding answer after
returns c =
    let t = c.in_ok-campaign.ensures in
    record {
      answer = record { bits = step-answers _ _ _ t next_order _ (c.order_bits.ensures ∙ ap (λ (u : Ordered). order_bits u.order) c.next_order-ordered.ensures); fits = tt };
      left = step-leaves _ _ _ t next_order _ (c.store.ensures ∙ ap (λ (u : Ordered). bytes_of u.run) c.next_order-ordered.ensures);
    }
