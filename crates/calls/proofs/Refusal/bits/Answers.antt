-- What is left of `calls::Refusal::bits`.
-- Assumes nothing.
use Rattle.std.proofs.Common.{◌∙◌, sym, arith, Err}
use mathlib.Core.Path.{ap₂}
use mathlib.Core.Logic.{inl, inr}
use Rattle.plan.proofs.RecordLaws.{refusal-few}
use Rattle.guarantee.specs.Answers.{pack}
use Rattle.calls.specs.Calls.{judged_bits}
use Rattle.calls.specs.Refusals.{refusal_bits, refusal_place, own_bits}
use Rattle.calls.proofs.Exits.{fault-bits, fault-few}
use Rattle.calls.proofs.Refusal.bits.Goals as goal

pub pack-requires : goal.pack-requires
unfolding refusal_place
pack-requires c =
    let h = rw c.in-Sheet.is at c.requires in
    (omega arith, omega (arith, c.from.ensures, c.refusal.ensures, refusal-few (Err c.in-Sheet.fault)), omega (arith, c.line.ensures))

pub place-requires : goal.place-requires
unfolding refusal_place
place-requires c = rw c.in-Plan.is at c.requires

pub pack-requires-in-Plan : goal.pack-requires-in-Plan
unfolding refusal_place
pack-requires-in-Plan c =
    let h = rw c.in-Plan.is at c.requires in
    (omega arith, omega (arith, c.from-in-Plan.ensures, c.refusal-in-Plan.ensures, fault-few c.in-Plan.fault), omega (arith, c.place.ensures))

pub returns-in-Sheet : goal.returns-in-Sheet
unfolding refusal_bits judged_bits
returns-in-Sheet c = c.pack.ensures ∙ rw c.in-Sheet.is (ap₂ (pack 0) (c.from.ensures ∙ c.refusal.ensures) c.line.ensures)

pub returns-in-Plan : goal.returns-in-Plan
unfolding refusal_bits
returns-in-Plan c = c.pack-in-Plan.ensures ∙ rw c.in-Plan.is (ap₂ (pack 0) (c.from-in-Plan.ensures ∙ c.refusal-in-Plan.ensures) c.place.ensures ∙ sym (fault-bits c.in-Plan.fault))

pub returns-in-Reply : goal.returns-in-Reply
unfolding own_bits refusal_bits
returns-in-Reply c = c.own_bits.ensures ∙ elim c.in-Reply.is [
  | inl e ↦ rw e.1
  | inr w ↦ elim w [
    | inl e ↦ rw e
    | inr e ↦ rw e
  ]
]
