-- What is left of `whole_campaign::play`.
-- Assumes nothing.
use mathlib.Core.List.{List}
use native.Mathlib.Nat.{sub-zero}
use borrow.Author.Rules.{rules}
use mathlib.Core.Path.{refl, ap, ◌∙◌}
use native.Mathlib.Omega.{arith}
use Prim.Native.Nat.{ℕ, ◌/◌}
use lib.ListN.{length}
use lib.Seq.{sets}
use Rattle.whole_campaign.specs.Play.{list_from, list_in, record_of}
use Rattle.calls.specs.Refusals.{refusal_bits, refusal_place}
use Rattle.calls.proofs.FirstAnswer.{started-is}
use Rattle.whole_campaign.proofs.Playing.{play-turn, play-end, refused-answer, no_room, played}
use Rattle.whole_campaign.proofs.Whole.{from_start}
use Rattle.whole_campaign.proofs.play.Goals as goal

pub returns-then-answer-lt16777216 : goal.returns-then-answer-lt16777216
returns-then-answer-lt16777216 c = let r = refused-answer _ _ refl _ c.campaign_start-answer.ensures.answer c.if-answer-lt16777216.true _ _ _ in record { answer = r.0; left = r.1; whole = λ e. from_start _ e _ }

pub bits-requires : goal.bits-requires
unfolding refusal_place
bits-requires c = omega arith

pub returns-then-log-count : goal.returns-then-log-count
unfolding refusal_bits
returns-then-log-count c = let r = no_room _ _ refl _ c.campaign_start-answer.ensures.answer c.if-answer-lt16777216.false _ _ _ c.if-log-count.true _ c.bits.ensures in record { answer = r.0; left = r.1; whole = λ e. from_start _ e _ }

pub loop-i-init : goal.loop-i-init
loop-i-init c = (search rules, simp sub-zero refl)

pub loop-i-preserved : goal.loop-i-preserved
loop-i-preserved c = (search rules, play-turn _ _ _ _ _ _ _ _ _ _ _ c.loop-i-test.true (search rules) c.make_call-x.ensures.answer c.make_call-x.ensures.left c.write_answer.ensures c.loop-i.invariant.1)

pub returns : goal.returns
unfolding list_in
returns c = let e = c.campaign_start-answer.ensures in
    let h = c.if-answer-lt16777216.false in
    let first = e.left ∙ started-is _ _ refl _ e.answer h in
    let last = play-end c.args.sheet.now c.args.calls.now c.args.blocks.now _ _ _ _ _ c.loop-i-test.false c.loop-i.invariant.1 in
    let r = played _ _ refl _ e.answer h c.args.calls.now c.args.blocks.now c.args.log.now c.if-log-count.false _
    (last ∙ ap (λ (st : List ℕ). sets c.args.log.now 0 (record_of c.args.sheet.now st (list_from (length c.args.calls.now / 10) 0 c.args.calls.now c.args.blocks.now))) first) in
    record { answer = r.0; left = r.1; whole = λ p. from_start _ p _ }
