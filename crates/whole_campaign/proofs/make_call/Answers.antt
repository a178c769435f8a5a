-- What is left of `whole_campaign::make_call`.
-- Assumes nothing.
use Rattle.std.proofs.Common.{◌≡◌, ◌*◌, arith, rules}
use lib.ListN.{get_or}
use Rattle.whole_campaign.specs.Calls.{gives, leaves}
use Rattle.whole_campaign.proofs.Playing.{at_next, at_block, at-reply}
use Rattle.whole_campaign.proofs.make_call.Goals as goal

pub returns-in-0 : goal.returns-in-0
unfolding gives leaves
returns-in-0 c =
    let e = c.campaign_next_order.ensures in
    record { answer = rw (at_next _ _ _ c.in-0.is) e.answer; left = rw (at_next _ _ _ c.in-0.is) e.left }

pub returns-in-1 : goal.returns-in-1
unfolding gives leaves
returns-in-1 c =
    let e = c.campaign_reply_block.ensures in
    let k = c.in-1.is in
    let n : get_or c.args.calls.now (10 * c.args.i) 0 ≡ 0 → ⊥ = λ z. omega (arith, k) in
    record {
      answer = rw (at_block _ _ _ n k) (rw (c.part-block.ensures, c.word_at-size.ensures, c.word_at-number.ensures) at e.answer);
      left = rw (at_block _ _ _ n k) (rw (c.part-block.ensures, c.word_at-size.ensures, c.word_at-number.ensures) at e.left);
    }

pub returns-in_default : goal.returns-in_default
unfolding gives leaves
returns-in_default c =
    let e = c.campaign_reply.ensures in
    let n : get_or c.args.calls.now (10 * c.args.i) 0 ≡ 0 → ⊥ = search rules in
    let m : get_or c.args.calls.now (10 * c.args.i) 0 ≡ 1 → ⊥ = search rules in
    record {
      answer = rw (at-reply _ _ _ n m) (rw c.word_at-number.ensures at e.answer);
      left = rw (at-reply _ _ _ n m) (rw c.word_at-number.ensures at e.left);
    }
