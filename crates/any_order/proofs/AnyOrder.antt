-- Desks in any order: the theorem, for all bytes of a sheet and of a state. A next order that takes no order changes nothing, so a list of calls
-- leaves what its replies alone leave.
-- Assumes nothing.
use mathlib.Core.Path.{◌≡◌, refl, sym, ap, subst, ◌∙◌}
use mathlib.Core.Logic.{◌≢◌, inl, inr}
use mathlib.Core.Bool.{true, false}
use mathlib.Core.List.{List, [], ◌∷◌}
use Prim.Native.Nat.{ℕ, suc, ◌≤◌}
use native.Mathlib.Omega.{arith}
use lib.ListN.{get_or}
use borrow.Author.Tests.{ne_eqb}
use Rattle.bounded.specs.Bounded.{one}
use Rattle.bounded.proofs.Bools.{which, clash, off}
use Rattle.network.specs.declared.Network.{Network}
use Rattle.run.specs.Bytes.{bytes_of, run_of}
use Rattle.run.specs.declared.Run.{Run}
use Rattle.run.specs.declared.Ordered.{Ordered}
use Rattle.run.proofs.Facts.{Sound}
use Rattle.guarantee.specs.Answers.{order_bits}
use Rattle.guarantee.specs.Machine.{Asked, next_order, replied, answer, after}
use Rattle.guarantee.specs.Counted.{sends, tally}
use Rattle.guarantee.specs.AnyOrder.{Rearranged, every, is_reply, no_order, not_to, different}
use Rattle.guarantee.proofs.Moved.{kind-pack}
use Rattle.guarantee.proofs.Rearranged.{different-rearranged}
use Rattle.lent_state.proofs.Due.{Sent, requests, gives_back, nothing, sent}
use Rattle.calls.specs.Calls.{network_in, sheet_passes, asked_call, asked_leaves, in_order}
use Rattle.calls.proofs.Exits.{refused-asked}
use Rattle.calls.proofs.InOrder.{passing, sheet-passes, state-holds}
use Rattle.whole_campaign.specs.Calls.{Call, single, singles, gives, leaves, gives_by, leaves_by}
use Rattle.whole_campaign.specs.Lists.{answers_on, left_on}
use Rattle.whole_campaign.specs.Singly.{singly_on, told_on}
use Rattle.whole_campaign.proofs.Parts.{flat, flat-final, singles-final, singles-answers, told-calls, told-answers}
use Rattle.whole_campaign.proofs.Whole.{gives-is, leaves-is, answers-is, left_is}
use Rattle.whole_campaign.proofs.Given.{bytes}
use Rattle.any_order.specs.AnyOrder.{replies_in, replies_told, takes, orders_taken, EitherWay, InAnyOrder, MixedInAnyOrder, AnyOrder, orders_on, state_on, Delayed, SamePlan}
use Rattle.any_order.proofs.Replies.{replies}

-- ---- a next order that takes no order changes nothing

sent-some : (g : Network) (r : Run) → g.n ≤ 64 → {t : Ordered} → Sent g r t → sends (order_bits t.order) ≡ false → t.run ≡ r
unfolding sends order_bits
sent-some g r few (requests x h) e = clash true refl (rw (kind-pack 1 0 (suc x) (omega arith) (omega arith)) at e)
sent-some g r few (gives_back x h) e = clash true refl (rw (kind-pack 2 0 (suc x) (omega arith) (omega arith)) at e)
sent-some g r few (nothing o q) e = refl

module _ (s : List ℕ) where
  none-sound : (e : sheet_passes s ≡ true) (r : Run) → Sound (network_in s) r → sends (asked_call s (bytes_of r) next_order) ≡ false → asked_leaves s (bytes_of r) next_order ≡ bytes_of r
  unfolding gives gives_by leaves leaves_by answer after
  none-sound e r k n =
      leaves-is s e r k (single next_order)
      ∙ ap bytes_of (sent-some (network_in s) r (passing s e).shape.bookings (sent (network_in s) r) (ap sends (sym (gives-is s e r k (single next_order))) ∙ n))

  none-taken : (bs : List ℕ) → sends (asked_call s bs next_order) ≡ false → asked_leaves s bs next_order ≡ bs
  none-taken bs = elim (which (in_order s bs)) [
    | inl o ↦ subst (λ (t : List ℕ). sends (asked_call s t next_order) ≡ false → asked_leaves s t next_order ≡ t) (bytes s bs o) (none-sound (sheet-passes s bs o) (run_of bs) (state-holds s bs o))
    | inr o ↦ (λ n. sym (refused-asked s bs o next_order).1)
  ]

  -- so a list of calls leaves what its replies leave, and they are answered as they are without the next orders
  replies-alone : (bs : List ℕ) (qs : List Asked) → orders_taken s bs qs ≡ 0
      → (replies_told qs (answers_on s bs (singles qs)) ≡ answers_on s bs (singles (replies_in qs))) × (left_on s bs (singles qs) ≡ left_on s bs (singles (replies_in qs)))
  unfolding orders_taken takes tally answers_on left_on gives leaves replies_in replies_told
  replies-alone bs [] z = (refl, refl)
  replies-alone bs (next_order ∷ qs) z =
      let n : sends (asked_call s bs next_order) ≡ false = off (sends (asked_call s bs next_order)) (λ e. omega (arith, ap one e)) in
      let u = none-taken bs n in
      let y : tally takes qs (answers_on s (asked_leaves s bs next_order) (singles qs)) ≡ 0 = omega arith in
      let t = replies-alone bs qs (ap (λ (bs : List ℕ). tally takes qs (answers_on s bs (singles qs))) (sym u) ∙ y) in
      (ap (λ (bs : List ℕ). replies_told qs (answers_on s bs (singles qs))) u ∙ t.0, ap (λ (bs : List ℕ). left_on s bs (singles qs)) u ∙ t.1)
  replies-alone bs (replied l b ∷ qs) z =
      let t = replies-alone (asked_leaves s bs (replied l b)) qs (omega arith) in
      (ap (λ (xs : List ℕ). asked_call s bs (replied l b) ∷ xs) t.0, t.1)

only-replies : (qs : List Asked) → no_order (replies_in qs) ≡ true
unfolding no_order every is_reply replies_in
only-replies [] = refl
only-replies (next_order ∷ qs) = only-replies qs
only-replies (replied l b ∷ qs) = only-replies qs

-- ---- the claim's parts

module _ (s bs : List ℕ) where
  late-differ : (qs ps : List Asked) → different (replies_in qs) ≡ true → Rearranged (replies_in qs) (replies_in ps) → different (replies_in ps) ≡ true
  late-differ qs ps d p = different-rearranged (replies_in qs) (replies_in ps) p (only-replies qs) d

  in-any-order : (qs ps : List Asked) → orders_taken s bs qs ≡ 0 → orders_taken s bs ps ≡ 0 → different (replies_in qs) ≡ true → Rearranged (replies_in qs) (replies_in ps) → InAnyOrder s bs qs ps
  in-any-order qs ps z y d p =
      let k = replies s bs in
      let q = replies-alone s bs qs z in
      let r = replies-alone s bs ps y in
      record {
        alone = q.0 ∙ k.alone (replies_in qs) (only-replies qs) d;
        alike = r.0 ∙ k.alone (replies_in ps) (only-replies ps) (late-differ qs ps d p);
        state = r.1 ∙ k.state (replies_in qs) (replies_in ps) (only-replies qs) d p ∙ sym q.1;
      }

  -- of two replies
  either_way : (l b m c : ℕ) → b ≢ c → EitherWay s bs (replied l b) (replied m c)
  unfolding no_order every is_reply not_to different Rearranged answers_on left_on gives leaves
  either_way l b m c d =
      let k = replies s bs in
      let p : Asked = replied l b in
      let q : Asked = replied m c in
      let pq : different (p ∷ q ∷ []) ≡ true = rw (ne_eqb c b (λ e. d (sym e))) in
      let qp : different (q ∷ p ∷ []) ≡ true = rw (ne_eqb b c d) in
      record {
        one = ap (λ (xs : List ℕ). get_or xs 1 0) (k.alone (q ∷ p ∷ []) refl qp);
        other = ap (λ (xs : List ℕ). get_or xs 1 0) (k.alone (p ∷ q ∷ []) refl pq);
        state = k.state (q ∷ p ∷ []) (p ∷ q ∷ []) refl qp (p ∷ [], [], refl, ([], [], refl, refl));
      }

-- a list with blocks has the answers and leaves the state of the calls that it stands for, made singly; from every sound state
module _ (s : List ℕ) (e : sheet_passes s ≡ true) (r : Run) (k : Sound (network_in s) r) (cs : List Call) where
  stands-for : singly_on s (bytes_of r) cs ≡ flat (network_in s) r cs
  unfolding singly_on
  stands-for = rw (answers-is s e r k cs) (told-calls (network_in s) (passing s e) r k cs)

  told-singly : told_on s (bytes_of r) cs ≡ answers_on s (bytes_of r) (singles (singly_on s (bytes_of r) cs))
  unfolding told_on
  told-singly =
      rw (stands-for, answers-is s e r k cs, answers-is s e r k (singles (flat (network_in s) r cs)), singles-answers (network_in s) r (flat (network_in s) r cs)) (told-answers (network_in s) (passing s e) r k cs)

  left-singly : left_on s (bytes_of r) cs ≡ left_on s (bytes_of r) (singles (singly_on s (bytes_of r) cs))
  left-singly =
      rw (stands-for) (left_is s e r k cs ∙ ap bytes_of (sym (flat-final (network_in s) r cs) ∙ sym (singles-final (network_in s) r (flat (network_in s) r cs))) ∙ sym (left_is s e r k (singles (flat (network_in s) r cs))))

-- so what holds of lists of single calls holds of lists with blocks
mixed-sound : (s : List ℕ) (e : sheet_passes s ≡ true) (r : Run) → Sound (network_in s) r → (cs ds : List Call)
    → tally takes (singly_on s (bytes_of r) cs) (told_on s (bytes_of r) cs) ≡ 0 → tally takes (singly_on s (bytes_of r) ds) (told_on s (bytes_of r) ds) ≡ 0
    → different (replies_in (singly_on s (bytes_of r) cs)) ≡ true → Rearranged (replies_in (singly_on s (bytes_of r) cs)) (replies_in (singly_on s (bytes_of r) ds)) → MixedInAnyOrder s (bytes_of r) cs ds
unfolding orders_taken
mixed-sound s e r k cs ds z y d p =
    let c = told-singly s e r k cs in
    let f = told-singly s e r k ds in
    let t = in-any-order s (bytes_of r) (singly_on s (bytes_of r) cs) (singly_on s (bytes_of r) ds) (rw c at z) (rw f at y) d p in
    record { alone = rw c t.alone; alike = rw f t.alike; state = left-singly s e r k ds ∙ t.state ∙ sym (left-singly s e r k cs) }

-- ---- for all bytes

pub any_order : (s bs : List ℕ) → AnyOrder s bs
any_order s bs =
    record {
      two = either_way s bs;
      several = in-any-order s bs;
      blocks = (replies s bs).blocks;
      told = (replies s bs).told;
      mixed = λ o. subst
          (λ (t : List ℕ). (cs ds : List Call) → tally takes (singly_on s t cs) (told_on s t cs) ≡ 0 → tally takes (singly_on s t ds) (told_on s t ds) ≡ 0
          → different (replies_in (singly_on s t cs)) ≡ true → Rearranged (replies_in (singly_on s t cs)) (replies_in (singly_on s t ds)) → MixedInAnyOrder s t cs ds)
          (bytes s bs o) (mixed-sound s (sheet-passes s bs o) (run_of bs) (state-holds s bs o));
    }

-- and so for every campaign
pub same-plan : (s bs : List ℕ) (gaps late : List (List Asked)) → Delayed s bs gaps late → SamePlan s bs gaps late
unfolding Delayed orders_on state_on
same-plan s bs [] late d = rw d (record { orders = refl; state = refl })
same-plan s bs (qs ∷ gaps) [] d = absurd d
same-plan s bs (qs ∷ gaps) (ps ∷ late) d =
    let left : List ℕ = left_on s bs (singles qs) in
    let same = (in-any-order s bs qs ps d.0 d.1 d.2 d.3).state in
    let t = same-plan s (asked_leaves s left next_order) gaps late d.4 in
    record { orders = rw same (ap (λ (xs : List ℕ). asked_call s left next_order ∷ xs) t.orders); state = rw same t.state }
