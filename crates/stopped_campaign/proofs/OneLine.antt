-- One call and its line: a call that has a line is taken when the line is replayed, a call that has none changes nothing, and a line that is
-- taken is the line of its call.
-- Assumes nothing.
use mathlib.Core.Path.{◌≡◌, refl}
use mathlib.Core.Logic.{inl, inr}
use mathlib.Core.Bool.{true, false}
use mathlib.Core.List.{[]}
use Prim.Native.Nat.{ℕ, zero, suc, ◌≤◌, ◌<◌}
use native.Mathlib.Omega.{arith}
use lib.Dec.{eqb}
use borrow.Author.Tests.{eqb-true, eq-eqb, ne_eqb, le-leb}
use Rattle.bounded.proofs.Bools.{which, clash, ◌&◌, and_l, and_r}
use Rattle.network.specs.declared.Network.{Network}
use Rattle.run.specs.Orders.{next}
use Rattle.run.specs.Replies.{Y, N, G, K, Replied}
use Rattle.run.specs.declared.Run.{Run}
use Rattle.run.specs.declared.Order.{Order}
use Rattle.run.specs.declared.Ordered.{Ordered}
use Rattle.run.proofs.Cases.{ReplyCase, misfit, confirmed, refused, again, returned, kept, reply-case}
use Rattle.guarantee.specs.Answers.{pack, kind_of, place_of, order_bits, place9, reply_bits}
use Rattle.guarantee.specs.Machine.{Asked, next_order, replied, reply_to, answer, after}
use Rattle.guarantee.specs.Counted.{accepts}
use Rattle.guarantee.proofs.Moved.{kind-pack, place-pack}
use Rattle.guarantee.proofs.Numbers.{small-9, taken-small}
use Rattle.journal_calls.specs.Journal.{entry_of, call_on, is_letter, has_line}
use Rattle.journal_calls.specs.Restart.{line_taken}
use Rattle.lent_state.specs.Due.{due, order_taken}
use Rattle.lent_state.proofs.Due.{Silent, waits, is-off, is-flown, Sent, requests, gives_back, nothing, sent, silent-due}
use Rattle.event_lines.specs.Line.{Q, U, line_text, is_order}
use Rattle.std.specs.Prelude.{Some}

-- ---- lines by the kind of the answer

request-line : (b : ℕ) → b < 65536 → entry_of next_order (pack 1 0 b) ≡ line_text Q b
unfolding entry_of
request-line b h = rw (kind-pack 1 0 b (omega arith) h, place-pack 1 0 b h)

return-line : (b : ℕ) → b < 65536 → entry_of next_order (pack 2 0 b) ≡ line_text U b
unfolding entry_of
return-line b h = rw (kind-pack 2 0 b (omega arith) h, place-pack 2 0 b h)

pub reply-line : (l b : ℕ) → b < 65536 → entry_of (replied l b) (pack 6 0 b) ≡ line_text l b
unfolding entry_of accepts
reply-line l b h = rw (kind-pack 6 0 b (omega arith) h)

misfit-line : (l b : ℕ) → entry_of (replied l b) (pack 0 9 (place9 b)) ≡ []
unfolding entry_of accepts
misfit-line l b = rw (kind-pack 0 9 (place9 b) (omega arith) (omega (arith, small-9 b)))

-- where nothing is to be sent there is no line
pub silent-kind : {r : Run} {o : Order} → Silent r o → r.way < 65536 → 3 ≤ kind_of (order_bits o)
unfolding order_bits kind_of pack
silent-kind waits w = omega arith
silent-kind is-off w = omega arith
silent-kind is-flown w = omega arith

silent-line : {r : Run} {o : Order} → Silent r o → r.way < 65536 → entry_of next_order (order_bits o) ≡ []
unfolding entry_of
silent-line {r} {o} q w = let k = silent-kind q w in rw (ne_eqb (kind_of (order_bits o)) 1 (λ e. omega arith), ne_eqb (kind_of (order_bits o)) 2 (λ e. omega arith))

-- ---- from a call to its line

-- a call on a state: it has a line, which is taken and leads where the call did; or it has none, and changes nothing
pub data LineCase (g : Network) (r : Run) (q : Asked) : Type 0 where
  lined : (l b : ℕ) → has_line l b ≡ true → b ≤ 64 → entry_of q (answer g r q) ≡ line_text l b → (line_taken g r (Some (record { letter = l; booking = b }))).taken ≡ true
      → (line_taken g r (Some (record { letter = l; booking = b }))).run ≡ after g r q → LineCase g r q
  unlined : entry_of q (answer g r q) ≡ [] → after g r q ≡ r → LineCase g r q

module _ (g : Network) (few : g.n ≤ 64) (r : Run) where
  -- an order's line
  data OrderLine (t : Ordered) : Type 0 where
    of-order : (l b : ℕ) → is_order l ≡ true → has_line l b ≡ true → b ≤ 64 → entry_of next_order (order_bits t.order) ≡ line_text l b → due l b t.order ≡ true → OrderLine t
    no-order : entry_of next_order (order_bits t.order) ≡ [] → t.run ≡ r → OrderLine t

  numbered : (l x : ℕ) → is_letter l ≡ true → x < 64 → has_line l (suc x) ≡ true
  unfolding has_line
  numbered l x e h = e & (le-leb 1 (suc x) (omega arith) & le-leb (suc x) 64 (omega arith))

  order-line : {t : Ordered} → Sent g r t → r.way < 65536 → OrderLine t
  unfolding order_bits due is_order is_letter
  order-line (requests x h) w = of-order Q (suc x) refl (numbered Q x refl (omega arith)) (omega arith) (request-line (suc x) (omega arith)) (eq-eqb (suc x) (suc x) refl)
  order-line (gives_back x h) w = of-order U (suc x) refl (numbered U x refl (omega arith)) (omega arith) (return-line (suc x) (omega arith)) (eq-eqb (suc x) (suc x) refl)
  order-line (nothing o q) w = no-order (silent-line q w) refl

  -- a reply's line
  data ReplyLine (l n : ℕ) (t : Replied) : Type 0 where
    of_reply : is_order l ≡ false → has_line l n ≡ true → n ≤ 64 → t.taken ≡ true → ReplyLine l n t
    no-reply : t.taken ≡ false → t.run ≡ r → ReplyLine l n t

  letter-line : (l m x : ℕ) {t : Replied} → l ≡ m → is_order m ≡ false → is_letter m ≡ true → x < g.n → t.taken ≡ true → ReplyLine l (suc x) t
  letter-line l m x e o i h = λ k. of_reply (rw e o) (numbered l x (rw e i) (omega arith)) (omega arith) k

  reply-line-of : (l x : ℕ) {t : Replied} → ReplyCase g r l x t → ReplyLine l (suc x) t
  unfolding is_order is_letter
  reply-line-of l x misfit = no-reply refl refl
  reply-line-of l x (confirmed h m e) = letter-line l Y x e refl refl h refl
  reply-line-of l x (refused h m e z) = letter-line l N x e refl refl h refl
  reply-line-of l x (again h m e z) = letter-line l N x e refl refl h refl
  reply-line-of l x (returned h m e) = letter-line l G x e refl refl h refl
  reply-line-of l x (kept h m e) = letter-line l K x e refl refl h refl

  numbered-line : (l n : ℕ) → ReplyLine l n (reply_to g r l n)
  unfolding reply_to
  numbered-line l zero = no-reply refl refl
  numbered-line l (suc x) = reply-line-of l x (reply-case g r l x)

  by_order : OrderLine (next g r) → LineCase g r next_order
  unfolding answer after line_taken order_taken
  by_order (of-order l b o h k e d) = lined l b h k e (rw o d) (rw o)
  by_order (no-order e s) = unlined e s

  by-reply : (l n : ℕ) → ReplyLine l n (reply_to g r l n) → LineCase g r (replied l n)
  unfolding answer after line_taken reply_bits
  by-reply l n (of_reply o h k t) = lined l n h k (rw t (reply-line l n (omega arith))) (rw o t) (rw o)
  by-reply l n (no-reply t s) = unlined (rw t (misfit-line l n)) s

  pub line-case : r.way < 65536 → (q : Asked) → LineCase g r q
  line-case w next_order = by_order (order-line (sent g r) w)
  line-case w (replied l n) = by-reply l n (numbered-line l n)

  -- ---- the line of an order or an accepted reply can be written

  order-has : {t : Ordered} → Sent g r t → r.way < 65536
      → (kind_of (order_bits t.order) ≡ 1 → has_line Q (place_of (order_bits t.order)) ≡ true) × (kind_of (order_bits t.order) ≡ 2 → has_line U (place_of (order_bits t.order)) ≡ true)
  unfolding order_bits is_letter is_order kind_of pack
  order-has (requests x h) w = ((λ k. rw (place-pack 1 0 (suc x) (omega arith)) (numbered Q x refl (omega arith))), λ k. absurd (omega arith))
  order-has (gives_back x h) w = ((λ k. absurd (omega arith)), λ k. rw (place-pack 2 0 (suc x) (omega arith)) (numbered U x refl (omega arith)))
  order-has (nothing o q) w = ((λ k. absurd (omega (arith, silent-kind q w))), λ k. absurd (omega (arith, silent-kind q w)))

  pub next-has : r.way < 65536 → (kind_of (answer g r next_order) ≡ 1 → has_line Q (place_of (answer g r next_order)) ≡ true)
      × (kind_of (answer g r next_order) ≡ 2 → has_line U (place_of (answer g r next_order)) ≡ true)
  unfolding answer
  next-has w = order-has (sent g r) w

  pub reply-has : (l n : ℕ) → accepts (answer g r (replied l n)) ≡ true → has_line l n ≡ true
  unfolding answer reply_bits accepts
  reply-has l n a = elim (numbered-line l n) [
    | of_reply o h k t ↦ h
    | no-reply t s ↦ clash false (rw (t, kind-pack 0 9 (place9 n) (omega arith) (omega (arith, small-9 n))) at a) refl
  ]

  -- ---- from a line to its call

  due-line : (l b : ℕ) {t : Ordered} → Sent g r t → due l b t.order ≡ true → entry_of next_order (order_bits t.order) ≡ line_text l b
  unfolding due order_bits
  due-line l b (requests x h) d =
      let z : l ≡ Q = eqb-true l Q (and_l (eqb l Q) _ d) in
      let y : b ≡ suc x = eqb-true b (suc x) (and_r (eqb l Q) _ d) in
      rw (z, y) (request-line (suc x) (omega arith))
  due-line l b (gives_back x h) d =
      let z : l ≡ U = eqb-true l U (and_l (eqb l U) _ d) in
      let y : b ≡ suc x = eqb-true b (suc x) (and_r (eqb l U) _ d) in
      rw (z, y) (return-line (suc x) (omega arith))
  due-line l b (nothing o q) d = absurd (silent-due l b q d)

  -- a line that is taken is the line of its call, and leads where the call does
  pub taken-line : (l b : ℕ) → (line_taken g r (Some (record { letter = l; booking = b }))).taken ≡ true
      → (entry_of (call_on (Some (record { letter = l; booking = b }))) (answer g r (call_on (Some (record { letter = l; booking = b })))) ≡ line_text l b) × ((line_taken g r (Some (record { letter = l; booking = b }))).run ≡ after g r (call_on (Some (record { letter = l; booking = b }))))
  unfolding line_taken order_taken call_on answer after reply_bits
  taken-line l b t = elim (which (is_order l)) [
    | inl o ↦ (rw o (due-line l b (sent g r) (rw o at t)), rw o)
    | inr o ↦ (let k : (reply_to g r l b).taken ≡ true = rw o at t in (rw (o, k) (reply-line l b (taken-small g r l b (reply_to g r l b) few refl k)), rw o))
  ]
