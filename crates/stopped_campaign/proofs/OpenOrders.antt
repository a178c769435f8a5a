-- The open orders: where the code of a booking says that an order of a kind is open, one order of that kind more was taken than replies to it accepted.
-- Assumes nothing.
use mathlib.Core.Path.{◌≡◌, refl, ap}
use mathlib.Core.Logic.{inl, inr}
use mathlib.Core.Bool.{Bool, false, ◌&&◌}
use mathlib.Core.List.{List, [], ◌∷◌}
use Prim.Native.Nat.{ℕ, zero, suc, ◌+◌, ◌≤◌, ◌<◌}
use native.Mathlib.Omega.{arith}
use lib.Dec.{eqb}
use lib.Seq.{get_or-set_same, get_or-set_other}
use borrow.Author.Tests.{eq-eqb, ne_eqb}
use Rattle.bounded.specs.Bounded.{one}
use Rattle.bounded.proofs.Bools.{same?, and-no-r}
use Rattle.network.specs.declared.Network.{Network}
use Rattle.verdict.proofs.Facts.{Passes}
use Rattle.standing.specs.Standing.{free, requested, held, lost, returning}
use Rattle.run.specs.State.{code, put, start}
use Rattle.run.specs.Replies.{Y, N, G, K, Replied}
use Rattle.run.specs.declared.Run.{Run}
use Rattle.run.specs.declared.Order.{Order}
use Rattle.run.specs.declared.Ordered.{Ordered}
use Rattle.run.proofs.Facts.{Sound}
use Rattle.run.proofs.Cases.{NextCase, blocked, gives, busy, asks, pends, over, flies, next-case, return-facts, request-facts, ReplyCase, misfit, confirmed, refused, again, returned, kept, reply-case}
use Rattle.guarantee.specs.Answers.{pack, kind_of, place_of, order_bits, place9, reply_bits}
use Rattle.guarantee.specs.Machine.{Asked, next_order, replied, reply_to, answer, after, machine_answers, final}
use Rattle.guarantee.specs.Counted.{accepts, tally}
use Rattle.guarantee.proofs.Start.{all-free, start-sound}
use Rattle.guarantee.proofs.Moved.{kind-pack, place-pack, settle-code, moved}
use Rattle.guarantee.proofs.Numbers.{small-9}
use Rattle.lent_state.proofs.Due.{Silent, waits, is-off, is-flown}
use Rattle.stopped_campaign.specs.Stopped.{ordered_as, answered_by, answers_request, answers_return}
use Rattle.stopped_campaign.proofs.OneLine.{silent-kind}

-- what is asked of a kind of orders, the letters that answer it and the code c of a booking that has one open
pub record Matched (kind : ℕ) (letters : ℕ → Bool) (c : ℕ) : Type 0 where
  -- wait, flown and called off are not of the kind
  pub sends : kind ≤ 2
  -- at the start none is open
  pub none_yet : one (eqb free c) ≡ 0
  -- each change of a code, by an order or a reply, keeps the balance
  pub request : one (eqb 1 kind) + one (eqb free c) ≡ one (eqb requested c)
  pub return : one (eqb 2 kind) + one (eqb held c) ≡ one (eqb returning c)
  pub confirm : one (eqb requested c) ≡ one (letters Y) + one (eqb held c)
  pub lose : one (eqb requested c) ≡ one (letters N) + one (eqb lost c)
  pub repeat : one (eqb requested c) ≡ one (letters N) + one (eqb free c)
  pub give-back : one (eqb returning c) ≡ one (letters G) + one (eqb free c)
  pub keep : one (eqb returning c) ≡ one (letters K) + one (eqb held c)

pub of-requests : Matched 1 answers_request requested
unfolding answers_request
of-requests = record { sends = omega arith; none_yet = refl; request = refl; return = refl; confirm = refl; lose = refl; repeat = refl; give-back = refl; keep = refl }

pub of-returns : Matched 2 answers_return returning
unfolding answers_return
of-returns = record { sends = omega arith; none_yet = refl; request = refl; return = refl; confirm = refl; lose = refl; repeat = refl; give-back = refl; keep = refl }

module _ (g : Network) (ok : Passes g) {kind c : ℕ} {letters : ℕ → Bool} (k : Matched kind letters c) where
  module _ (r : Run) (s : Sound g r) (b : ℕ) where
    -- what a call q, answered with x, does to booking b where it leaves the state t
    abbrev Balances : Asked → ℕ → Run → Type 0
    Balances q x t = ordered_as kind (suc b) q x + one (eqb (code r b) c) ≡ answered_by letters (suc b) q x + one (eqb (code t b) c)

    -- booking y becomes v, by a call that is an order of the kind (i) or answers one (j)
    turns : (y v : ℕ) (i j : Bool) (t : Run) → y < g.n → code t b ≡ code (put r y v) b → one i + one (eqb (code r y) c) ≡ one j + one (eqb v c)
        → one (eqb (suc y) (suc b) && i) + one (eqb (code r b) c) ≡ one (eqb (suc y) (suc b) && j) + one (eqb (code t b) c)
    unfolding code
    turns y v i j t h tc e = rw tc (elim (same? b y) [
      | inl p ↦ rw (p, eq-eqb (suc y) (suc y) refl, get_or-set_same r.code y v 0 (omega (arith, s.core.size, ok.shape.bookings))) e
      | inr d ↦ rw (ne_eqb (suc y) (suc b) (λ q. d (omega arith)), get_or-set_other r.code y b v 0 d)
    ])

    neither : (y : ℕ) → one (eqb (suc y) (suc b) && false) ≡ 0
    neither y = rw (and-no-r (eqb (suc y) (suc b)) false refl)

    -- ---- next order

    silent : {o : Order} → Silent r o → Balances next_order (order_bits o) r
    unfolding ordered_as answered_by
    silent {o} q =
        let x : ℕ = order_bits o in
        let w = silent-kind q (omega (arith, s.core.way, ok.shape.few)) in
        rw (and-no-r (eqb (place_of x) (suc b)) (eqb (kind_of x) kind) (ne_eqb (kind_of x) kind (λ e. omega (arith, k.sends))))

    -- an order of kind m for y, which becomes v
    sent : (m y v : ℕ) → y < g.n → one (eqb m kind) + one (eqb (code r y) c) ≡ one (eqb v c) → Balances next_order (pack m 0 (suc y)) (put r y v)
    unfolding ordered_as answered_by
    sent m y v h e =
        let l : suc y < 65536 = omega (arith, ok.shape.bookings) in
        rw (kind-pack m 0 (suc y) (omega arith) l, place-pack m 0 (suc y) l) (omega (arith, turns y v (eqb m kind) false (put r y v) h refl (omega arith), neither y))

    order-balances : {t : Ordered} → NextCase g r t → Balances next_order (order_bits t.order) t.run
    unfolding order_bits
    order-balances (blocked e) = silent waits
    order-balances (gives y u e) = let f = return-facts g r y e in sent 2 y returning f.booking (rw f.is_held k.return)
    order-balances (busy e) = silent waits
    order-balances (asks y d e) = let f = request-facts g r y e in sent 1 y requested f.booking (rw f.is_free k.request)
    order-balances (pends e) = silent waits
    order-balances (over d e) = silent is-off
    order-balances (flies d e) = silent is-flown

    -- ---- replies

    not_taken : (l n : ℕ) → Balances (replied l n) (pack 0 9 (place9 n)) r
    unfolding ordered_as answered_by accepts
    not_taken l n = rw (kind-pack 0 9 (place9 n) (omega arith) (omega (arith, small-9 n)))

    -- an accepted reply of letter l to y, which becomes v
    taken : (l y v : ℕ) (t : Run) → y < g.n → code t b ≡ code (put r y v) b → one (eqb (code r y) c) ≡ one (letters l) + one (eqb v c)
        → Balances (replied l (suc y)) (pack 6 0 (suc y)) t
    unfolding ordered_as answered_by accepts
    taken l y v t h tc e =
        rw (kind-pack 6 0 (suc y) (omega arith) (omega (arith, ok.shape.bookings))) (omega (arith, turns y v false (letters l) t h tc (omega arith), neither y))

    reply-balances : (l y : ℕ) {t : Replied} → ReplyCase g r l y t → Balances (replied l (suc y)) (reply_bits (suc y) t.taken) t.run
    unfolding reply_bits
    reply-balances l y misfit = not_taken l (suc y)
    reply-balances l y (confirmed h m e) = taken l y held _ h (settle-code g (put r y held) b) (rw (m, e) k.confirm)
    reply-balances l y (refused h m e z) = taken l y lost _ h (settle-code g (put r y lost) b) (rw (m, e) k.lose)
    reply-balances l y (again h m e z) = taken l y free _ h (settle-code g (put r y free) b) (rw (m, e) k.repeat)
    reply-balances l y (returned h m e) = taken l y free _ h refl (rw (m, e) k.give-back)
    reply-balances l y (kept h m e) = taken l y held _ h refl (rw (m, e) k.keep)

    call-balances : (q : Asked) → Balances q (answer g r q) (after g r q)
    unfolding answer after reply_to reply_bits
    call-balances next_order = order-balances (next-case g r)
    call-balances (replied l zero) = not_taken l zero
    call-balances (replied l (suc y)) = reply-balances l y (reply-case g r l y)

  -- over a list of calls
  balanced : (r : Run) → Sound g r → (qs : List Asked) (b : ℕ) → tally (ordered_as kind (suc b)) qs (machine_answers g r qs) + one (eqb (code r b) c)
      ≡ tally (answered_by letters (suc b)) qs (machine_answers g r qs) + one (eqb (code (final g r qs) b) c)
  unfolding machine_answers final tally
  balanced r s [] b = refl
  balanced r s (q ∷ qs) b = omega (arith, call-balances r s b q, balanced (after g r q) (moved g ok r s q).sound qs b)

  pub open-orders : (qs : List Asked) (b : ℕ) → tally (ordered_as kind (suc b)) qs (machine_answers g start qs)
      ≡ tally (answered_by letters (suc b)) qs (machine_answers g start qs) + one (eqb (code (final g start qs) b) c)
  open-orders qs b = omega (arith, balanced start (start-sound g ok) qs b, ap (λ (v : ℕ). one (eqb v c)) (all-free b), k.none_yet)
