-- A booking that can be refused for good is lost where an N to it was accepted, and then one was.
-- Assumes nothing.
use mathlib.Core.Path.{◌≡◌, refl, sym}
use mathlib.Core.Logic.{inl, inr}
use mathlib.Core.Bool.{true, false, ◌&&◌}
use mathlib.Core.List.{List, [], ◌∷◌}
use Prim.Native.Nat.{ℕ, zero, suc, ◌+◌, ◌<◌}
use native.Mathlib.Nat.{zero-add}
use native.Mathlib.Omega.{arith}
use lib.Dec.{eqb}
use lib.Seq.{get_or-set_same, get_or-set_other}
use borrow.Author.Tests.{eq-eqb, ne_eqb}
use Rattle.bounded.proofs.Bools.{same?, clash, and-no-r}
use Rattle.network.specs.Network.{exposed}
use Rattle.network.specs.declared.Network.{Network}
use Rattle.verdict.proofs.Facts.{Passes}
use Rattle.standing.specs.Standing.{free, requested, held, lost, returning}
use Rattle.run.specs.State.{code, put}
use Rattle.run.specs.Replies.{N, settle, Replied}
use Rattle.run.specs.declared.Run.{Run}
use Rattle.run.specs.declared.Ordered.{Ordered}
use Rattle.run.proofs.Facts.{Sound}
use Rattle.run.proofs.Cases.{NextCase, blocked, gives, busy, asks, pends, over, flies, next-case, return-facts, request-facts, ReplyCase, misfit, confirmed, refused, again, returned, kept, reply-case}
use Rattle.guarantee.specs.Answers.{pack, place9, reply_bits}
use Rattle.guarantee.specs.Machine.{Asked, next_order, replied, reply_to, answer, after, machine_answers, final}
use Rattle.guarantee.specs.Counted.{accepts, tally}
use Rattle.guarantee.proofs.Moved.{kind-pack, settle-code, moved}
use Rattle.guarantee.proofs.Numbers.{small-9}
use Rattle.told_campaign.specs.Told.{declined}

-- 1 for lost
abbrev pub gone : ℕ → ℕ
gone zero = 0
gone (suc zero) = 0
gone (suc (suc zero)) = 0
gone (suc (suc (suc zero))) = 1
gone (suc (suc (suc (suc c)))) = 0

module _ (g : Network) (ok : Passes g) (r : Run) (s : Sound g r) (b : ℕ) where
  put_same : (y v : ℕ) → y < g.n → gone (code r y) ≡ gone v → gone (code (put r y v) b) ≡ gone (code r b)
  unfolding code
  put_same y v h e = elim (same? b y) [
    | inl p ↦ rw (p, get_or-set_same r.code y v 0 (omega (arith, s.core.size, ok.shape.bookings))) (sym e)
    | inr d ↦ rw (get_or-set_other r.code y b v 0 d)
  ]

  order_same : {t : Ordered} → NextCase g r t → gone (code t.run b) ≡ gone (code r b)
  order_same (blocked e) = refl
  order_same (gives y u e) = let k = return-facts g r y e in put_same y returning k.booking (rw k.is_held)
  order_same (busy e) = refl
  order_same (asks y d e) = let k = request-facts g r y e in put_same y requested k.booking (rw k.is_free)
  order_same (pends e) = refl
  order_same (over d e) = refl
  order_same (flies d e) = refl

  -- ---- a reply that is no N, that is refused, or that names another booking does not count

  no-n : (l n x : ℕ) → eqb l N ≡ false → declined (suc b) (replied l n) x ≡ 0
  unfolding declined
  no-n l n x e = rw (and-no-r (accepts x) (eqb n (suc b) && eqb l N) (and-no-r (eqb n (suc b)) (eqb l N) e))

  not_taken : (l n : ℕ) → declined (suc b) (replied l n) (pack 0 9 (place9 n)) ≡ 0
  unfolding declined accepts
  not_taken l n = rw (kind-pack 0 9 (place9 n) (omega arith) (omega (arith, small-9 n)))

  -- a reply of another letter to y, which is not lost before nor after
  other-letter : (l y v : ℕ) (t : Run) → y < g.n → eqb l N ≡ false → code t b ≡ code (put r y v) b → gone (code r y) ≡ gone v
      → declined (suc b) (replied l (suc y)) (pack 6 0 (suc y)) + gone (code r b) ≡ gone (code t b)
  other-letter l y v t h e c z = rw c (omega (arith, no-n l (suc y) (pack 6 0 (suc y)) e, put_same y v h z))

  -- an N to y, which becomes v
  by-no : (y v : ℕ) → y < g.n → (b ≡ y → 1 + gone (code r y) ≡ gone v)
      → declined (suc b) (replied N (suc y)) (pack 6 0 (suc y)) + gone (code r b) ≡ gone (code (settle g (put r y v)) b)
  unfolding declined accepts code
  by-no y v h e = rw (settle-code g (put r y v) b, kind-pack 6 0 (suc y) (omega arith) (omega (arith, ok.shape.bookings))) (elim (same? b y) [
    | inl p ↦ rw (p, eq-eqb (suc y) (suc y) refl, get_or-set_same r.code y v 0 (omega (arith, s.core.size, ok.shape.bookings))) (e p)
    | inr d ↦ rw (ne_eqb (suc y) (suc b) (λ q. d (omega arith)), get_or-set_other r.code y b v 0 d, zero-add)
  ])

  -- ---- of an exposed booking

  module _ (x : exposed g b ≡ true) where
    reply-counts : (l y : ℕ) {t : Replied} → ReplyCase g r l y t
        → declined (suc b) (replied l (suc y)) (reply_bits (suc y) t.taken) + gone (code r b) ≡ gone (code t.run b)
    unfolding reply_bits
    reply-counts l y misfit = omega (arith, not_taken l (suc y))
    reply-counts l y (confirmed h m e) = other-letter l y held _ h (rw e) (settle-code g (put r y held) b) (rw m)
    reply-counts l y (refused h m e z) = rw e (by-no y lost h (λ p. rw m))
    reply-counts l y (again h m e z) = rw e (by-no y free h (λ p. clash (exposed g b) x (rw p z)))
    reply-counts l y (returned h m e) = other-letter l y free _ h (rw e) refl (rw m)
    reply-counts l y (kept h m e) = other-letter l y held _ h (rw e) refl (rw m)

    call-counts : (q : Asked) → declined (suc b) q (answer g r q) + gone (code r b) ≡ gone (code (after g r q) b)
    unfolding answer after reply_to reply_bits declined
    call-counts next_order = omega (arith, order_same (next-case g r))
    call-counts (replied l zero) = omega (arith, not_taken l zero)
    call-counts (replied l (suc y)) = reply-counts l y (reply-case g r l y)

-- over a list of calls
pub declined-lost : (g : Network) (ok : Passes g) (r : Run) (s : Sound g r) (b : ℕ) → exposed g b ≡ true → (qs : List Asked)
    → tally (declined (suc b)) qs (machine_answers g r qs) + gone (code r b) ≡ gone (code (final g r qs) b)
unfolding machine_answers final tally
declined-lost g ok r s b x [] = rw zero-add
declined-lost g ok r s b x (q ∷ qs) =
    omega (arith, call-counts g ok r s b x q, declined-lost g ok (after g r q) (moved g ok r s q).sound b x qs)
