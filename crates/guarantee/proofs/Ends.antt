-- What the kind of next order's answer says about the state.
-- Assumes nothing.
use mathlib.Core.Path.{◌≡◌, refl, ap}
use mathlib.Core.Logic.{◌≢◌, ◌⊎◌, inl, inr}
use mathlib.Core.Bool.{true, ◌||◌}
use Prim.Native.Nat.{ℕ, zero, suc, ◌≤◌}
use native.Mathlib.Omega.{arith}
use Rattle.bounded.specs.Bounded.{one}
use Rattle.bounded.proofs.Bools.{which}
use Rattle.network.specs.Network.{in_way}
use Rattle.network.specs.declared.Network.{Network}
use Rattle.verdict.proofs.Facts.{Passes}
use Rattle.standing.specs.Standing.{requested, held, returning}
use Rattle.run.specs.State.{code}
use Rattle.run.specs.declared.Run.{Run}
use Rattle.run.specs.declared.Ordered.{Ordered}
use Rattle.run.specs.declared.Order.TheVariants.{Wait}
use Rattle.run.proofs.Facts.{Sound}
use Rattle.run.proofs.Cases.{Done, NextCase, blocked, gives, busy, asks, pends, over, flies, return-facts, request-facts}
use Rattle.guarantee.specs.Answers.{pack, kind_of, place_of, order_bits}
use Rattle.guarantee.specs.Counted.{sends, ends}
use Rattle.guarantee.proofs.Next.{all_held, none-else, waits-for}
use Rattle.guarantee.proofs.Moved.{kind-pack, place-pack, hold, awaits}

-- nothing is requested or returning
abbrev pub Decided : Run → Type 0
Decided r = (b : ℕ) → awaits (code r b) ≡ 0

-- the codes that neither hold a booking nor await a reply
at_rest : (c : ℕ) → c ≤ returning → c ≢ requested → c ≢ returning → awaits c ≡ 0
at_rest zero h d e = refl
at_rest (suc zero) h d e = absurd (d refl)
at_rest (suc (suc zero)) h d e = refl
at_rest (suc (suc (suc zero))) h d e = refl
at_rest (suc (suc (suc (suc c)))) h d e = absurd (omega arith)

-- a code that awaits a reply
pub awaited : (c : ℕ) → c ≤ returning → 1 ≤ awaits c → (c ≡ requested) ⊎ (c ≡ returning)
awaited zero h e = absurd (omega arith)
awaited (suc zero) h e = inl refl
awaited (suc (suc zero)) h e = absurd (omega arith)
awaited (suc (suc (suc zero))) h e = absurd (omega arith)
awaited (suc (suc (suc (suc c)))) h e = inr (omega arith)

let_go : (c : ℕ) → c ≤ returning → c ≢ held → c ≢ returning → hold c ≡ 0
let_go zero h d e = refl
let_go (suc zero) h d e = refl
let_go (suc (suc zero)) h d e = absurd (d refl)
let_go (suc (suc (suc zero))) h d e = refl
let_go (suc (suc (suc (suc c)))) h d e = absurd (omega arith)

module _ (g : Network) (ok : Passes g) (r : Run) (s : Sound g r) where
  -- where something is awaited, not all is decided
  stuck : Decided r → {t : Ordered} → NextCase g r t → t.order ≡ Wait → ⊥
  stuck d n e = let q = waits-for g ok r s n e in elim q.1 [
    | inl z ↦ omega (arith, d q.0, ap awaits z)
    | inr z ↦ omega (arith, d q.0, ap awaits z)
  ]

  -- with nothing requested or returning, next order sends or ends
  pub goes : Decided r → {t : Ordered} → NextCase g r t → sends (order_bits t.order) || ends (order_bits t.order) ≡ true
  unfolding order_bits sends ends
  goes d (blocked e) = absurd (stuck d (blocked e) refl)
  goes d (gives y u e) = rw (kind-pack 2 0 (suc y) (omega arith) (omega (arith, (return-facts g r y e).booking, ok.shape.bookings)))
  goes d (busy e) = absurd (stuck d (busy e) refl)
  goes d (asks y i e) = rw (kind-pack 1 0 (suc y) (omega arith) (omega (arith, (request-facts g r y e).booking, ok.shape.bookings)))
  goes d (pends e) = absurd (stuck d (pends e) refl)
  goes d (over n e) = rw (kind-pack 5 0 0 (omega arith) (omega arith))
  goes d (flies n e) = rw (kind-pack 4 0 r.way (omega arith) (omega (arith, s.core.way, ok.shape.few)))

  -- kind 4 is flown by the current way, kind 5 is called off
  pub flown-e : {t : Ordered} → NextCase g r t → kind_of (order_bits t.order) ≡ 4 → Done g r × (r.way ≢ 0) × (place_of (order_bits t.order) ≡ r.way)
  unfolding order_bits kind_of pack
  flown-e (blocked e) k = absurd (omega arith)
  flown-e (gives y u e) k = absurd (omega (arith, (return-facts g r y e).booking, ok.shape.bookings))
  flown-e (busy e) k = absurd (omega arith)
  flown-e (asks y i e) k = absurd (omega (arith, (request-facts g r y e).booking, ok.shape.bookings))
  flown-e (pends e) k = absurd (omega arith)
  flown-e (over n e) k = absurd (omega arith)
  flown-e (flies n e) k = (n, e, place-pack 4 0 r.way (omega (arith, s.core.way, ok.shape.few)))

  pub off-e : {t : Ordered} → NextCase g r t → kind_of (order_bits t.order) ≡ 5 → Done g r × (r.way ≡ 0)
  unfolding order_bits kind_of pack
  off-e (blocked e) k = absurd (omega arith)
  off-e (gives y u e) k = absurd (omega (arith, (return-facts g r y e).booking, ok.shape.bookings))
  off-e (busy e) k = absurd (omega arith)
  off-e (asks y i e) k = absurd (omega (arith, (request-facts g r y e).booking, ok.shape.bookings))
  off-e (pends e) k = absurd (omega arith)
  off-e (over n e) k = (n, e)
  off-e (flies n e) k = absurd (omega (arith, s.core.way, ok.shape.few))

  -- where the run ends, the held bookings are those of the current way, and nothing is awaited
  pub ended : Done g r → (b : ℕ) → hold (code r b) ≡ one (in_way g r.way b)
  ended d b = elim (which (in_way g r.way b)) [
    | inl i ↦ rw (i, all_held g ok r s.core d b i)
    | inr o ↦ (let n = none-else g ok r s.core d b o in rw o (let_go (code r b) (s.core.codes b) n.0 n.2))
  ]

  pub decided : Done g r → Decided r
  decided d b = elim (which (in_way g r.way b)) [
    | inl i ↦ rw (all_held g ok r s.core d b i)
    | inr o ↦ (let n = none-else g ok r s.core d b o in at_rest (code r b) (s.core.codes b) n.1 n.2)
  ]
