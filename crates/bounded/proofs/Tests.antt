-- The laws of `any` and `all`.
-- Assumes nothing.
use mathlib.Core.Path.{◌≡◌, refl, ap₂}
use mathlib.Core.Logic.{inl, inr}
use mathlib.Core.Bool.{Bool, true, false, ◌&&◌, ◌||◌}
use Prim.Native.Nat.{ℕ, zero, suc, ◌+◌, ◌<◌}
use native.Mathlib.Nat.{not-suc-le-zero, le_refl}
use native.Mathlib.Numerals.{add-one}
use native.Mathlib.Omega.{arith}
use Rattle.bounded.specs.Bounded.{any, all}
use Rattle.bounded.proofs.Bools.{which, clash, off, last?, and_l, and_r, or_cases, or_l, or_r, ◌&◌}

-- ---- some: i brings in, e takes out, n and o for none

pub any-i : (f : ℕ → Bool) (n i : ℕ) → i < n → f i ≡ true → any f n ≡ true
unfolding any
any-i f zero i h e = absurd (not-suc-le-zero h)
any-i f (suc n) i h e = elim (last? h) [ inl p ↦ or_r (any f n) (f n) (rw (← p) e) | inr l ↦ or_l (any f n) (f n) (any-i f n i l e) ]

pub any-e : (f : ℕ → Bool) (n : ℕ) → any f n ≡ true → (i : ℕ) × (i < n) × (f i ≡ true)
unfolding any
any-e f zero e = clash false e refl
any-e f (suc n) e = elim (or_cases (any f n) (f n) e) [
  | inl p ↦ (let r = any-e f n p in (r.0, omega arith, r.2))
  | inr p ↦ (n, le_refl (suc n), p)
]

pub any-n : (f : ℕ → Bool) (n : ℕ) → any f n ≡ false → (i : ℕ) → i < n → f i ≡ false
any-n f n e i h = off (f i) (λ p. clash (any f n) (any-i f n i h p) e)

pub any-o : (f : ℕ → Bool) (n : ℕ) → ((i : ℕ) → i < n → f i ≡ true → ⊥) → any f n ≡ false
any-o f n h = off (any f n) (λ e. let r = any-e f n e in h r.0 r.1 r.2)

pub any-suc : (f : ℕ → Bool) (n : ℕ) → any f (n + 1) ≡ any f n || f n
unfolding any
any-suc f n = rw add-one

pub any-ext : (f g : ℕ → Bool) (n : ℕ) → ((i : ℕ) → i < n → f i ≡ g i) → any f n ≡ any g n
unfolding any
any-ext f g zero h = refl
any-ext f g (suc n) h = ap₂ (λ (a b : Bool). a || b) (any-ext f g n (λ i l. h i (omega arith))) (h n (le_refl (suc n)))

-- ---- every: i brings in, e takes out, n for one that fails

pub all-i : (f : ℕ → Bool) (n : ℕ) → ((i : ℕ) → i < n → f i ≡ true) → all f n ≡ true
unfolding all
all-i f zero h = refl
all-i f (suc n) h = all-i f n (λ i l. h i (omega arith)) & h n (le_refl (suc n))

pub all-e : (f : ℕ → Bool) (n : ℕ) → all f n ≡ true → (i : ℕ) → i < n → f i ≡ true
unfolding all
all-e f zero e i h = absurd (not-suc-le-zero h)
all-e f (suc n) e i h = elim (last? h) [ inl p ↦ rw p (and_r (all f n) (f n) e) | inr l ↦ all-e f n (and_l (all f n) (f n) e) i l ]

pub all-n : (f : ℕ → Bool) (n : ℕ) → all f n ≡ false → (i : ℕ) × (i < n) × (f i ≡ false)
unfolding all
all-n f zero e = clash true refl e
all-n f (suc n) e = elim (which (f n)) [
  | inl p ↦ (let r = all-n f n (off (all f n) (λ q. clash (all f n && f n) (q & p) e)) in (r.0, omega arith, r.2))
  | inr p ↦ (n, le_refl (suc n), p)
]

pub all-suc : (f : ℕ → Bool) (n : ℕ) → all f (n + 1) ≡ all f n && f n
unfolding all
all-suc f n = rw add-one

pub all-ext : (f g : ℕ → Bool) (n : ℕ) → ((i : ℕ) → i < n → f i ≡ g i) → all f n ≡ all g n
unfolding all
all-ext f g zero h = refl
all-ext f g (suc n) h = ap₂ (λ (a b : Bool). a && b) (all-ext f g n (λ i l. h i (omega arith))) (h n (le_refl (suc n)))
