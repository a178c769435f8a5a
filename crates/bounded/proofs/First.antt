-- The laws of `first`: the least number below a bound that passes a test, or the bound.
-- Assumes nothing.
use mathlib.Core.Path.{◌≡◌, refl, ◌∙◌}
use mathlib.Core.Logic.{inl, inr}
use mathlib.Core.Bool.{Bool, true, false, cond}
use Prim.Native.Nat.{ℕ, zero, suc, ◌+◌, ◌≤◌, ◌<◌}
use native.Mathlib.Nat.{le_refl}
use native.Mathlib.Omega.{arith}
use lib.Dec.{ltb}
use borrow.Author.Tests.{ltb-true, ltb-false}
use Rattle.bounded.specs.Bounded.{seek, first}
use Rattle.bounded.proofs.Bools.{which, clash, off, same?}

-- r is the least of the numbers below n that pass f, or n
pub record Least (f : ℕ → Bool) (n r : ℕ) : Type 0 where
  pub high : r ≤ n
  pub before : (j : ℕ) → j < r → f j ≡ false
  pub at : r < n → f r ≡ true

-- the same from i on
record Found (f : ℕ → Bool) (i end r : ℕ) : Type 0 where
  low : i ≤ r
  high : r ≤ end
  before : (j : ℕ) → i ≤ j → j < r → f j ≡ false
  at : r < end → f r ≡ true

seek_found : (f : ℕ → Bool) (d i : ℕ) → Found f i (i + d) (seek f d i)
unfolding seek
seek_found f zero i = record { low = le_refl i; high = omega arith; before = λ j p q. absurd (omega arith); at = λ p. absurd (omega arith) }
seek_found f (suc d) i = go (f i) refl (seek_found f d (suc i))
  where
    go : (b : Bool) → f i ≡ b → Found f (suc i) (suc i + d) (seek f d (suc i)) → Found f i (i + suc d) (cond b i (seek f d (suc i)))
    go true e r = record { low = le_refl i; high = omega arith; before = λ j p q. absurd (omega arith); at = λ p. e }
    go false e r = record {
      low = omega arith;
      high = omega arith;
      before = λ j p q. elim (same? j i) [ inl z ↦ rw z e | inr d ↦ r.before j (omega arith) q ];
      at = λ p. r.at (omega arith);
    }

pub first-least : (f : ℕ → Bool) (n : ℕ) → Least f n (first f n)
unfolding first
first-least f n =
    let r = seek_found f n 0 in
    record { high = omega arith; before = λ j h. r.before j (omega arith) h; at = λ h. r.at (omega arith) }

-- two leasts are one
pub least-is : (f : ℕ → Bool) (n r s : ℕ) → Least f n r → Least f n s → r ≡ s
least-is f n r s p q = elim (same? r s) [
  | inl e ↦ e
  | inr d ↦ elim (which (ltb r s)) [
    | inl l ↦ (let h : r < s = ltb-true r s l in clash (f r) (p.at (omega (arith, q.high))) (q.before r h))
    | inr l ↦ (let h : s < r = omega (arith, ltb-false r s l) in clash (f s) (q.at (omega (arith, p.high))) (p.before s h))
  ]
]

pub first-is : (f : ℕ → Bool) (n r : ℕ) → Least f n r → first f n ≡ r
first-is f n r p = least-is f n (first f n) r (first-least f n) p

-- nothing is found: nothing passes
pub first-none : (f : ℕ → Bool) (n : ℕ) → ltb (first f n) n ≡ false → (i : ℕ) → i < n → f i ≡ false
first-none f n e i h = (first-least f n).before i (omega (arith, ltb-false (first f n) n e))

-- and where nothing passes, nothing is found
pub none_found : (f : ℕ → Bool) (n : ℕ) → ((i : ℕ) → i < n → f i ≡ false) → ltb (first f n) n ≡ false
none_found f n z = off (ltb (first f n) n) (λ e. let h = ltb-true _ _ e in clash (f (first f n)) ((first-least f n).at h) (z (first f n) h))

pub first-ext : (f g : ℕ → Bool) (n : ℕ) → ((i : ℕ) → i < n → f i ≡ g i) → first f n ≡ first g n
first-ext f g n h =
    let l = first-least g n in
    first-is f n (first g n)
    (record { high = l.high; before = λ j p. h j (omega (arith, l.high)) ∙ l.before j p; at = λ p. h (first g n) p ∙ l.at p })
