-- What a search below a bound gives, by what its code has found out.
-- Assumes nothing.
use mathlib.Core.Path.{◌≡◌, sym, ◌∙◌}
use mathlib.Core.Logic.{inl, inr}
use mathlib.Core.Bool.{Bool, true, false}
use Prim.Native.Nat.{ℕ, ◌≤◌, ◌<◌}
use native.Mathlib.Nat.{le_refl}
use native.Mathlib.Omega.{arith}
use borrow.Author.Tests.{lt-ltb, le-ltb}
use lib.Dec.{ltb}
use Rattle.std.specs.Prelude.{Option, Some, None, MatchOption}
use Rattle.bounded.specs.Bounded.{first, sought}
use Rattle.bounded.proofs.Bools.{which}
use Rattle.bounded.proofs.Loops.{SoFar, first-at, first-over}

module _ (f : ℕ → Bool) (n : ℕ) where
  -- b is the first that passes
  pub sought-at : (b : ℕ) → SoFar f b → b < n → f b ≡ true → Some b ≡ sought f n
  sought-at b s h e = let p = first-at f n b s h e in rw (← p, lt-ltb b n h)

  -- none passes
  pub sought-over : (b : ℕ) → SoFar f b → n ≤ b → None ≡ sought f n
  sought-over b s h = let p : first f n ≡ n = sym (first-over f n b s h) in rw (p, le-ltb n n (le_refl n))

  -- the same, where the first is known
  pub sought-is : (b : ℕ) → b ≡ first f n → b < n → Some b ≡ sought f n
  sought-is b e h = rw (← e, lt-ltb b n h)

  pub sought-none : n ≡ first f n → None ≡ sought f n
  sought-none e = rw (← e, le-ltb n n (le_refl n))

  -- what was found is the first that passes
  pub found : (b : ℕ) → Some b ≡ sought f n → (ltb (first f n) n ≡ true) × (b ≡ first f n)
  found b e = elim (which (ltb (first f n) n)) [
    | inl p ↦ (p, (let q : Some b ≡ Some (first f n) = e ∙ rw p in cc))
    | inr p ↦ absurd (let q : Some b ≡ None = e ∙ rw p in cc)
  ]

  pub missed : None ≡ sought f n → ltb (first f n) n ≡ false
  missed e = elim (which (ltb (first f n) n)) [
    | inl p ↦ absurd (let q : None ≡ Some (first f n) = e ∙ rw p in cc)
    | inr p ↦ p
  ]

  -- what `find` answers over the numbers below n
  pub sought-by : (r : Option ℕ) → MatchOption r ((k : ℕ) → 0 ≤ k → k < n → f k ≡ false) (λ b. (0 ≤ b) × (b < n) × (f b ≡ true) × ((k : ℕ) → 0 ≤ k → k < b → f k ≡ false)) → r ≡ sought f n
  sought-by None h = sought-over n (λ k l. h k (omega arith) l) (le_refl n)
  sought-by (Some b) h = sought-at b (λ k l. h.3 k (omega arith) l) h.1 h.2
