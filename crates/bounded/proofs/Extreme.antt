-- Of the numbers below a bound that pass a test, one comes before no other in a strict order: a maximal one.
-- For a minimal one, hand in the order turned round.
-- Assumes nothing.
use mathlib.Core.Path.{◌≡◌, refl}
use mathlib.Core.Logic.{inl, inr}
use mathlib.Core.Bool.{Bool, true, false}
use Prim.Native.Nat.{ℕ, zero, suc, ◌<◌}
use native.Mathlib.Nat.{le_refl}
use native.Mathlib.Omega.{arith}
use Rattle.bounded.specs.Bounded.{any}
use Rattle.bounded.proofs.Bools.{which, clash, off, last?, or_cases}
use Rattle.bounded.proofs.Tests.{any-n}

module _ (R : ℕ → ℕ → Bool) (irreflexive : (i : ℕ) → R i i ≡ false) (transitive : (i j k : ℕ) → R i j ≡ true → R j k ≡ true → R i k ≡ true) (p : ℕ → Bool) where
  -- m passes, and comes before no other that passes
  pub record Extreme (n m : ℕ) : Type 0 where
    pub below : m < n
    pub passes : p m ≡ true
    pub apart : (i : ℕ) → i < n → p i ≡ true → R m i ≡ false

  pub extreme : (n : ℕ) → any p n ≡ true → (m : ℕ) × Extreme n m
  unfolding any
  extreme zero e = clash false e refl
  extreme (suc n) e = elim (which (p n)) [
    | inr out ↦ elim (or_cases (any p n) (p n) e) [
      | inr q ↦ clash (p n) q out
      | inl some ↦ (let t = extreme n some in let m = t.0 in let x = t.1 in (
        m,
        record {
          below = omega arith;
          passes = x.passes;
          apart = λ i h q. elim (last? h) [ inl z ↦ clash (p n) (rw z at q) out | inr l ↦ x.apart i l q ];
        },
      ))
    ]
    | inl in' ↦ elim (which (any p n)) [
      | inr none ↦ (
        n,
        record {
          below = le_refl (suc n);
          passes = in';
          apart = λ i h q. elim (last? h) [ inl z ↦ rw z (irreflexive n) | inr l ↦ clash (p i) q (any-n p n none i l) ];
        },
      )
      | inl some ↦ (let t = extreme n some in let m = t.0 in let x = t.1 in
          elim (which (R m n)) [
            | inl up ↦ (
              n,
              record {
                below = le_refl (suc n);
                passes = in';
                apart = λ i h q. elim (last? h) [
                  | inl z ↦ rw z (irreflexive n)
                  | inr l ↦ off (R n i) (λ v. clash (R m i) (transitive m n i up v) (x.apart i l q))
                ];
              },
            )
            | inr no-up ↦ (
              m,
              record {
                below = omega arith;
                passes = x.passes;
                apart = λ i h q. elim (last? h) [ inl z ↦ rw z no-up | inr l ↦ x.apart i l q ];
              },
            )
          ])
    ]
  ]
