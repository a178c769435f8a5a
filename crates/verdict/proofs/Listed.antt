-- Searches over a slice of a list, as searches over the places of the list.
-- Assumes nothing.
use mathlib.Core.Path.{◌≡◌, refl, sym, ap, ◌∙◌}
use mathlib.Core.Bool.{Bool, true, false, ◌||◌}
use mathlib.Core.List.{List, [], ◌∷◌}
use Prim.Native.Nat.{ℕ, zero, suc, ◌+◌, ◌≤◌, ◌<◌}
use native.Mathlib.Omega.{arith}
use native.Mathlib.Numerals.{add-one}
use lib.Bits.{bit_or}
use lib.ListN.{length, get_or, take, drop}
use Rattle.std.specs.List.{list_any, fold}
use Rattle.std.proofs.Common.{length-drop, get_or-drop, take_all}
use Rattle.std.proofs.lemmas.List.{get_or_past}
use Rattle.std.proofs.lemmas.List.Folds.{list_any_more}
use Rattle.bounded.specs.Bounded.{any}
use Rattle.bounded.proofs.Bools.{clash, split?}
use mathlib.Core.Logic.{inl, inr}
use Rattle.bounded.proofs.Tests.{any-o, any-suc}
use Rattle.sets.specs.Sets.{member}
use Rattle.sets.proofs.Members.{member-or}

-- some entry from place m on passes p; f tests the places, and none below m passes it
module _ (p f : ℕ → Bool) (xs : List ℕ) (m : ℕ) (before : (j : ℕ) → j < m → f j ≡ false) (here : (j : ℕ) → m ≤ j → f j ≡ p (get_or xs j 0)) where
  pub any-rest : (d e : ℕ) → m + d ≡ e → e ≤ length xs → list_any p (take d (drop m xs)) ≡ any f e
  any-rest zero e q h = let z : e ≡ m = omega arith in rw z (sym (any-o f m (λ j l t. clash (f j) t (before j l))))
  any-rest (suc d) e q h =
      let z : e ≡ (m + d) + 1 = omega arith in
      rw (z, ← add-one d)
      (list_any_more p (drop m xs) d 0 (omega (arith, length-drop m xs))
      ∙ ap (λ (b : Bool). list_any p (take d (drop m xs)) || b) (ap p (get_or-drop m xs d 0) ∙ sym (here (m + d) (omega arith)))
      ∙ ap (λ (b : Bool). b || f (m + d)) (any-rest d (m + d) refl (omega arith))
      ∙ sym (any-suc f (m + d)))

-- some entry of the first n passes p
pub any-front : (p : ℕ → Bool) (xs : List ℕ) (n : ℕ) → n ≤ length xs → list_any p (take n xs) ≡ any (λ j. p (get_or xs j 0)) n
any-front p xs n h = any-rest p (λ j. p (get_or xs j 0)) xs 0 (λ j l. absurd (omega arith)) (λ j l. refl) n n (omega arith) h

or-none : (a : Bool) → a ≡ a || false
or-none true = refl
or-none false = refl

-- the same of any list, where what stands past its end does not pass
pub any-within : (p : ℕ → Bool) (xs : List ℕ) (n : ℕ) → p 0 ≡ false → list_any p (take n xs) ≡ any (λ j. p (get_or xs j 0)) n
unfolding any
any-within p xs zero z = refl
any-within p xs (suc n) z = elim (split? n (length xs)) [
  | inl l ↦ rw (← add-one n) (list_any_more p xs n 0 l ∙ ap (λ (b : Bool). b || p (get_or xs n 0)) (any-within p xs n z))
  | inr l ↦
      rw (take_all (suc n) xs (omega arith), get_or_past xs n 0 l, z)
      (ap (list_any p) (sym (take_all n xs l)) ∙ any-within p xs n z ∙ or-none (any (λ j. p (get_or xs j 0)) n))
]

-- the members of a union
or_assoc : (a b c : Bool) → (a || b) || c ≡ a || (b || c)
or_assoc true b c = refl
or_assoc false b c = refl

pub union-has : (xs : List ℕ) (s b : ℕ) → member (fold (λ t x. bit_or t x) s xs) b ≡ member s b || list_any (λ x. member x b) xs
union-has [] s b = or-none (member s b)
union-has (x ∷ xs) s b = union-has xs (bit_or s x) b ∙ ap (λ (c : Bool). c || list_any (λ x. member x b) xs) (member-or s x b) ∙ or_assoc (member s b) (member x b) (list_any (λ x. member x b) xs)
