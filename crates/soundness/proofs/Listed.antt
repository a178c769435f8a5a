-- A test of each entry of a part of a list, as a test of the places.
-- Assumes nothing.
use mathlib.Core.Path.{◌≡◌, refl, sym, ap, ◌∙◌}
use mathlib.Core.Bool.{Bool, true, ◌&&◌}
use mathlib.Core.List.{List}
use Prim.Native.Nat.{ℕ, zero, suc, ◌+◌, ◌-◌, ◌≤◌, ◌<◌}
use native.Mathlib.Omega.{arith}
use native.Mathlib.Numerals.{add-one}
use lib.Dec.{leb}
use lib.ListN.{length, get_or, take, drop}
use Rattle.std.specs.List.{list_all}
use Rattle.std.proofs.Common.{length-drop, get_or-drop}
use Rattle.std.proofs.lemmas.List.Folds.{list_all_more}
use borrow.Author.Tests.{le-leb, lt-leb}
use Rattle.bounded.specs.Bounded.{imp, all}
use Rattle.bounded.proofs.Tests.{all-i, all-suc}

-- each entry from place m on passes p; f tests the places, and each below m passes it
module _ (p f : ℕ → Bool) (xs : List ℕ) (m : ℕ) (before : (j : ℕ) → j < m → f j ≡ true) (here : (j : ℕ) → m ≤ j → f j ≡ p (get_or xs j 0)) where
  all-rest : (d e : ℕ) → m + d ≡ e → e ≤ length xs → list_all p (take d (drop m xs)) ≡ all f e
  all-rest zero e q h = let z : e ≡ m = omega arith in rw z (sym (all-i f m before))
  all-rest (suc d) e q h =
      let z : e ≡ (m + d) + 1 = omega arith in
      rw (z, ← add-one d)
      (list_all_more p (drop m xs) d 0 (omega (arith, length-drop m xs))
      ∙ ap (λ (b : Bool). list_all p (take d (drop m xs)) && b) (ap p (get_or-drop m xs d 0) ∙ sym (here (m + d) (omega arith)))
      ∙ ap (λ (b : Bool). b && f (m + d)) (all-rest d (m + d) refl (omega arith))
      ∙ sym (all-suc f (m + d)))

-- each of the first n entries
pub all-front : (p f : ℕ → Bool) (xs : List ℕ) → ((j : ℕ) → f j ≡ p (get_or xs j 0)) → (n : ℕ) → n ≤ length xs → list_all p (take n xs) ≡ all f n
all-front p f xs same n h = all-rest p f xs 0 (λ j l. absurd (omega arith)) (λ j l. same j) n n (omega arith) h

-- each entry from place m on
pub all-back : (p : ℕ → Bool) (xs : List ℕ) (m n : ℕ) → length xs ≡ n → m ≤ n → list_all p (take (n - m) (drop m xs)) ≡ all (λ j. imp (leb m j) (p (get_or xs j 0))) n
all-back p xs m n e h =
    all-rest p (λ j. imp (leb m j) (p (get_or xs j 0))) xs m (λ j l. rw (lt-leb m j l)) (λ j l. rw (le-leb m j l)) (n - m) n (omega arith) (omega arith)
