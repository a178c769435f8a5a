-- The laws of equal lists of bytes, and of a part of a list.
-- Assumes nothing.
use Prim.Native.Nat.{ℕ, ◌+◌, ◌-◌, ◌<◌, ◌≤◌}
use mathlib.Core.Path.{◌≡◌, refl, sym, ap, ◌∙◌}
use mathlib.Core.List.{List, [], ◌∷◌}
use mathlib.Core.Bool.{Bool, true, false, ◌&&◌}
use native.Mathlib.Nat.{add-sub_cancel_left}
use native.Mathlib.Omega.{arith}
use lib.ListN.{length, take, drop, length-drop, drop_of_length-le}
use lib.Seq.{take_all, take-nil}
use lib.Dec.{eqb}
use lib.Pointwise.{pointwise}
use borrow.Author.Tests.{eqb-true, eq-eqb}
use Rattle.bounded.proofs.Bools.{off, and_l, and_r}
use Rattle.decimal.specs.Decimal.{same_bytes}

-- ---- the same bytes

pub same_refl : (xs : List ℕ) → same_bytes xs xs ≡ true
unfolding same_bytes
same_refl [] = refl
same_refl (x ∷ xs) = rw (eq-eqb x x refl) (same_refl xs)

pub same-eq : (xs ys : List ℕ) → same_bytes xs ys ≡ true → xs ≡ ys
unfolding same_bytes
same-eq [] [] e = refl
same-eq [] (y ∷ ys) e = cc
same-eq (x ∷ xs) [] e = cc
same-eq (x ∷ xs) (y ∷ ys) e =
    let h : x ≡ y = eqb-true x y (and_l (eqb x y) (same_bytes xs ys) e) in
    let t : xs ≡ ys = same-eq xs ys (and_r (eqb x y) (same_bytes xs ys) e) in
    cc

pub same-ne : (xs ys : List ℕ) → (xs ≡ ys → ⊥) → same_bytes xs ys ≡ false
same-ne xs ys h = off (same_bytes xs ys) (λ e. h (same-eq xs ys e))

-- what `==` of two slices answers
pub same-pointwise : (xs ys : List ℕ) → pointwise eqb xs ys ≡ same_bytes xs ys
unfolding same_bytes
same-pointwise [] [] = refl
same-pointwise [] (y ∷ ys) = refl
same-pointwise (x ∷ xs) [] = refl
same-pointwise (x ∷ xs) (y ∷ ys) = ap (λ (b : Bool). eqb x y && b) (same-pointwise xs ys)

-- ---- a part of a list

pub part-whole : (s : List ℕ) (at w : ℕ) → take (at + w - at) (drop at s) ≡ take w (drop at s)
part-whole s at w = rw add-sub_cancel_left

pub part-rest : (s : List ℕ) (at w : ℕ) → length s - at < w → take (length s - at) (drop at s) ≡ take w (drop at s)
part-rest s at w h =
    let short : length (drop at s) ≤ length s - at = rw length-drop (omega arith) in
    let long : length (drop at s) ≤ w = rw length-drop (omega arith) in
    take_all (length s - at) (drop at s) short ∙ sym (take_all w (drop at s) long)

pub part_none : (s : List ℕ) (at w : ℕ) → length s < at → [] ≡ take w (drop at s)
part_none s at w h =
    let le : length s ≤ at = omega arith in
    sym (ap (take w) (drop_of_length-le s le) ∙ take-nil w)
