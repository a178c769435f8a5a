-- Writing a number that fits its columns: spaces, and its digits over them, the last one first.
-- Assumes nothing.
use Prim.Native.Nat.{ℕ, zero, suc, ◌-◌, ◌+◌, ◌/◌, ◌%◌, ◌^◌, ◌≤◌, ◌<◌}
use mathlib.Core.Path.{◌≡◌, refl, sym, ap, subst, ◌∙◌}
use mathlib.Core.List.{List, [], ◌∷◌, ◌++◌, append_assoc}
use mathlib.Core.Bool.{true, false, not}
use native.Mathlib.Nat.{pow-suc}
use native.Mathlib.Omega.{arith}
use lib.Dec.{eqb}
use lib.ListN.{set}
use lib.Seq.{set-append_seam}
use borrow.Author.Tests.{ne_eqb}
use Rattle.bounded.proofs.Bools.{and-no-l, and-no-r}
use Rattle.decimal.specs.Decimal.{column, columns_to, columns, spaces}
use Rattle.decimal.proofs.Laws.{to-length, spaces-columns}

-- ---- digits

-- the last column shows a digit in any case, and every other one while the number is not nothing
last-digit : (x : ℕ) → column true x ≡ 48 + x % 10
unfolding column
last-digit x = rw (and-no-r (eqb x 0) (not true) refl)

next-digit : (q : ℕ) → 0 < q → column false q ≡ 48 + q % 10
unfolding column
next-digit q h = rw (and-no-l (eqb q 0) (not false) (ne_eqb q 0 (λ e. omega arith)))

-- the columns from i on show their digits, q is what is left of the number, and the columns before them are spaces
pub record Shown (w x i q : ℕ) (field : List ℕ) : Type 0 where
  pub few : i ≤ w
  pub small : q < 10 ^ i
  pub tail : List ℕ
  pub text : columns w x ≡ columns_to false i q ++ tail
  pub bytes : field ≡ columns_to false i 0 ++ tail

module _ (w x i q : ℕ) (field : List ℕ) (s : Shown w x i q field) where
  -- a column is left while a digit is
  pub shown-left : 0 < q → 1 ≤ i
  shown-left h = go i s.small
    where
      go : (k : ℕ) → q < 10 ^ k → 1 ≤ k
      go zero l = absurd (omega arith)
      go (suc k) l = omega arith

  pub all_shown : q ≤ 0 → field ≡ columns w x
  all_shown h = let z : q ≡ 0 = omega arith in s.bytes ∙ sym (s.text ∙ ap (λ (k : ℕ). columns_to false i k ++ s.tail) z)

-- a byte behind spaces is stored anew
over : (i c y : ℕ) (tail field : List ℕ) → field ≡ columns_to false i 0 ++ (y ∷ tail) → set field i c ≡ columns_to false i 0 ++ (c ∷ tail)
over i c y tail field e = ap (λ (k : ℕ). set field k c) (sym (to-length false i 0)) ∙ rw e (set-append_seam (columns_to false i 0) y tail c)

-- the last digit, behind spaces
pub last-shown : (w x : ℕ) → 1 ≤ w → x < 10 ^ w → (field : List ℕ) → field ≡ spaces w → Shown w x (w - 1) (x / 10) (set field (w - 1) (48 + x % 10))
unfolding columns columns_to spaces
last-shown w x h k field e =
    let n : w ≡ suc (w - 1) = omega arith in
    let p : 10 ^ w ≡ 10 ^ suc (w - 1) = ap (λ (j : ℕ). 10 ^ j) n in
    let c = 48 + x % 10 in
    record {
      few = omega arith;
      small = omega (arith, pow-suc 10 (w - 1));
      tail = c ∷ [];
      text = ap (λ (j : ℕ). columns_to true j x) n ∙ rw (← (last-digit x));
      bytes = over (w - 1) c 32 [] field (e ∙ ap spaces n ∙ ap (λ (l : List ℕ). l ++ (32 ∷ [])) (sym (spaces-columns (w - 1))));
    }

-- one digit more
step : (i c : ℕ) (tail field : List ℕ) → field ≡ columns_to false (suc i) 0 ++ tail → set field i c ≡ columns_to false i 0 ++ (c ∷ tail)
unfolding columns_to column
step i c tail field e = over i c 32 tail field (e ∙ append_assoc (columns_to false i 0) (32 ∷ []) tail)

digit_at : (w x i q : ℕ) (field : List ℕ) → Shown w x (suc i) q field → 0 < q → Shown w x i (q / 10) (set field i (48 + q % 10))
unfolding columns_to
digit_at w x i q field s h = record {
  few = omega (arith, s.few);
  small = omega (arith, s.small, pow-suc 10 i);
  tail = (48 + q % 10) ∷ s.tail;
  text = s.text ∙ append_assoc (columns_to false i (q / 10)) (column false q ∷ []) s.tail ∙ rw (← (next-digit q h));
  bytes = step i (48 + q % 10) s.tail field s.bytes;
}

pub digit-shown : (w x i q : ℕ) (field : List ℕ) → Shown w x i q field → 0 < q → Shown w x (i - 1) (q / 10) (set field (i - 1) (48 + q % 10))
digit-shown w x i q field s h =
    let k = shown-left w x i q field s h in
    let n : i ≡ suc (i - 1) = omega arith in
    digit_at w x (i - 1) q field (subst (λ (j : ℕ). Shown w x j q field) n s) h
