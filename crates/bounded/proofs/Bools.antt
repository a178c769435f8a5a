-- The laws of Bool, and the case splits on numbers, that every other proof uses.
-- A fact about a test is an equation with true or false.
-- Assumes nothing.
use mathlib.Core.Path.{◌≡◌, refl, sym, ap, ◌∙◌}
use mathlib.Core.Logic.{◌≢◌, ◌⊎◌, inl, inr}
use mathlib.Core.Bool.{Bool, true, false, not, ◌&&◌, ◌||◌, cond}
use Prim.Native.Nat.{ℕ, suc, ◌≤◌, ◌<◌, zero}
use native.Mathlib.Nat.{le_of_suc-le-suc, eq-or-lt_of_le, not-suc-le-zero}
use native.Mathlib.Omega.{arith}
use lib.Dec.{eqb, ltb}
use borrow.Author.Tests.{ltb-true, ltb-false, eq-eqb, ne_eqb, not-true, not-false}
use native.Mathlib.Decide.{ℕ_discrete}
use Rattle.bounded.specs.Bounded.{imp, one}

-- ---- which of two

-- a test is true or false, with the equation
pub which : (b : Bool) → (b ≡ true) ⊎ (b ≡ false)
which true = inl refl
which false = inr refl

-- a test is not both
pub clash : {A : Type 0} (b : Bool) → b ≡ true → b ≡ false → A
clash b p q = absurd (let z : ◌≡◌ {A = ℕ} 0 1 = cc in omega arith)

pub off : (b : Bool) → (b ≡ true → ⊥) → b ≡ false
off true h = absurd (h refl)
off false h = refl

pub same? : (i j : ℕ) → (i ≡ j) ⊎ (i ≢ j)
same? i j = go (ℕ_discrete i j)
  where
    go : Dec (i ≡ j) → (i ≡ j) ⊎ (i ≢ j)
    go (yes p) = inl p
    go (no p) = inr p

pub split? : (i j : ℕ) → (i < j) ⊎ (j ≤ i)
split? i j = elim (which (ltb i j)) [ inl e ↦ inl (ltb-true i j e) | inr e ↦ inr (ltb-false i j e) ]

-- below n + 1: the last one, or below n
pub last? : {i n : ℕ} → i < suc n → (i ≡ n) ⊎ (i < n)
last? h = eq-or-lt_of_le (le_of_suc-le-suc h)

-- a digit below 2 is 0 or 1
pub binary : {x : ℕ} → x < 2 → (x ≡ 0) ⊎ (x ≡ 1)
binary {x = zero} h = inl refl
binary {x = suc zero} h = inr refl
binary {x = suc (suc x)} h = absurd (not-suc-le-zero (le_of_suc-le-suc (le_of_suc-le-suc h)))

-- two tests that are true together are equal
pub same_test : (a b : Bool) → (a ≡ true → b ≡ true) → (b ≡ true → a ≡ true) → a ≡ b
same_test true b f g = sym (f refl)
same_test false true f g = g refl
same_test false false f g = refl

-- a choice by a test has what both sides have
pub by_cond : {A : Type 0} (P : A → Type 0) {t : Bool} {a b : A} → (t ≡ true → P a) → (t ≡ false → P b) → P (cond t a b)
by_cond P {t} {a} {b} p q = go t refl
  where
    go : (z : Bool) → t ≡ z → P (cond z a b)
    go true e = p e
    go false e = q e

-- what `if t { a } else { b }` gives on each side
pub cond-on : {A : Type 0} (t : Bool) (a b : A) → t ≡ true → a ≡ cond t a b
cond-on t a b e = rw e

pub cond-off : {A : Type 0} (t : Bool) (a b : A) → t ≡ false → b ≡ cond t a b
cond-off t a b e = rw e

-- what a call gave, and how the branch on it went
pub got : {x a v : Bool} → x ≡ a → x ≡ v → a ≡ v
got p q = sym p ∙ q

-- ---- and

pub and_l : (a b : Bool) → a && b ≡ true → a ≡ true
and_l true b e = refl
and_l false b e = e

pub and_r : (a b : Bool) → a && b ≡ true → b ≡ true
and_r true b e = e
and_r false b e = cc

infixr 20 ◌&◌
pub ◌&◌ : {a b : Bool} → a ≡ true → b ≡ true → a && b ≡ true
p & q = cc

pub and-no-l : (a b : Bool) → a ≡ false → a && b ≡ false
and-no-l a b e = cc

pub and-no-r : (a b : Bool) → b ≡ false → a && b ≡ false
and-no-r true b e = e
and-no-r false b e = refl

pub and-true : (a : Bool) → a && true ≡ a
and-true true = refl
and-true false = refl

pub and-swap : (a b : Bool) → a && b ≡ b && a
and-swap true b = sym (and-true b)
and-swap false b = sym (and-no-r b false refl)

pub and-mid : (a b c : Bool) → (a && b) && c ≡ (a && c) && b
and-mid true b c = and-swap b c
and-mid false b c = refl

pub and_assoc : (a b c : Bool) → (a && b) && c ≡ a && (b && c)
and_assoc true b c = refl
and_assoc false b c = refl

-- ---- or

pub or_cases : (a b : Bool) → a || b ≡ true → (a ≡ true) ⊎ (b ≡ true)
or_cases true b e = inl refl
or_cases false b e = inr e

pub or_l : (a b : Bool) → a ≡ true → a || b ≡ true
or_l a b p = cc

pub or_r : (a b : Bool) → b ≡ true → a || b ≡ true
or_r true b p = refl
or_r false b p = p

pub or-false : (a : Bool) → a || false ≡ a
or-false true = refl
or-false false = refl

pub or_swap : (a b : Bool) → a || b ≡ b || a
or_swap true b = sym (or_r b true refl)
or_swap false b = sym (or-false b)

-- neither of two, taken one after the other
pub and-nor : (a b c : Bool) → a && not (b || c) ≡ (a && not b) && not c
and-nor true true c = refl
and-nor true false c = refl
and-nor false b c = refl

-- ---- not, and where

-- past `if !x { return .. }`, where the call x gave a
pub went : {x a : Bool} → x ≡ a → not x ≡ false → a ≡ true
went {x} p q = sym p ∙ not-false x q

pub not-i : (b : Bool) → b ≡ false → not b ≡ true
not-i b e = cc

pub imp-e : (a b : Bool) → imp a b ≡ true → a ≡ true → b ≡ true
imp-e a b p q = cc

pub imp-i : (a b : Bool) → (a ≡ true → b ≡ true) → imp a b ≡ true
imp-i true b h = h refl
imp-i false b h = refl

-- neither of two tests, in the other order, one of them that two numbers are equal
pub neither : (i j : ℕ) (b : Bool) → not (b || eqb j i) ≡ not (eqb i j) && not b
neither i j b = ap not (or_swap b (eqb j i)) ∙ elim (same? i j) [
  | inl p ↦ rw (eq-eqb i j p, eq-eqb j i (sym p))
  | inr d ↦ rw (ne_eqb i j d, ne_eqb j i (λ e. d (sym e)))
]

pub one-test : (b : Bool) → eqb (one b) 1 ≡ b
one-test true = refl
one-test false = refl

pub one-le : (b : Bool) → one b ≤ 1
one-le true = omega arith
one-le false = omega arith

-- ---- tests as code runs them: the answer is a where it decides, and b where it does not

pub and-go : (a b : Bool) → a ≡ true → b ≡ a && b
and-go a b e = cc

pub or-go : (a b : Bool) → a ≡ false → b ≡ a || b
or-go a b e = cc

-- `if a { b } else { false }`, where the call x gave a
pub and-on : (x a b : Bool) → x ≡ a → x ≡ true → b ≡ a && b
and-on x a b p q = cc

pub and-off : (x a b : Bool) → x ≡ a → x ≡ false → false ≡ a && b
and-off x a b p q = cc

-- ---- three tests, one after the other, as code runs them: x, y and z are what the calls gave

pub fails-first : (a b c x : Bool) → x ≡ a → not x ≡ true → false ≡ a && (b && c)
fails-first a b c x e q = rw (← e, not-true x q)

pub fails-second : (a b c x y : Bool) → x ≡ a → not x ≡ false → y ≡ b → not y ≡ true → false ≡ a && (b && c)
fails-second a b c x y e q f r = rw (← e, ← f, not-false x q, not-true y r)

pub as-third : (a b c x y z : Bool) → x ≡ a → not x ≡ false → y ≡ b → not y ≡ false → z ≡ c → z ≡ a && (b && c)
as-third a b c x y z e q f r g = rw (← e, ← f, ← g, not-false x q, not-false y r)
