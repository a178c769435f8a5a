-- The place of a way among all pairs: of a ways and b ways the pair i, j stands at j + i * b; and its place among all pairs of pairs.
-- Assumes nothing.
use mathlib.Core.Path.{◌≡◌, sym, ap, ◌∙◌}
use mathlib.Core.Logic.{inl, inr}
use Prim.Native.Nat.{ℕ, zero, ◌+◌, ◌*◌, ◌-◌, ◌/◌, ◌%◌, ◌≤◌, ◌<◌}
use native.Mathlib.Omega.{arith}
use native.Mathlib.Nat.{mod-add-div', add-mul-div_right, add-mul-mod_self_right, div-eq_of_lt, mod-eq_of_lt, mod-lt, div-lt_iff_lt-mul, div-div-eq-div-mul, mul_assoc, mul-pos, mul_comm, mul-le-mul_right}
use Rattle.bounded.proofs.Bools.{split?}

-- ---- two

pub first_of : (a b k : ℕ) → 1 ≤ b → k < a * b → k / b < a
first_of a b k o h = (div-lt_iff_lt-mul o).1 h

pub second-of : (b k : ℕ) → 1 ≤ b → k % b < b
second-of b k o = mod-lt k o

module _ (a b i j : ℕ) (hi : i < a) (hj : j < b) where
  pub place-first : (j + i * b) / b ≡ i
  place-first = let o : 0 < b = omega arith in let z = div-eq_of_lt hj in add-mul-div_right j i o ∙ (omega arith)

  pub place-second : (j + i * b) % b ≡ j
  place-second = add-mul-mod_self_right j i b ∙ mod-eq_of_lt hj

  pub place-lt : j + i * b < a * b
  place-lt = let l : (i + 1) * b ≤ a * b = mul-le-mul_right b (omega arith) in let e : (i + 1) * b ≡ i * b + b = omega arith in omega arith

pub same_place : (b i j : ℕ) → i / b ≡ j / b → i % b ≡ j % b → i ≡ j
same_place b i j d r = sym (mod-add-div' i b) ∙ ap (λ (x : ℕ). x + i / b * b) r ∙ ap (λ (x : ℕ). j % b + x * b) d ∙ mod-add-div' j b

-- behind the last pair of i, and behind the last that has j, stand pairs of later ones alone
pub past_first : (b i k : ℕ) → 1 ≤ b → b - 1 + i * b < k → i < k / b
past_first b i k o h = elim (split? i (k / b)) [
  | inl l ↦ l
  | inr l ↦ absurd (omega (arith, mod-add-div' k b, mod-lt k o, mul-le-mul_right b l))
]

pub past-second : (a b j k : ℕ) → 1 ≤ b → j + (a - 1) * b < k → k < a * b → j < k % b
past-second a b j k o h l =
    let f : k / b ≤ a - 1 = omega (arith, first_of a b k o l) in
    omega (arith, mod-add-div' k b, mul-le-mul_right b f)

-- ---- three

-- the second of three
pub middle : (k b c : ℕ) → zero < b → zero < c → k / c % b ≡ k % (b * c) / c
middle k b c hb hc =
    let r : ℕ = k % (b * c) in
    let q : ℕ = k / (b * c) in
    let e : r + q * b * c ≡ k = ap (λ (x : ℕ). r + x) (mul_assoc q b c) ∙ mod-add-div' k (b * c) in
    let d : k / c ≡ r / c + q * b = ap (λ (x : ℕ). x / c) (sym e) ∙ add-mul-div_right r (q * b) hc in
    let l : r < b * c = mod-lt k (mul-pos hb hc) in
    ap (λ (x : ℕ). x % b) d ∙ add-mul-mod_self_right (r / c) q b ∙ mod-eq_of_lt ((div-lt_iff_lt-mul hc).1 l)

-- the last of three
pub last : (k b c : ℕ) → k % (b * c) % c ≡ k % c
last k b c =
    let r : ℕ = k % (b * c) in
    let q : ℕ = k / (b * c) in
    let e : r + q * b * c ≡ k = ap (λ (x : ℕ). r + x) (mul_assoc q b c) ∙ mod-add-div' k (b * c) in
    sym (add-mul-mod_self_right r (q * b) c) ∙ ap (λ (x : ℕ). x % c) e

-- the first of three
pub front : (k b c : ℕ) → k / c / b ≡ k / (b * c)
front k b c = div-div-eq-div-mul k c b ∙ ap (λ (x : ℕ). k / x) (mul_comm c b)
