-- The laws of `member`: the bits of a number, of `&`, of `|`, of `^`; a set is known by its members.
-- Assumes nothing.
use mathlib.Core.Path.{◌≡◌, refl, sym, ap, ◌∙◌}
use mathlib.Core.Logic.{⊎_elim}
use mathlib.Core.Bool.{Bool, true, false, not, ◌&&◌, ◌||◌}
use Prim.Native.Nat.{ℕ, zero, suc, ◌+◌, ◌-◌, ◌*◌, ◌/◌, ◌%◌, ◌^◌, ◌≤◌, ◌<◌, min, max}
use native.Mathlib.Nat.{eq-or-lt_of_le, mod-lt, mod-eq_of_lt, div-eq_of_lt, div-one, mul_assoc, mul-add-mod_self_right, lt_of_lt_of_le, pow-suc, zero-lt-suc}
use native.Mathlib.Omega.{arith}
use borrow.Author.Tests.{eq-eqb, ne_eqb}
use lib.Dec.{eqb}
use lib.Arith.{digits_mod, lt-one}
use lib.Pow.{pow_pos, pow_mono, pow-add, shr-shr, high, field}
use lib.Bits.{bit_and, bit_or, bit_xor, differ, and_step, or_step, xor_step, and_shr, or_shr, xor_shr}
use Rattle.sets.specs.Sets.{member}
use Rattle.bounded.proofs.Bools.{clash, split?, binary}

pub two_pos : zero < 2
two_pos = zero-lt-suc 1

-- ---- a set of the first i is one of the first j

pub fits_more : (s i j : ℕ) → s < 2 ^ i → i ≤ j → s < 2 ^ j
fits_more s i j h k = lt_of_lt_of_le h (pow_mono k)

-- ---- a bit of b * 2 ^ n + g, where g is below 2 ^ n

pub bit-top : (n b g : ℕ) → b < 2 → g < 2 ^ n → (b * 2 ^ n + g) / 2 ^ n % 2 ≡ b
bit-top n b g hb hg = ap (λ (x : ℕ). x % 2) (high b n hg) ∙ mod-eq_of_lt hb

-- the bits from n on do not change those below
pub bit-low : (i n b g : ℕ) → i < n → (b * 2 ^ n + g) / 2 ^ i % 2 ≡ g / 2 ^ i % 2
bit-low i n b g h =
    let m : ℕ = n - (1 + i) in
    let e : n ≡ m + (1 + i) = omega arith in
    let q : b * 2 ^ n + g ≡ b * 2 ^ m * 2 ^ (1 + i) + g =
    ap (λ (x : ℕ). b * 2 ^ x + g) e ∙ ap (λ (x : ℕ). b * x + g) (pow-add 2 m (1 + i)) ∙ ap (λ (x : ℕ). x + g) (sym (mul_assoc b (2 ^ m) (2 ^ (1 + i)))) in
    sym (field (b * 2 ^ n + g) 1 i)
    ∙ ap (λ (x : ℕ). x / 2 ^ i) (ap (λ (x : ℕ). x % 2 ^ (1 + i)) q ∙ mul-add-mod_self_right (b * 2 ^ m) (2 ^ (1 + i)) g)
    ∙ field g 1 i

bit_past : (i n s : ℕ) → s < 2 ^ n → n ≤ i → s / 2 ^ i % 2 ≡ 0
bit_past i n s h l = ap (λ (x : ℕ). x % 2) (div-eq_of_lt (fits_more s n i h l))

-- ---- member, of `&`, of `|`, of a power, of what is too small

-- two binary digits: how each operation's digit reads as a test
digits : (op : ℕ → ℕ → ℕ) (test : Bool → Bool → Bool) → eqb (op 0 0) 1 ≡ test false false → eqb (op 0 1) 1 ≡ test false true
    → eqb (op 1 0) 1 ≡ test true false → eqb (op 1 1) 1 ≡ test true true
    → (x y : ℕ) → x < 2 → y < 2 → eqb (op x y) 1 ≡ test (eqb x 1) (eqb y 1)
digits op test e00 e01 e10 e11 x y hx hy =
    ⊎_elim (λ (p : x ≡ 0). ⊎_elim (λ (q : y ≡ 0). rw (p, q) e00) (λ (q : y ≡ 1). rw (p, q) e01) (binary hy))
    (λ (p : x ≡ 1). ⊎_elim (λ (q : y ≡ 0). rw (p, q) e10) (λ (q : y ≡ 1). rw (p, q) e11) (binary hy)) (binary hx)

-- an operation that goes digit by digit: bit i of the result is the digit of the two bits i
by-digit : (op dig : ℕ → ℕ → ℕ) (test : Bool → Bool → Bool) → ((a b k : ℕ) → op a b / 2 ^ k ≡ op (a / 2 ^ k) (b / 2 ^ k))
    → ((a b : ℕ) → op a b ≡ op (a / 2) (b / 2) * 2 + dig (a % 2) (b % 2)) → ((x y : ℕ) → x < 2 → y < 2 → dig x y < 2)
    → ((x y : ℕ) → x < 2 → y < 2 → eqb (dig x y) 1 ≡ test (eqb x 1) (eqb y 1))
    → (a b i : ℕ) → member (op a b) i ≡ test (member a i) (member b i)
unfolding member
by-digit op dig test shr step low digit a b i =
    let x = mod-lt (a / 2 ^ i) two_pos in
    let y = mod-lt (b / 2 ^ i) two_pos in
    ap (λ (x : ℕ). eqb (x % 2) 1) (shr a b i ∙ step (a / 2 ^ i) (b / 2 ^ i))
    ∙ ap (λ (x : ℕ). eqb x 1) (digits_mod (op (a / 2 ^ i / 2) (b / 2 ^ i / 2)) (low (a / 2 ^ i % 2) (b / 2 ^ i % 2) x y))
    ∙ digit (a / 2 ^ i % 2) (b / 2 ^ i % 2) x y

differ-lt : (x y : ℕ) → x < 2 → y < 2 → differ x y < 2
differ-lt x y hx hy =
    ⊎_elim (λ (p : x ≡ 0). ⊎_elim (λ (q : y ≡ 0). rw (p, q) (omega arith)) (λ (q : y ≡ 1). rw (p, q) (omega arith)) (binary hy))
    (λ (p : x ≡ 1). ⊎_elim (λ (q : y ≡ 0). rw (p, q) (omega arith)) (λ (q : y ≡ 1). rw (p, q) (omega arith)) (binary hy)) (binary hx)

pub member-and : (a b i : ℕ) → member (bit_and a b) i ≡ member a i && member b i
member-and = by-digit bit_and min (λ p q. p && q) and_shr and_step (λ x y hx hy. omega arith) (digits min (λ p q. p && q) refl refl refl refl)

pub member-or : (a b i : ℕ) → member (bit_or a b) i ≡ member a i || member b i
member-or = by-digit bit_or max (λ p q. p || q) or_shr or_step (λ x y hx hy. omega arith) (digits max (λ p q. p || q) refl refl refl refl)

-- in one of the two and not in both
abbrev pub unlike : Bool → Bool → Bool
unlike true q = not q
unlike false q = q

pub member-xor : (a b i : ℕ) → member (bit_xor a b) i ≡ unlike (member a i) (member b i)
member-xor = by-digit bit_xor differ unlike xor_shr xor_step differ-lt (digits differ unlike refl refl refl refl)

pub member-past : (s n i : ℕ) → s < 2 ^ n → n ≤ i → member s i ≡ false
unfolding member
member-past s n i h l = ap (λ (x : ℕ). eqb x 1) (bit_past i n s h l)

pub member-zero : (i : ℕ) → member 0 i ≡ false
member-zero i = member-past 0 0 i (omega arith) (omega arith)

-- ---- a set is known by its members

pub member-suc : (s i : ℕ) → member s (suc i) ≡ member (s / 2) i
unfolding member
member-suc s i = ap (λ (x : ℕ). eqb (x % 2) 1) (ap (λ (x : ℕ). s / 2 ^ x) (omega arith) ∙ sym (shr-shr s 1 i))

pub low_digit : (s : ℕ) → member s 0 ≡ eqb (s % 2) 1
unfolding member
low_digit s = ap (λ (x : ℕ). eqb (x % 2) 1) (div-one s)

same-digit : (x y : ℕ) → x < 2 → y < 2 → eqb x 1 ≡ eqb y 1 → x ≡ y
same-digit x y hx hy e =
    ⊎_elim (λ (p : x ≡ 0). ⊎_elim (λ (q : y ≡ 0). p ∙ sym q) (λ (q : y ≡ 1). clash false (rw (p, q) at e) refl) (binary hy))
    (λ (p : x ≡ 1). ⊎_elim (λ (q : y ≡ 0). clash true refl (rw (p, q) at e)) (λ (q : y ≡ 1). p ∙ sym q) (binary hy)) (binary hx)

pub same_set : (n s t : ℕ) → s < 2 ^ n → t < 2 ^ n → ((i : ℕ) → i < n → member s i ≡ member t i) → s ≡ t
same_set zero s t hs ht h = lt-one hs ∙ sym (lt-one ht)
same_set (suc n) s t hs ht h =
    let p = pow-suc 2 n in
    let e : s / 2 ≡ t / 2 =
    same_set n (s / 2) (t / 2) (omega arith) (omega arith) (λ i l. sym (member-suc s i) ∙ h (suc i) (omega arith) ∙ member-suc t i) in
    let d : s % 2 ≡ t % 2 = same-digit (s % 2) (t % 2) (mod-lt s two_pos) (mod-lt t two_pos) (sym (low_digit s) ∙ h 0 (omega arith) ∙ low_digit t) in
    omega arith

pub member-power : (i j : ℕ) → member (2 ^ i) j ≡ eqb j i
unfolding member
member-power i j =
    ap (λ (x : ℕ). eqb (x / 2 ^ j % 2) 1) plain
    ∙ ⊎_elim (λ (l : j < i). ap (λ (x : ℕ). eqb x 1) (bit-low j i 1 0 l ∙ bit_past j 0 0 (omega arith) (omega arith)) ∙ sym (ne_eqb j i (λ q. omega arith)))
    (λ (l : i ≤ j).
    ⊎_elim (λ (q : i ≡ j). rw (← q) (ap (λ (x : ℕ). eqb x 1) (bit-top i 1 0 (omega arith) (pow_pos i)) ∙ sym (eq-eqb i i refl)))
    (λ (m : i < j).
    ap (λ (x : ℕ). eqb x 1) (bit_past j (suc i) (1 * 2 ^ i + 0) (omega (arith, pow-suc 2 i, pow_pos i)) m) ∙ sym (ne_eqb j i (λ q. omega arith)))
    (eq-or-lt_of_le l)) (split? j i)
  where
    plain : 2 ^ i ≡ 1 * 2 ^ i + 0
    plain = omega arith
