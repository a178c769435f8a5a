-- A set moved up by n, and its union with a set below n.
-- Assumes nothing.
use mathlib.Core.Path.{◌≡◌, sym, ap, ap₂, ◌∙◌}
use mathlib.Core.Bool.{Bool, false, ◌||◌}
use Prim.Native.Nat.{ℕ, ◌+◌, ◌*◌, ◌/◌, ◌%◌, ◌^◌, ◌≤◌, ◌<◌}
use native.Mathlib.Omega.{arith}
use native.Mathlib.Nat.{mul-div_cancel, mul-lt-mul_of_pos_right, zero-div}
use lib.Pow.{pow_pos, pow-add, shr-shr}
use lib.Dec.{eqb}
use lib.Bits.{bit_or, or_lt}
use Rattle.bounded.proofs.Bools.{or-false}
use Rattle.bounded.proofs.Sums.{count-mono}
use Rattle.sets.specs.Sets.{member, size_of}
use Rattle.sets.proofs.Members.{bit-low, fits_more, member-or, member-past}
use Rattle.sets.proofs.Facts.{either_l}

-- ---- the members of x * 2 ^ n

pub moved-low : (x n i : ℕ) → i < n → member (x * 2 ^ n) i ≡ false
unfolding member
moved-low x n i h =
    let e : x * 2 ^ n ≡ x * 2 ^ n + 0 = omega arith in
    let d : (x * 2 ^ n + 0) / 2 ^ i % 2 ≡ 0 / 2 ^ i % 2 = bit-low i n x 0 h in
    ap (λ (y : ℕ). eqb (y / 2 ^ i % 2) 1) e ∙ ap (λ (y : ℕ). eqb y 1) d ∙ ap (λ (y : ℕ). eqb (y % 2) 1) (zero-div (2 ^ i))

pub moved-high : (x n i : ℕ) → member (x * 2 ^ n) (n + i) ≡ member x i
unfolding member
moved-high x n i =
    ap (λ (y : ℕ). eqb (y % 2) 1) (sym (shr-shr (x * 2 ^ n) n i)) ∙ ap (λ (y : ℕ). eqb (y / 2 ^ i % 2) 1) (mul-div_cancel x (pow_pos n))

-- a set below l, moved up by k
pub moved-lt : (x k l : ℕ) → x < 2 ^ l → x * 2 ^ k < 2 ^ (k + l)
moved-lt x k l h =
    let e : 2 ^ (k + l) ≡ 2 ^ l * 2 ^ k = ap (λ (i : ℕ). 2 ^ i) (omega arith) ∙ pow-add 2 l k in
    rw e (mul-lt-mul_of_pos_right h (pow_pos k))

-- ---- the union of x, below n, and y moved up by n

module _ (n x y : ℕ) where
  pub union-low : (i : ℕ) → i < n → member (bit_or x (y * 2 ^ n)) i ≡ member x i
  union-low i h = member-or x (y * 2 ^ n) i ∙ ap (λ (b : Bool). member x i || b) (moved-low y n i h) ∙ or-false (member x i)

  pub union-high : x < 2 ^ n → (i : ℕ) → member (bit_or x (y * 2 ^ n)) (n + i) ≡ member y i
  union-high h i = member-or x (y * 2 ^ n) (n + i) ∙ ap₂ (λ (a b : Bool). a || b) (member-past x n (n + i) h (omega arith)) (moved-high y n i)

  pub union-lt : (l : ℕ) → x < 2 ^ n → y < 2 ^ l → bit_or x (y * 2 ^ n) < 2 ^ (n + l)
  union-lt l h k = or_lt (n + l) x (y * 2 ^ n) (fits_more x n (n + l) h (omega arith)) (moved-lt y n l k)

  pub union-size : size_of x ≤ size_of (bit_or x (y * 2 ^ n))
  unfolding size_of
  union-size = count-mono (member x) (member (bit_or x (y * 2 ^ n))) 64 (λ i h e. either_l x (y * 2 ^ n) i e)
