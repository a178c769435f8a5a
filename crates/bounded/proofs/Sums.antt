-- The laws of `sum` and `count`.
-- Assumes nothing.
use mathlib.Core.Path.{◌≡◌, refl, ap, ◌∙◌}
use mathlib.Core.Logic.{◌≢◌, inl, inr}
use mathlib.Core.Bool.{Bool, true, false}
use Prim.Native.Nat.{ℕ, zero, suc, ◌+◌, ◌*◌, ◌≤◌, ◌<◌}
use native.Mathlib.Nat.{not-suc-le-zero, le_refl, eq-or-lt_of_le, mul-suc}
use native.Mathlib.Omega.{arith}
use native.Mathlib.Numerals.{add-one}
use Rattle.bounded.specs.Bounded.{one, sum, count}
use Rattle.bounded.proofs.Bools.{last?, same?, one-le}

-- ---- sums

pub sum-eq : (f g : ℕ → ℕ) (n : ℕ) → ((i : ℕ) → i < n → f i ≡ g i) → sum f n ≡ sum g n
unfolding sum
sum-eq f g zero eq = refl
sum-eq f g (suc n) eq = omega (arith, sum-eq f g n (λ i l. eq i (omega arith)), eq n (le_refl (suc n)))

pub sum_mono : (f g : ℕ → ℕ) (n : ℕ) → ((i : ℕ) → i < n → f i ≤ g i) → sum f n ≤ sum g n
unfolding sum
sum_mono f g zero le = omega arith
sum_mono f g (suc n) le = omega (arith, sum_mono f g n (λ i l. le i (omega arith)), le n (le_refl (suc n)))

pub sum-add : (f g : ℕ → ℕ) (n : ℕ) → sum (λ i. f i + g i) n ≡ sum f n + sum g n
unfolding sum
sum-add f g zero = refl
sum-add f g (suc n) = omega (arith, sum-add f g n)

pub sum-le : (f g h : ℕ → ℕ) (n : ℕ) → ((i : ℕ) → i < n → f i ≤ g i + h i) → sum f n ≤ sum g n + sum h n
sum-le f g h n le = omega (arith, sum_mono f (λ i. g i + h i) n le, sum-add g h n)

pub sum-times : (k : ℕ) (f : ℕ → ℕ) (n : ℕ) → sum (λ i. k * f i) n ≡ k * sum f n
unfolding sum
sum-times k f zero = omega arith
sum-times k f (suc n) = omega (arith, sum-times k f n)

pub sum-zero : (f : ℕ → ℕ) (n : ℕ) → ((i : ℕ) → i < n → f i ≡ 0) → sum f n ≡ 0
unfolding sum
sum-zero f zero e = refl
sum-zero f (suc n) e = omega (arith, sum-zero f n (λ i l. e i (omega arith)), e n (le_refl (suc n)))

pub sum-upto : (f : ℕ → ℕ) (i n : ℕ) → i ≤ n → sum f i ≤ sum f n
unfolding sum
sum-upto f i zero h = let e : i ≡ 0 = omega arith in rw e (le_refl 0)
sum-upto f i (suc n) h = elim (eq-or-lt_of_le h) [ inl e ↦ rw e (le_refl (sum f (suc n))) | inr l ↦ omega (arith, sum-upto f i n (omega arith)) ]

pub sum-most : (f : ℕ → ℕ) (n a : ℕ) → ((k : ℕ) → k < a → f k ≤ n) → sum f a ≤ n * a
unfolding sum
sum-most f n zero h = omega arith
sum-most f n (suc a) h = let p : n * suc a ≡ n * a + n = mul-suc n a in omega (arith, sum-most f n a (λ k l. h k (omega arith)), h a (le_refl (suc a)))

-- one entry changes
pub sum_one : (f g : ℕ → ℕ) (n x : ℕ) → x < n → ((i : ℕ) → i ≢ x → f i ≡ g i) → sum f n + g x ≡ sum g n + f x
unfolding sum
sum_one f g zero x h eq = absurd (not-suc-le-zero h)
sum_one f g (suc n) x h eq = elim (last? h) [
  | inl p ↦ rw p (omega (arith, sum-eq f g n (λ i l. eq i (omega arith))))
  | inr l ↦ omega (arith, sum_one f g n x l eq, eq n (omega arith))
]

-- ---- counts

-- a count is a sum of ones
pub count-sum : (f : ℕ → Bool) (n : ℕ) → count f n ≡ sum (λ i. one (f i)) n
unfolding count sum
count-sum f zero = refl
count-sum f (suc n) = omega (arith, count-sum f n)

pub count-suc : (f : ℕ → Bool) (n : ℕ) → count f (n + 1) ≡ count f n + one (f n)
unfolding count
count-suc f n = rw add-one

pub count-le : (f : ℕ → Bool) (n : ℕ) → count f n ≤ n
unfolding count
count-le f zero = omega arith
count-le f (suc n) = omega (arith, count-le f n, one-le (f n))

pub count-upto : (f : ℕ → Bool) (i n : ℕ) → i ≤ n → count f i ≤ count f n
count-upto f i n h = omega (arith, count-sum f i, count-sum f n, sum-upto (λ k. one (f k)) i n h)

-- a member counts once: those below it are fewer than those below a larger bound
pub count-lt : (f : ℕ → Bool) (n i : ℕ) → i < n → f i ≡ true → count f i < count f n
unfolding count
count-lt f zero i h e = absurd (not-suc-le-zero h)
count-lt f (suc n) i h e = elim (last? h) [
  | inl p ↦ (let q : f n ≡ true = rw p at e in rw (p, q) (omega arith))
  | inr l ↦ omega (arith, count-lt f n i l e)
]

-- one fails, so not all pass
pub count-lacks : (f : ℕ → Bool) (n i : ℕ) → i < n → f i ≡ false → count f n < n
unfolding count
count-lacks f zero i h e = absurd (not-suc-le-zero h)
count-lacks f (suc n) i h e = elim (last? h) [
  | inl p ↦ (let q : f n ≡ false = rw p at e in rw q (omega (arith, count-le f n)))
  | inr l ↦ omega (arith, count-lacks f n i l e, one-le (f n))
]

one-mono : (a b : Bool) → (a ≡ true → b ≡ true) → one a ≤ one b
one-mono true b h = rw (h refl) (omega arith)
one-mono false b h = omega arith

pub count_none : (f : ℕ → Bool) (n : ℕ) → ((i : ℕ) → i < n → f i ≡ false) → count f n ≡ 0
count_none f n h = count-sum f n ∙ sum-zero (λ i. one (f i)) n (λ i l. ap one (h i l))

-- what passes f passes g
pub count-mono : (f g : ℕ → Bool) (n : ℕ) → ((i : ℕ) → i < n → f i ≡ true → g i ≡ true) → count f n ≤ count g n
count-mono f g n h = omega (arith, count-sum f n, count-sum g n, sum_mono (λ i. one (f i)) (λ i. one (g i)) n (λ i l. one-mono (f i) (g i) (h i l)))

-- but for one number, what passes f passes g
pub count-but-one : (f g : ℕ → Bool) (n x : ℕ) → ((i : ℕ) → i < n → i ≢ x → f i ≡ true → g i ≡ true) → count f n ≤ count g n + 1
unfolding count
count-but-one f g zero x h = omega arith
count-but-one f g (suc n) x h = elim (same? n x) [
  | inl p ↦ omega (arith, one-le (f n), count-mono f g n (λ i l e. h i (omega arith) (omega arith) e))
  | inr d ↦ omega (arith, count-but-one f g n x (λ i l. h i (omega arith)), one-mono (f n) (g n) (h n (le_refl (suc n)) d))
]
