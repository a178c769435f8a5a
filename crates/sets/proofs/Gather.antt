-- The laws of `gather`: the set of the numbers that pass a test, and how a loop builds it.
-- Assumes nothing.
use mathlib.Core.Path.{◌≡◌, refl, sym, ap, ◌∙◌}
use mathlib.Core.Logic.{⊎_elim}
use mathlib.Core.Bool.{Bool, true, false}
use Prim.Native.Nat.{ℕ, zero, suc, ◌+◌, ◌^◌, ◌≤◌, ◌<◌}
use native.Mathlib.Nat.{not-suc-le-zero, pow-suc, one-mul}
use native.Mathlib.Omega.{arith}
use native.Mathlib.Numerals.{add-one}
use lib.Dec.{eqb}
use lib.Bits.{bit_or, or_shifted_r}
use lib.Count.{ones, ones_cat}
use lib.ListN.{length}
use Rattle.bounded.specs.Bounded.{one, count, listed}
use Rattle.bounded.proofs.Bools.{which, last?, one-le, one-test}
use Rattle.bounded.proofs.Lists.{listed-length}
use Rattle.bounded.proofs.Sums.{count-le}
use Rattle.sets.specs.Sets.{member, gather, size_of}
use Rattle.sets.proofs.Members.{bit-top, bit-low, member-past, same_set, fits_more}

module _ (f : ℕ → Bool) where
  pub gather-lt : (n : ℕ) → gather f n < 2 ^ n
  unfolding gather
  gather-lt zero = omega arith
  gather-lt (suc n) =
      ⊎_elim (λ (e : f n ≡ true). rw e (omega (arith, pow-suc 2 n, gather-lt n)))
      (λ (e : f n ≡ false). rw e (omega (arith, pow-suc 2 n, gather-lt n))) (which (f n))

  pub gather-zero : gather f 0 ≡ 0
  unfolding gather
  gather-zero = refl

  pub member-gather : (n i : ℕ) → i < n → member (gather f n) i ≡ f i
  unfolding gather member
  member-gather zero i h = absurd (not-suc-le-zero h)
  member-gather (suc n) i h =
      ⊎_elim (λ (q : i ≡ n). rw q (ap (λ (x : ℕ). eqb x 1) (bit-top n (one (f n)) (gather f n) (omega (arith, one-le (f n))) (gather-lt n)) ∙ one-test (f n)))
      (λ (l : i < n). ap (λ (x : ℕ). eqb x 1) (bit-low i n (one (f n)) (gather f n) l) ∙ member-gather n i l)
      (last? h)

  pub member-gather-past : (n i : ℕ) → n ≤ i → member (gather f n) i ≡ false
  member-gather-past n i l = member-past (gather f n) n i (gather-lt n) l

  -- a number whose members are those that pass f
  pub gather-is : (n s : ℕ) → s < 2 ^ n → ((i : ℕ) → i < n → member s i ≡ f i) → s ≡ gather f n
  gather-is n s hs h = same_set n s (gather f n) hs (gather-lt n) (λ i l. h i l ∙ sym (member-gather n i l))

  -- one more turn of a loop that gathers: bit n is put in where f n holds
  pub gather-put : (n : ℕ) → f n ≡ true → bit_or (gather f n) (2 ^ n) ≡ gather f (n + 1)
  unfolding gather
  gather-put n e = rw (add-one, e) (ap (bit_or (gather f n)) (sym (one-mul (2 ^ n))) ∙ or_shifted_r 1 n (gather f n) (gather-lt n))

  pub gather-skip : (n : ℕ) → f n ≡ false → gather f n ≡ gather f (n + 1)
  unfolding gather
  gather-skip n e = rw (add-one, e) (omega arith)

  -- the count of set bits is the count of what passes
  pub ones-gather : (n : ℕ) → ones (gather f n) ≡ count f n
  unfolding gather count ones
  ones-gather zero = refl
  ones-gather (suc n) =
      ones_cat n (one (f n)) (gather f n) (gather-lt n)
      ∙ ⊎_elim (λ (e : f n ≡ true). rw e (omega (arith, ones-gather n))) (λ (e : f n ≡ false). rw e (omega (arith, ones-gather n))) (which (f n))

pub gather-member : (n s : ℕ) → s < 2 ^ n → gather (member s) n ≡ s
gather-member n s h = sym (gather-is (member s) n s h (λ i l. refl))

pub ones-count : (n s : ℕ) → s < 2 ^ n → ones s ≡ count (member s) n
ones-count n s h = ap ones (sym (gather-member n s h)) ∙ ones-gather (member s) n

-- the size of a set: its ones, its members, the length of the rising list of its members
pub ones-size : (s : ℕ) → s < 2 ^ 64 → ones s ≡ size_of s
unfolding size_of
ones-size s h = ones-count 64 s h

pub size-listed : (s : ℕ) → size_of s ≡ length (listed (member s) 64)
unfolding size_of
size-listed s = sym (listed-length (member s) 64)

pub size_small : (s : ℕ) → size_of s ≤ 64
unfolding size_of
size_small s = count-le (member s) 64

pub size-le : (n s : ℕ) → n ≤ 64 → s < 2 ^ n → size_of s ≤ n
size-le n s h l = omega (arith, ones-size s (fits_more s n 64 l h), ones-count n s l, count-le (member s) n)
