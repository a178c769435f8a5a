-- Sets made from gathered sets, as gathered sets.
-- Assumes nothing.
use mathlib.Core.Path.{◌≡◌, refl, sym, ap, ◌∙◌}
use mathlib.Core.Logic.{inl, inr}
use mathlib.Core.Bool.{Bool, true, not, ◌&&◌}
use Prim.Native.Nat.{ℕ, zero, suc, ◌-◌, ◌^◌, ◌≤◌, ◌<◌}
use native.Mathlib.Nat.{lt_of_le_of_lt, pow-suc}
use native.Mathlib.Omega.{arith}
use lib.Pow.{pow_pos}
use lib.Bits.{bit_and, and_le_l, and_le_r}
use Rattle.bounded.proofs.Bools.{split?, and-no-l, and-true}
use Rattle.sets.specs.Sets.{member, gather, only, without, always, all_below}
use Rattle.sets.proofs.Members.{member-and, same_set, fits_more}
use Rattle.sets.proofs.Gather.{gather-lt, gather-is, member-gather, member-gather-past}
use Rattle.sets.proofs.Facts.{gather-e, both-e}

pub gather-fits : (f : ℕ → Bool) (n : ℕ) → n ≤ 64 → gather f n < 2 ^ 64
gather-fits f n h = fits_more (gather f n) n 64 (gather-lt f n) h

-- ---- sets made from sets

pub gather_ext : (f g : ℕ → Bool) (n : ℕ) → ((i : ℕ) → i < n → f i ≡ g i) → gather f n ≡ gather g n
gather_ext f g n h = gather-is g n (gather f n) (gather-lt f n) (λ i l. member-gather f n i l ∙ h i l)

pub gather-and : (f : ℕ → Bool) (n t : ℕ) → bit_and (gather f n) t ≡ gather (λ i. f i && member t i) n
gather-and f n t =
    gather-is (λ i. f i && member t i) n (bit_and (gather f n) t) (lt_of_le_of_lt (and_le_l (gather f n) t) (gather-lt f n))
    (λ i l. member-and (gather f n) t i ∙ ap (λ (b : Bool). b && member t i) (member-gather f n i l))

pub gather-without : (f : ℕ → Bool) (n t : ℕ) → n ≤ 64 → without (gather f n) t ≡ gather (λ i. f i && not (member t i)) n
unfolding without only
gather-without f n t h =
    same_set 64 (gather (only (gather f n) t) 64) (gather (λ i. f i && not (member t i)) n) (gather-lt (only (gather f n) t) 64)
    (gather-fits (λ i. f i && not (member t i)) n h)
    (λ i l. member-gather (only (gather f n) t) 64 i l ∙ elim (split? i n) [
      | inl k ↦ ap (λ (b : Bool). b && not (member t i)) (member-gather f n i k) ∙ sym (member-gather (λ i. f i && not (member t i)) n i k)
      | inr k ↦ and-no-l (member (gather f n) i) (not (member t i)) (member-gather-past f n i k) ∙ sym (member-gather-past (λ i. f i && not (member t i)) n i k)
    ])

-- the set of all numbers below n, as one number
pub below-is : (n : ℕ) → all_below n ≡ 2 ^ n - 1
unfolding all_below always gather
below-is zero = refl
below-is (suc n) = omega (arith, below-is n, pow-suc 2 n, pow_pos n)

-- a set cut to them, with the set b that `all_below` gave
module _ (s b n : ℕ) (e : b ≡ all_below n) where
  pub cut-lt : bit_and s b < 2 ^ n
  unfolding all_below
  cut-lt = lt_of_le_of_lt (and_le_r s b) (rw e (gather-lt always n))

  pub cut_fits : n ≤ 64 → bit_and s b < 2 ^ 64
  cut_fits h = fits_more (bit_and s b) n 64 cut-lt h

  pub cut_at : (i : ℕ) → i < n → member (bit_and s b) i ≡ member s i
  unfolding all_below always
  cut_at i l = member-and s b i ∙ ap (λ (x : Bool). member s i && x) (rw e (member-gather always n i l)) ∙ and-true (member s i)

  pub cut-e : (i : ℕ) → member (bit_and s b) i ≡ true → (i < n) × (member s i ≡ true)
  unfolding all_below
  cut-e i m = let t = both-e s b i m in ((gather-e always n i (rw e at t.1)).0, t.0)
