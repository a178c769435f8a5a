-- A walk over the members of a set, the lowest first: each turn takes the lowest out.
-- Assumes nothing.
use mathlib.Core.Path.{◌≡◌, refl, sym, ap, ◌∙◌}
use mathlib.Core.Logic.{◌≢◌, ◌⊎◌, inl, inr}
use mathlib.Core.Bool.{Bool, true, false, not, ◌&&◌}
use Prim.Native.Nat.{ℕ, zero, suc, ◌-◌, ◌/◌, ◌%◌, ◌^◌, ◌≤◌, ◌<◌}
use native.Mathlib.Nat.{lt_of_le_of_lt, not-suc-le-zero, le_refl, le_of_suc-le-suc}
use native.Mathlib.Omega.{arith}
use borrow.Author.Tests.{eqb-true, eqb-false, eq-eqb, ne_eqb}
use lib.Dec.{eqb}
use lib.Bits.{bit_and, and_le_l, and_le_r}
use Rattle.bounded.specs.Bounded.{imp, one, any, all, first}
use Rattle.bounded.proofs.Bools.{which, clash, off, same?, split?, same_test, imp-e, imp-i, and_l, and_r, and-true, ◌&◌}
use Rattle.bounded.proofs.Tests.{all-i, all-e}
use Rattle.bounded.proofs.First.{first-least}
use Rattle.bounded.proofs.Loops.{any-over, first-at, first-over}
use Rattle.bounded.proofs.Sums.{count-sum, sum_one}
use Rattle.sets.specs.Sets.{alone, member, gather, only, without, but_lowest, size_of}
use Rattle.sets.proofs.Members.{member-and, member-zero, member-power, member-past, member-suc, low_digit}
use Rattle.sets.proofs.Gather.{gather-is, gather-lt, member-gather}
use Rattle.sets.proofs.Facts.{gather-e, gather-i, empty-n, nonzero-i, some-on, some-member, without-e, without-i}

-- ---- the lowest member of a set that is not empty

module _ (s : ℕ) (fits : s < 2 ^ 64) (d : s ≢ 0) where
  pub lowest-lt : first (member s) 64 < 64
  lowest-lt =
      let t = some-member s fits (some-on s s refl d) in
      elim (split? (first (member s) 64) 64) [
        | inl k ↦ k
        | inr k ↦ elim (split? t.0 64) [
          | inl m ↦ clash (member s t.0) t.1 ((first-least (member s) 64).before t.0 (omega arith))
          | inr m ↦ clash (member s t.0) t.1 (member-past s 64 t.0 fits m)
        ]
      ]

  pub lowest-in : member s (first (member s) 64) ≡ true
  lowest-in = (first-least (member s) 64).at lowest-lt

-- ---- `s & (s - 1)`: one less clears the lowest member and keeps those above it

odd : (s : ℕ) → member s 0 ≡ true → s % 2 ≡ 1
odd s e = eqb-true (s % 2) 1 (sym (low_digit s) ∙ e)

even : (s : ℕ) → member s 0 ≡ false → s % 2 ≡ 0
even s e = let d = eqb-false (s % 2) 1 (sym (low_digit s) ∙ e) in omega arith

-- the members above 0 of one less, by halves
half-odd : (s i : ℕ) → member s 0 ≡ true → member (s - 1) (suc i) ≡ member s (suc i)
half-odd s i o =
    let p = odd s o in
    let q : (s - 1) / 2 ≡ s / 2 = omega arith in
    member-suc (s - 1) i ∙ ap (λ (t : ℕ). member t i) q ∙ sym (member-suc s i)

half-even : (s i : ℕ) → s ≢ 0 → member s 0 ≡ false → member (s - 1) (suc i) ≡ member (s / 2 - 1) i
half-even s i d o =
    let p = even s o in
    let q : (s - 1) / 2 ≡ s / 2 - 1 = omega arith in
    member-suc (s - 1) i ∙ ap (λ (t : ℕ). member t i) q

less-clears : (i s : ℕ) → member s i ≡ true → ((j : ℕ) → j < i → member s j ≡ false) → member (s - 1) i ≡ false
less-clears zero s e h = let p = odd s e in low_digit (s - 1) ∙ ne_eqb ((s - 1) % 2) 1 (λ q. omega arith)
less-clears (suc i) s e h =
    half-even s i (nonzero-i s (suc i) e) (h 0 (omega arith))
    ∙ less-clears i (s / 2) (sym (member-suc s i) ∙ e) (λ j l. sym (member-suc s j) ∙ h (suc j) (omega arith))

less-keeps : (j i s : ℕ) → j < i → member s j ≡ true → member s i ≡ true → member (s - 1) i ≡ true
less-keeps j zero s l m e = absurd (not-suc-le-zero l)
less-keeps zero (suc i) s l m e = half-odd s i m ∙ e
less-keeps (suc j) (suc i) s l m e = elim (which (member s 0)) [
  | inl o ↦ half-odd s i o ∙ e
  | inr o ↦
      half-even s i (nonzero-i s (suc i) e) o
      ∙ less-keeps j i (s / 2) (le_of_suc-le-suc l) (sym (member-suc s j) ∙ m) (sym (member-suc s i) ∙ e)
]

-- ---- the members but the lowest

and-if : (a b c : Bool) → (a ≡ true → b ≡ c) → a && b ≡ a && c
and-if true b c h = h refl
and-if false b c h = refl

module _ (s : ℕ) (fits : s < 2 ^ 64) (d : s ≢ 0) where
  less-but : (i : ℕ) → member s i ≡ true → member (s - 1) i ≡ not (member (alone (first (member s) 64)) i)
  less-but i e =
      let m = first (member s) 64 in
      let b = (first-least (member s) 64).before in
      elim (same? i m) [
        | inl p ↦ less-clears i s e (λ j l. b j (omega arith)) ∙ ap not (sym (member-power m i ∙ eq-eqb i m p))
        | inr q ↦ elim (split? i m) [
          | inl l ↦ clash (member s i) e (b i l)
          | inr l ↦ less-keeps m i s (omega arith) (lowest-in s fits d) e ∙ ap not (sym (member-power m i ∙ ne_eqb i m q))
        ]
      ]

  pub and-less : bit_and s (s - 1) ≡ but_lowest s
  unfolding but_lowest without only
  and-less =
      let m = first (member s) 64 in
      gather-is (only s (alone m)) 64 (bit_and s (s - 1)) (lt_of_le_of_lt (and_le_l s (s - 1)) fits)
      (λ i l. member-and s (s - 1) i ∙ and-if (member s i) (member (s - 1) i) (not (member (alone m) i)) (less-but i))

  pub but-lowest-less : but_lowest s < s
  but-lowest-less = omega (arith, and-less, and_le_r s (s - 1))

pub but-lowest-fits : (s : ℕ) → but_lowest s < 2 ^ 64
unfolding but_lowest without
but-lowest-fits s = gather-lt (only s (alone (first (member s) 64))) 64

-- each of them is a member, and each member is one of them or the lowest
pub but-lowest-e : (s i : ℕ) → member (but_lowest s) i ≡ true → member s i ≡ true
unfolding but_lowest
but-lowest-e s i e = (without-e s (alone (first (member s) 64)) i e).1

pub but-lowest-i : (s i : ℕ) → s < 2 ^ 64 → member s i ≡ true → (i ≡ first (member s) 64) ⊎ (member (but_lowest s) i ≡ true)
unfolding but_lowest
but-lowest-i s i fits e =
    let m = first (member s) 64 in
    elim (same? i m) [
      | inl p ↦ inl p
      | inr q ↦ elim (split? i 64) [
        | inl l ↦ inr (without-i s (alone m) i l e (member-power m i ∙ ne_eqb i m q))
        | inr l ↦ clash (member s i) e (member-past s 64 i fits l)
      ]
    ]

pub but-lowest-at : (s i : ℕ) → i < 64 → member (but_lowest s) i ≡ member s i && not (eqb i (first (member s) 64))
unfolding but_lowest without only
but-lowest-at s i l = let m = first (member s) 64 in member-gather (only s (alone m)) 64 i l ∙ ap (λ (b : Bool). member s i && not b) (member-power m i)

-- there is one fewer
pub but-lowest-size : (s : ℕ) → s < 2 ^ 64 → s ≢ 0 → size_of (but_lowest s) < size_of s
unfolding size_of
but-lowest-size s fits d =
    let m = first (member s) 64 in
    let lt : m < 64 = lowest-lt s fits d in
    let f : ℕ → ℕ = λ i. one (member (but_lowest s) i) in
    let g : ℕ → ℕ = λ i. one (member s i) in
    let same : (i : ℕ) → i ≢ m → f i ≡ g i = λ i n. elim (split? i 64) [
      | inl l ↦ ap one (but-lowest-at s i l ∙ rw (ne_eqb i m n) (and-true (member s i)))
      | inr l ↦ ap one (member-past (but_lowest s) 64 i (but-lowest-fits s) l ∙ sym (member-past s 64 i fits l))
    ] in
    let fm : f m ≡ 0 = ap one (but-lowest-at s m lt) ∙ rw (eq-eqb m m refl, lowest-in s fits d) in
    let gm : g m ≡ 1 = ap one (lowest-in s fits d) in
    omega (arith, count-sum (member (but_lowest s)) 64, count-sum (member s) 64, sum_one f g 64 m lt same)

-- ---- a test that every member passes

unfoldable pub if_in : ℕ → (ℕ → Bool) → ℕ → Bool
if_in s f i = imp (member s i) (f i)

-- every member of s passes f
unfoldable pub every : (ℕ → Bool) → ℕ → Bool
every f s = all (if_in s f) 64

module _ (f : ℕ → Bool) where
  pub every-i : (s : ℕ) → ((i : ℕ) → i < 64 → member s i ≡ true → f i ≡ true) → every f s ≡ true
  unfolding every if_in
  every-i s h = all-i (if_in s f) 64 (λ i l. imp-i (member s i) (f i) (h i l))

  pub every-e : (s i : ℕ) → every f s ≡ true → i < 64 → member s i ≡ true → f i ≡ true
  unfolding every if_in
  every-e s i e l = imp-e (member s i) (f i) (all-e (if_in s f) 64 e i l)

  pub every-zero : every f 0 ≡ true
  every-zero = every-i 0 (λ i l e. clash (member 0 i) e (member-zero i))

  -- the lowest passes, and the others do
  pub every-lowest : (s : ℕ) → s < 2 ^ 64 → s ≢ 0 → every f s ≡ f (first (member s) 64) && every f (but_lowest s)
  every-lowest s fits d =
      let m = first (member s) 64 in
      same_test (every f s) (f m && every f (but_lowest s))
      (λ e. every-e s m e (lowest-lt s fits d) (lowest-in s fits d) & every-i (but_lowest s) (λ i l p. every-e s i e l (but-lowest-e s i p)))
      (λ e. every-i s (λ i l p. elim (but-lowest-i s i fits p) [
        | inl q ↦ rw q (and_l (f m) (every f (but_lowest s)) e)
        | inr q ↦ every-e (but_lowest s) i (and_r (f m) (every f (but_lowest s)) e) l q
      ]))

  -- the members of a gathered set
  pub every-gather : (g : ℕ → Bool) (n : ℕ) → n ≤ 64 → every f (gather g n) ≡ all (λ i. imp (g i) (f i)) n
  every-gather g n h =
      same_test (every f (gather g n)) (all (λ i. imp (g i) (f i)) n)
      (λ e. all-i (λ i. imp (g i) (f i)) n (λ i l. imp-i (g i) (f i) (λ p. every-e (gather g n) i e (omega arith) (gather-i g n i l p))))
      (λ e. every-i (gather g n) (λ i l p. let t = gather-e g n i p in imp-e (g i) (f i) (all-e (λ i. imp (g i) (f i)) n e i t.0) t.1))

-- ---- the first that passes

-- a walk over t that has s left; what is no longer in it did not pass f
pub record Walked (f : ℕ → Bool) (t s : ℕ) : Type 0 where
  pub fits : s < 2 ^ 64
  pub part : (i : ℕ) → member s i ≡ true → member t i ≡ true
  pub failed : (i : ℕ) → member t i ≡ true → member s i ≡ false → f i ≡ false

module _ (f : ℕ → Bool) (t : ℕ) where
  pub walk_none : t < 2 ^ 64 → Walked f t t
  walk_none h = record { fits = h; part = λ i e. e; failed = λ i e n. clash (member t i) e n }

  -- m and s' are what the code took out and what it left
  pub walk-on : (s m s' : ℕ) → m ≡ first (member s) 64 → s' ≡ but_lowest s → f m ≡ false → Walked f t s → Walked f t s'
  walk-on s m s' em es n w = rw es (record {
    fits = but-lowest-fits s;
    part = λ i e. w.part i (but-lowest-e s i e);
    failed = λ i e o. elim (which (member s i)) [
      | inr q ↦ w.failed i e q
      | inl q ↦ elim (but-lowest-i s i w.fits q) [
        | inl p ↦ rw (p, ← em) n
        | inr p ↦ clash (member (but_lowest s) i) p o
      ]
    ];
  })

  pub walk_at : (s m : ℕ) → m ≡ first (member s) 64 → s ≢ 0 → Walked f t s → member t m ≡ true
  walk_at s m em d w = rw em (w.part (first (member s) 64) (lowest-in s w.fits d))

  -- where only members of t pass
  module _ (n : ℕ) (inside : (i : ℕ) → i < n → f i ≡ true → member t i ≡ true) where
    missed : (s i : ℕ) → i < n → member s i ≡ false → Walked f t s → f i ≡ false
    missed s i l o w = off (f i) (λ p. clash (f i) p (w.failed i (inside i l p) o))

    pub walk-found : (s m : ℕ) → m ≡ first (member s) 64 → m < n → f m ≡ true → Walked f t s → m ≡ first f n
    walk-found s m em l e w = first-at f n m (λ k h. missed s k (omega arith) ((first-least (member s) 64).before k (omega arith)) w) l e

    pub walk-over : (s : ℕ) → s ≡ 0 → Walked f t s → n ≡ first f n
    walk-over s z w = first-over f n n (λ k h. missed s k h (empty-n s k z) w) (le_refl n)

    pub walk-past : (s : ℕ) → s ≡ 0 → Walked f t s → false ≡ any f n
    walk-past s z w = any-over f n n (λ k h. missed s k h (empty-n s k z) w) (le_refl n)
