-- Sets made by a test, subsets, sets apart and sets that are not empty, as facts about members: e takes a fact out, i brings one in, n is for none.
-- Assumes nothing.
use mathlib.Core.Path.{◌≡◌, sym, ◌∙◌, refl, ap}
use mathlib.Core.Logic.{◌⊎◌, inl, inr, ◌≢◌}
use mathlib.Core.Bool.{Bool, true, not, ◌&&◌, false}
use Prim.Native.Nat.{ℕ, ◌<◌, zero, suc, ◌^◌}
use native.Mathlib.Nat.{zero-mul, zero-add, le_refl}
use native.Mathlib.Omega.{arith}
use lib.Bits.{bit_and, bit_or}
use borrow.Author.Tests.{eq-eqb, ne_eqb, not-true, not-false}
use Rattle.bounded.proofs.Bools.{clash, split?, imp-e, imp-i, off, and_l, and_r, not-i, which, ◌&◌, or_cases, or_l, or_r}
use Rattle.bounded.proofs.Tests.{all-i, all-e, all-n}
use Rattle.sets.specs.Sets.{member, gather, kept, subset_of, apart, disjoint_from, some, only, without}
use Rattle.sets.proofs.Gather.{member-gather, member-gather-past, gather-member}
use Rattle.sets.proofs.Members.{member-zero, member-and, member-or}

-- ---- the set of what passes a test

pub gather-e : (f : ℕ → Bool) (n i : ℕ) → member (gather f n) i ≡ true → (i < n) × (f i ≡ true)
gather-e f n i e = elim (split? i n) [
  | inl h ↦ (h, sym (member-gather f n i h) ∙ e)
  | inr h ↦ clash (member (gather f n) i) e (member-gather-past f n i h)
]

pub gather-i : (f : ℕ → Bool) (n i : ℕ) → i < n → f i ≡ true → member (gather f n) i ≡ true
gather-i f n i h e = member-gather f n i h ∙ e

-- ---- subsets and sets apart

pub subset-e : (a b i : ℕ) → subset_of a b ≡ true → i < 64 → member a i ≡ true → member b i ≡ true
unfolding subset_of kept
subset-e a b i e h m = imp-e (member a i) (member b i) (all-e (kept a b) 64 e i h) m

pub subset-i : (a b : ℕ) → ((i : ℕ) → i < 64 → member a i ≡ true → member b i ≡ true) → subset_of a b ≡ true
unfolding subset_of kept
subset-i a b h = all-i (kept a b) 64 (λ i l. imp-i (member a i) (member b i) (h i l))

-- not apart: a common member
pub meet-i : (a b i : ℕ) → i < 64 → member a i ≡ true → member b i ≡ true → not (disjoint_from a b) ≡ true
unfolding disjoint_from apart
meet-i a b i h p q =
    not-i _ (off (disjoint_from a b) (λ e. clash (member a i && member b i) (p & q) (not-true (member a i && member b i) (all-e (apart a b) 64 e i h))))

pub meet-e : (a b : ℕ) → not (disjoint_from a b) ≡ true → (i : ℕ) × (i < 64) × (member a i ≡ true) × (member b i ≡ true)
unfolding disjoint_from apart
meet-e a b e =
    let t = all-n (apart a b) 64 (not-true (disjoint_from a b) e) in
    let m = not-false (member a t.0 && member b t.0) t.2 in
    (t.0, t.1, and_l (member a t.0) _ m, and_r (member a t.0) _ m)

pub apart-i : (a b : ℕ) → ((i : ℕ) → i < 64 → member a i ≡ true → member b i ≡ false) → disjoint_from a b ≡ true
unfolding disjoint_from apart
apart-i a b f = all-i (apart a b) 64 (λ i h. not-i _ (off (member a i && member b i) (λ e. clash (member b i) (and_r (member a i) _ e) (f i h (and_l (member a i) _ e)))))

pub apart-e : (a b i : ℕ) → disjoint_from a b ≡ true → i < 64 → member a i ≡ true → member b i ≡ false
apart-e a b i e h p = off (member b i) (λ q. clash (disjoint_from a b) e (not-true _ (meet-i a b i h p q)))

-- ---- members of a set made from two

module _ (a b i : ℕ) where
  pub both-e : member (bit_and a b) i ≡ true → (member a i ≡ true) × (member b i ≡ true)
  both-e e = let t = sym (member-and a b i) ∙ e in (and_l (member a i) _ t, and_r (member a i) _ t)

  pub both-i : member a i ≡ true → member b i ≡ true → member (bit_and a b) i ≡ true
  both-i p q = member-and a b i ∙ (p & q)

  pub either-e : member (bit_or a b) i ≡ true → (member a i ≡ true) ⊎ (member b i ≡ true)
  either-e e = or_cases (member a i) (member b i) (sym (member-or a b i) ∙ e)

  pub either_l : member a i ≡ true → member (bit_or a b) i ≡ true
  either_l p = member-or a b i ∙ or_l (member a i) (member b i) p

  pub either_r : member b i ≡ true → member (bit_or a b) i ≡ true
  either_r p = member-or a b i ∙ or_r (member a i) (member b i) p

  pub neither-i : member a i ≡ false → member b i ≡ false → member (bit_or a b) i ≡ false
  neither-i p q = member-or a b i ∙ rw (p, q)

  pub neither-e : member (bit_or a b) i ≡ false → (member a i ≡ false) × (member b i ≡ false)
  neither-e e = (off (member a i) (λ p. clash (member (bit_or a b) i) (either_l p) e), off (member b i) (λ p. clash (member (bit_or a b) i) (either_r p) e))

  pub without-e : member (without a b) i ≡ true → (i < 64) × (member a i ≡ true) × (member b i ≡ false)
  unfolding without only
  without-e e = let t = gather-e (only a b) 64 i e in (t.0, and_l (member a i) _ t.1, not-true (member b i) (and_r (member a i) _ t.1))

  pub without-i : i < 64 → member a i ≡ true → member b i ≡ false → member (without a b) i ≡ true
  unfolding without only
  without-i h p q = gather-i (only a b) 64 i h (p & not-i _ q)

-- ---- not empty

pub empty-n : (s i : ℕ) → s ≡ 0 → member s i ≡ false
empty-n s i z = ap (λ (t : ℕ). member t i) z ∙ member-zero i

pub nonzero-i : (s i : ℕ) → member s i ≡ true → s ≢ 0
nonzero-i s i e z = clash (member s i) e (empty-n s i z)

pub some-i : (s i : ℕ) → member s i ≡ true → some s ≡ true
unfolding some
some-i s i e = not-i _ (ne_eqb s 0 (nonzero-i s i e))

pub some-e : (f : ℕ → Bool) (n : ℕ) → some (gather f n) ≡ true → (i : ℕ) × (i < n) × (f i ≡ true)
unfolding gather some
some-e f zero e = clash false e refl
some-e f (suc n) e = elim (which (f n)) [
  | inl p ↦ (n, le_refl (suc n), p)
  | inr p ↦ (let t = some-e f n (rw (p, zero-mul, zero-add) at e) in (t.0, omega arith, t.2))
]

pub some-member : (s : ℕ) → s < 2 ^ 64 → some s ≡ true → (i : ℕ) × (member s i ≡ true)
some-member s h e = let t = some-e (member s) 64 (ap some (gather-member 64 s h) ∙ e) in (t.0, t.2)

-- an empty set has no member
pub some-n : (f : ℕ → Bool) (n i : ℕ) → some (gather f n) ≡ false → i < n → f i ≡ false
some-n f n i e h = off (f i) (λ p. clash (some (gather f n)) (some-i (gather f n) i (gather-i f n i h p)) e)

-- a set that the code compares with 0
pub some-on : (s t : ℕ) → s ≡ t → s ≢ 0 → some t ≡ true
unfolding some
some-on s t p d = rw (← p) (ap not (ne_eqb s 0 d))

pub some-off : (s t : ℕ) → s ≡ t → s ≡ 0 → some t ≡ false
unfolding some
some-off s t p z = rw (← p) (ap not (eq-eqb s 0 z))
