-- A network of the right shape that the check passes has what the campaign needs.
-- Assumes nothing.
use mathlib.Core.Path.{◌≡◌, refl}
use mathlib.Core.Logic.{◌⊎◌, inl, inr}
use mathlib.Core.Bool.{Bool, true, false, ◌&&◌, cond}
use Prim.Native.Nat.{ℕ, zero, suc, ◌≤◌, ◌<◌}
use native.Mathlib.Omega.{arith}
use lib.Dec.{eqb, ltb}
use borrow.Author.Tests.{ltb-true, eqb-true, ne_eqb}
use Rattle.bounded.specs.Bounded.{any, all, first}
use Rattle.bounded.proofs.Bools.{which, clash, off, split?, and_l, and_r, ◌&◌, or_cases, not-i, imp-e, by_cond}
use Rattle.bounded.proofs.Tests.{any-e, any-n, any-o, all-e}
use Rattle.bounded.proofs.First.{first-none, none_found}
use Rattle.sets.specs.Sets.{member, subset_of}
use Rattle.sets.proofs.Facts.{gather-i, subset-e, some-i}
use Rattle.network.specs.Network.{way_of, in_way, before, pre, exposed}
use Rattle.verdict.specs.Check.{Verdict, circular, gap, unclosed, unused, repeated, stays, staying, leads_to, settled_by, safe, refuge, later_refuge, stranding, strands, check, verdict_number}
use Rattle.network.specs.declared.Network.{Network}
use Rattle.std.specs.Prelude.{Ok, Err}
use Rattle.verdict.specs.declared.Fault.TheVariants.{Circular, Unclosed, Unused, Repeated, Stranding}
use Rattle.verdict.proofs.Facts.{Stays, Refuge, Passes}
use Rattle.network.proofs.Facts.{Shape, some_way}

-- those of refusals 4 to 8 that are at most t are absent
pub record Clean-to (t : ℕ) (g : Network) : Type 0 where
  pub four : 4 ≤ t → (b : ℕ) → b < g.n → circular g b ≡ false
  pub five : 5 ≤ t → (k : ℕ) → k < g.a → unclosed g k ≡ false
  pub six : 6 ≤ t → (b : ℕ) → b < g.n → unused g b ≡ false
  pub seven : 7 ≤ t → (k : ℕ) → k < g.a → repeated g k ≡ false
  pub eight : 8 ≤ t → (k x : ℕ) → k < g.a → x < g.n → stranding g (suc k) x ≡ false

-- x is none of 1 to t
abbrev pub Past : ℕ → ℕ → Type 0
Past t x = (x ≡ 0) ⊎ (t < x)

-- ---- the first fault's number is past t exactly where there is none up to t

-- a test, and the fault with number n that it finds
module _ (t n : ℕ) (c : Bool) (a b : Verdict) (number : verdict_number a ≡ n) (real : 1 ≤ n) where
  beyond : n ≤ t → Past t (verdict_number (cond c a b)) → (c ≡ false) × Past t (verdict_number b)
  beyond h =
      by_cond (λ (v : Verdict). Past t (verdict_number v) → (c ≡ false) × Past t (verdict_number b)) {t = c} {a = a} {b = b}
      (λ e z. elim z [ inl y ↦ absurd (omega arith) | inr y ↦ absurd (omega arith) ]) (λ e z. (e, z))

  onward : (n ≤ t → c ≡ false) → Past t (verdict_number b) → Past t (verdict_number (cond c a b))
  onward f z =
      by_cond (λ (v : Verdict). Past t (verdict_number v)) {t = c} {a = a} {b = b}
      (λ e. elim (split? t n) [ inl l ↦ inr (omega arith) | inr l ↦ clash c e (f l) ]) (λ e. z)

module _ (t : ℕ) (g : Network) where
  b4 : ℕ
  b4 = first (circular g) g.n

  k5 : ℕ
  k5 = first (unclosed g) g.a

  b6 : ℕ
  b6 = first (unused g) g.n

  k7 : ℕ
  k7 = first (repeated g) g.a

  k8 : ℕ
  k8 = first (strands g) g.a

  -- the check from each of its tests on
  at_8 : Verdict
  at_8 = cond (ltb k8 g.a) (Err (Stranding (suc k8) (first (stranding g (suc k8)) g.n))) (Ok tt)

  at_7 : Verdict
  at_7 = cond (ltb k7 g.a) (Err (Repeated (suc k7))) at_8

  at-6 : Verdict
  at-6 = cond (ltb b6 g.n) (Err (Unused b6)) at_7

  at_5 : Verdict
  at_5 = cond (ltb k5 g.a) (Err (Unclosed (suc k5))) at-6

  module _ (z : Past t (verdict_number (check g))) where
    past-4 : 4 ≤ t → (ltb b4 g.n ≡ false) × Past t (verdict_number at_5)
    unfolding check verdict_number b4 k5 b6 k7 k8 at_5 at-6 at_7 at_8
    past-4 o = beyond t 4 (ltb b4 g.n) (Err (Circular b4)) at_5 refl (omega arith) o z

    past-5 : 5 ≤ t → (ltb k5 g.a ≡ false) × Past t (verdict_number at-6)
    unfolding verdict_number at_5
    past-5 o = beyond t 5 (ltb k5 g.a) (Err (Unclosed (suc k5))) at-6 refl (omega arith) o (past-4 (omega arith)).1

    past-6 : 6 ≤ t → (ltb b6 g.n ≡ false) × Past t (verdict_number at_7)
    unfolding verdict_number at-6
    past-6 o = beyond t 6 (ltb b6 g.n) (Err (Unused b6)) at_7 refl (omega arith) o (past-5 (omega arith)).1

    past-7 : 7 ≤ t → (ltb k7 g.a ≡ false) × Past t (verdict_number at_8)
    unfolding verdict_number at_7
    past-7 o = beyond t 7 (ltb k7 g.a) (Err (Repeated (suc k7))) at_8 refl (omega arith) o (past-6 (omega arith)).1

    past-8 : 8 ≤ t → (ltb k8 g.a ≡ false) × Past t (verdict_number (Ok tt))
    unfolding verdict_number at_8
    past-8 o = beyond t 8 (ltb k8 g.a) (Err (Stranding (suc k8) (first (stranding g (suc k8)) g.n))) (Ok tt) refl (omega arith) o (past-7 (omega arith)).1

    pub clean-to : Clean-to t g
    unfolding strands b4 k5 b6 k7 k8
    clean-to = record {
      four = λ o. first-none (circular g) g.n (past-4 o).0;
      five = λ o. first-none (unclosed g) g.a (past-5 o).0;
      six = λ o. first-none (unused g) g.n (past-6 o).0;
      seven = λ o. first-none (repeated g) g.a (past-7 o).0;
      eight = λ o k x h l. any-n (stranding g (suc k)) g.n (first-none (strands g) g.a (past-8 o).0 k h) x l;
    }

  pub clean-past : Clean-to t g → Past t (verdict_number (check g))
  unfolding check verdict_number strands b4 k5 b6 k7 k8 at_5 at-6 at_7 at_8
  clean-past c =
      onward t 4 (ltb b4 g.n) (Err (Circular b4)) at_5 refl (omega arith) (λ o. none_found (circular g) g.n (c.four o))
      (onward t 5 (ltb k5 g.a) (Err (Unclosed (suc k5))) at-6 refl (omega arith) (λ o. none_found (unclosed g) g.a (c.five o))
      (onward t 6 (ltb b6 g.n) (Err (Unused b6)) at_7 refl (omega arith) (λ o. none_found (unused g) g.n (c.six o))
      (onward t 7 (ltb k7 g.a) (Err (Repeated (suc k7))) at_8 refl (omega arith) (λ o. none_found (repeated g) g.a (c.seven o))
      (onward t 8 (ltb k8 g.a) (Err (Stranding (suc k8) (first (stranding g (suc k8)) g.n))) (Ok tt) refl (omega arith)
      (λ o. none_found (strands g) g.a (λ k h. any-o (stranding g (suc k)) g.n (λ x l e. clash (stranding g (suc k) x) e (c.eight o k x h l)))) (inl refl)))))

-- ---- what the faults that are absent leave

-- without 5 a way has all that precede its bookings
pub closed-way : (g : Network) → Shape g → ((k : ℕ) → k < g.a → unclosed g k ≡ false)
    → (w u v : ℕ) → w ≤ g.a → in_way g w v ≡ true → pre g u v ≡ true → in_way g w u ≡ true
unfolding unclosed gap in_way pre
closed-way g sh five zero u v h i e = absurd (some_way g 0 v i refl)
closed-way g sh five (suc k) u v h i e =
    let b = sh.pre-n u v e in
    subset-e (before g v) (way_of g (suc k)) u (elim (which (subset_of (before g v) (way_of g (suc k)))) [
      | inl z ↦ z
      | inr z ↦ clash (gap g (suc k) v) (i & not-i _ z) (any-n (gap g (suc k)) g.n (five k h) v b.1)
    ]) (omega (arith, b.0, sh.bookings)) e

-- refusals 4 to 8 are absent
pub record Clean (g : Network) : Type 0 where
  pub four : (b : ℕ) → b < g.n → circular g b ≡ false
  pub five : (k : ℕ) → k < g.a → unclosed g k ≡ false
  pub six : (b : ℕ) → b < g.n → unused g b ≡ false
  pub seven : (k : ℕ) → k < g.a → repeated g k ≡ false
  pub eight : (k x : ℕ) → k < g.a → x < g.n → stranding g (suc k) x ≡ false

pub clean : (g : Network) → verdict_number (check g) ≡ 0 → Clean g
clean g e =
    let c = clean-to 8 g (inl e) in
    record { four = c.four (omega arith); five = c.five (omega arith); six = c.six (omega arith); seven = c.seven (omega arith); eight = c.eight (omega arith) }

stays-i : (g : Network) (w x s : ℕ) → Stays g w x s → stays g w x s ≡ true
unfolding stays
stays-i g w x s t = (t.is-firm & t.inside) & (not-i _ (ne_eqb _ _ t.other) & not-i _ t.apart)

closed : (g : Network) → Shape g → Clean g → (w u v : ℕ) → w ≤ g.a → in_way g w v ≡ true → pre g u v ≡ true → in_way g w u ≡ true
closed g sh cl = closed-way g sh cl.five

module _ (g : Network) (sh : Shape g) (cl : Clean-to 8 g) where
  staying-i : (w x s : ℕ) → w ≤ g.a → Stays g w x s → member (staying g w x) s ≡ true
  unfolding staying
  staying-i w x s h t = gather-i (stays g w x) g.n s (sh.way-n w s h t.inside) (stays-i g w x s t)

  refuge-e : (w x j : ℕ) → w < j → j ≤ g.a → refuge g w x j ≡ true → Refuge g w x j
  unfolding refuge safe settled_by leads_to in_way
  refuge-e w x j h l e =
      let low : (s : ℕ) → Stays g w x s → s < g.n = λ s t. sh.way-n w s (omega arith) t.inside in
      record {
        later = h;
        listed = l;
        has = λ s t. subset-e (staying g w x) (way_of g j) s (and_l (subset_of (staying g w x) (way_of g j)) _ e) (omega (arith, low s t, sh.bookings)) (staying-i w x s (omega arith) t);
        safe = λ y p i.
            let c = imp-e (exposed g y && in_way g j y) _ (all-e (safe g w x j) 64 (and_r (subset_of (staying g w x) (way_of g j)) _ e) y (omega (arith, sh.way-n j y l i, sh.bookings))) (p & i) in
            elim (or_cases (pre g y x) (all (leads_to g w x y) g.n) c) [
              | inl q ↦ inl q
              | inr q ↦ inr (λ s t. elim (or_cases (eqb y s) (pre g y s) (imp-e (stays g w x s) _ (all-e (leads_to g w x y) g.n q s (low s t)) (stays-i g w x s t))) [
                | inl z ↦ inl (eqb-true _ _ z)
                | inr z ↦ inr z
              ])
            ];
      }

  found : (w x s : ℕ) → w ≤ g.a → exposed g x ≡ true → in_way g w x ≡ true → Stays g w x s → (j : ℕ) × Refuge g w x j
  unfolding stranding later_refuge
  found zero x s h e i t = absurd (some_way g 0 x i refl)
  found (suc k) x s h e i t = elim (which (any (later_refuge g (suc k) x) g.a)) [
    | inl z ↦ (let q = any-e (later_refuge g (suc k) x) g.a z in
        let j = q.0 in
        (suc j, refuge-e (suc k) x (suc j) (ltb-true _ _ (and_l (ltb (suc k) (suc j)) _ q.2)) q.1 (and_r (ltb (suc k) (suc j)) _ q.2)))
    | inr z ↦ clash (stranding g (suc k) x)
        ((e & i) & (some-i (staying g (suc k) x) s (staying-i (suc k) x s h t) & not-i _ z))
        (cl.eight (omega arith) k x h (sh.way-n (suc k) x h i))
  ]

  clean-passes : Passes g
  unfolding circular
  clean-passes =
      record {
        shape = sh;
        irreflexive = λ b. off (pre g b b) (λ e. clash (pre g b b) e (cl.four (omega arith) b (sh.pre-n b b e).0));
        closed = closed-way g sh (cl.five (omega arith));
        refuge = found;
      }

-- the check passes where its number is 0
pub passes : (g : Network) → Shape g → verdict_number (check g) ≡ 0 → Passes g
passes g sh e = clean-passes g sh (clean-to 8 g (inl e))
