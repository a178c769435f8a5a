-- The tests of soundness at the exits of their code.
-- Assumes nothing.
use mathlib.Core.Path.{◌≡◌, refl, sym, ap, ◌∙◌}
use mathlib.Core.Logic.{◌≢◌, inl, inr}
use mathlib.Core.Bool.{Bool, true, false, not, ◌&&◌, ◌||◌}
use Prim.Native.Nat.{ℕ, zero, suc, ◌-◌, ◌^◌, ◌≤◌, ◌<◌}
use native.Mathlib.Omega.{arith}
use borrow.Author.Tests.{le-leb, lt-leb}
use lib.Dec.{eqb, leb}
use lib.ListN.{get_or}
use lib.Bits.{bit_and}
use Rattle.bounded.specs.Bounded.{imp, all}
use Rattle.bounded.proofs.Bools.{◌&◌, off, and-no-l, and-no-r, clash, imp-e, imp-i, same_test, split?, and-true, and-go, and_assoc}
use Rattle.bounded.proofs.Tests.{all-i, all-e, all-n}
use Rattle.sets.specs.Sets.{member, kept, only, without, subset_of, disjoint_from, some}
use Rattle.sets.proofs.Gather.{gather-lt}
use Rattle.sets.proofs.Facts.{subset-e, without-e, without-i, some-i, some-member, subset-i, meet-i, both-e, some-on, some-off}
use Rattle.network.specs.declared.Network.{Network}
use Rattle.standing.specs.Standing.{free, returning}
use Rattle.standing.specs.Ways.{preceding, lost_in}
use Rattle.standing.specs.declared.Standing.{Standing}
use Rattle.standing.proofs.Facts.{is-e, preceding-e}
use Rattle.run.specs.declared.Run.{Run}
use Rattle.run.specs.State.{code, standing}
use Rattle.soundness.specs.Parts.{grounds_hold, change_holds, rest_holds, stands_soundly}
use Rattle.run.specs.Sound.{code_known, codes_known, way_known, zero_past, rest_zero, quiet, ways_before, lost_pending, sound}

-- known codes below n are enough where the rest is zero
known-all : (g : Network) (r : Run) → g.n ≤ 64 → rest_zero g r ≡ true → all (code_known r) g.n ≡ codes_known r
unfolding rest_zero zero_past codes_known code_known code
known-all g r small z =
    same_test (all (code_known r) g.n) (all (code_known r) 64)
    (λ e. all-i (code_known r) 64 (λ b h. elim (split? b g.n) [
      | inl l ↦ all-e (code_known r) g.n e b l
      | inr l ↦ le-leb (get_or r.code b 0) returning (omega (arith, is-e r.code free b (imp-e (leb g.n b) _ (all-e (zero_past g r) 64 z b h) (le-leb _ _ l))))
    ]))
    (λ e. all-i (code_known r) g.n (λ b h. all-e (code_known r) 64 e b (omega arith)))

-- a state is formed: the way, then the bytes past n, then the codes
module _ (g : Network) (r : Run) where
  pub way_unknown : g.a < r.way → false ≡ codes_known r && (way_known g r && rest_zero g r)
  unfolding way_known
  way_unknown h = sym (and-no-r (codes_known r) _ (and-no-l (way_known g r) _ (lt-leb r.way g.a h)))

  pub rest-used : rest_zero g r ≡ false → false ≡ codes_known r && (way_known g r && rest_zero g r)
  rest-used z = sym (and-no-r (codes_known r) _ (and-no-r (way_known g r) _ z))

  pub formed-by : g.n ≤ 64 → r.way ≤ g.a → rest_zero g r ≡ true → (y : Bool) → y ≡ all (code_known r) g.n → y ≡ codes_known r && (way_known g r && rest_zero g r)
  unfolding way_known
  formed-by small h z y ey =
      ey ∙ known-all g r small z ∙ sym (and-true (codes_known r)) ∙ ap (λ (t : Bool). codes_known r && t) (sym (le-leb r.way g.a h & z))

  -- the rule is what a state must be, and what is asked of how its bookings stand
  split : sound g r ≡ (codes_known r && (way_known g r && rest_zero g r)) && stands_soundly g (standing g r) r.way
  unfolding sound stands_soundly grounds_hold change_holds rest_holds
  split = simp and_assoc

  pub unformed : codes_known r && (way_known g r && rest_zero g r) ≡ false → false ≡ sound g r
  unformed e = sym (split ∙ and-no-l (codes_known r && (way_known g r && rest_zero g r)) _ e)

  pub formed-sound : codes_known r && (way_known g r && rest_zero g r) ≡ true → stands_soundly g (standing g r) r.way ≡ sound g r
  formed-sound e = and-go (codes_known r && (way_known g r && rest_zero g r)) _ e ∙ sym split

-- ---- a held booking outside the current way, or a returning one

imp-n : (x y : Bool) → imp x y ≡ false → (x ≡ true) × (y ≡ false)
imp-n true false e = (refl, refl)
imp-n true true e = cc
imp-n false y e = cc

without-lt : (a b : ℕ) → without a b < 2 ^ 64
unfolding without
without-lt a b = gather-lt (only a b) 64

-- a set that is no subset of another has a member outside it, and one that is has none
outside-n : (a b : ℕ) → subset_of a b ≡ true → some (without a b) ≡ false
outside-n a b e = off (some (without a b)) (λ s.
    let t = some-member (without a b) (without-lt a b) s in
    let w = without-e a b t.0 t.1 in
    clash (member b t.0) (subset-e a b t.0 e w.0 w.1) w.2)

outside-i : (a b : ℕ) → subset_of a b ≡ false → some (without a b) ≡ true
unfolding subset_of kept
outside-i a b e =
    let t = all-n (kept a b) 64 e in
    let f = imp-n (member a t.0) (member b t.0) t.2 in
    some-i (without a b) t.0 (without-i a b t.0 t.1 f.0 f.1)

not-imp : (b : Bool) → b ≡ imp (not b) false
not-imp true = refl
not-imp false = refl

module _ (s : Standing) (way : ℕ) where
  pub quiet_none : s.requested ≡ 0 → true ≡ quiet s way
  unfolding quiet some
  quiet_none z = sym (imp-i (some (without s.held way) || some s.returning) (not (some s.requested)) (λ e. ap not (some-off s.requested s.requested refl z)))

  -- where something is requested, nothing held is outside the way if what is held is a subset of it
  module _ (d : s.requested ≢ 0) where
    asked : some s.requested ≡ true
    asked = some-on s.requested s.requested refl d

    pub quiet-outside : subset_of s.held way ≡ false → false ≡ quiet s way
    unfolding quiet
    quiet-outside n = rw (outside-i s.held way n, asked)

    pub quiet-inside : subset_of s.held way ≡ true → eqb s.returning 0 ≡ quiet s way
    unfolding quiet some
    quiet-inside z = rw (outside-n s.held way z, asked) (not-imp (eqb s.returning 0))

-- ---- a lost booking in the current way

module _ (g : Network) (s : Standing) (way : ℕ) where
  -- with none, nothing precedes it
  none-based : g.n ≤ 64 → lost_in s way ≡ false → subset_of (preceding g (bit_and s.lost way)) s.held ≡ true
  unfolding lost_in
  none-based small l = subset-i (preceding g (bit_and s.lost way)) s.held (λ u h m.
      let p = preceding-e g (bit_and s.lost way) u m in
      let t = both-e s.lost way p.0 p.2 in
      clash (not (disjoint_from way s.lost)) (meet-i way s.lost p.0 (omega (arith, p.1)) t.1 t.0) l)

  pub pending-none : g.n ≤ 64 → lost_in s way ≡ false → true ≡ lost_pending g s way
  unfolding lost_pending
  pending-none small l = rw (none-based small l, l)

  module _ (l : lost_in s way ≡ true) where
    pub pending-silent : s.requested ≡ 0 → false ≡ lost_pending g s way
    unfolding lost_pending
    pending-silent z =
        let e : imp (lost_in s way) (some s.requested) ≡ false = rw (l, some-off s.requested s.requested refl z) in
        sym (and-no-r (subset_of (preceding g (bit_and s.lost way)) s.held) _ e)

    pub pending-based : s.requested ≢ 0 → (p : ℕ) → p ≡ preceding g (bit_and s.lost way) → (x : Bool) → x ≡ subset_of p s.held → x ≡ lost_pending g s way
    unfolding lost_pending
    pending-based d p ep x ex =
        rw (l, some-on s.requested s.requested refl d)
        (ex ∙ ap (λ (t : ℕ). subset_of t s.held) ep ∙ sym (and-true (subset_of (preceding g (bit_and s.lost way)) s.held)))

-- ---- the ways before the current one

pub way-before : (g : Network) (w : ℕ) → w ≢ 0 → w - 1 ≡ ways_before g w
unfolding ways_before
way-before g zero d = absurd (d refl)
way-before g (suc k) d = omega arith

pub before-few : (g : Network) (w e : ℕ) → g.a ≤ 16 → w ≤ 16 → e ≡ ways_before g w → e ≤ 16
unfolding ways_before
before-few g zero e ha hw p = omega arith
before-few g (suc k) e ha hw p = omega arith
