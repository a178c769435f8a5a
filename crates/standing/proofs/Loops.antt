-- The loops over a standing: what precedes a set, and the first live way.
-- Assumes nothing.
use mathlib.Core.Path.{◌≡◌, ◌∙◌}
use mathlib.Core.Logic.{◌≢◌, ◌⊎◌, inl, inr}
use mathlib.Core.Bool.{true, false}
use mathlib.Core.List.{List}
use Prim.Native.Nat.{ℕ, suc, ◌+◌, ◌^◌, ◌≤◌, ◌<◌}
use native.Mathlib.Nat.{le_refl}
use native.Mathlib.Omega.{arith}
use native.Mathlib.Numerals.{add-one}
use borrow.Author.Tests.{lt-ltb, le-ltb}
use lib.Bits.{bit_and, bit_or}
use lib.ListN.{length, take, get_or}
use Rattle.std.specs.List.{HoldsAt, AllWithin}
use Rattle.std.proofs.Common.{length-take}
use Rattle.std.proofs.lemmas.List.{get_or-take}
use Rattle.bounded.specs.Bounded.{first}
use Rattle.bounded.proofs.Bools.{clash, same_test}
use Rattle.bounded.proofs.Loops.{SoFar, first-at, first-over}
use Rattle.sets.specs.Sets.{member, all_below, but_lowest}
use Rattle.sets.proofs.Members.{member-zero}
use Rattle.sets.proofs.Facts.{either-e, either_l, either_r, empty-n}
use Rattle.sets.proofs.Gather.{gather-is}
use Rattle.sets.proofs.Whole.{cut_at, cut-e}
use Rattle.sets.proofs.Walk.{lowest-in, but-lowest-fits, but-lowest-e, but-lowest-i}
use Rattle.network.specs.Network.{way_of, before, pre}
use Rattle.network.specs.declared.Network.{Network}
use Rattle.standing.specs.Ways.{precedes_some, preceding, live, live_at, first_live}
use Rattle.standing.specs.declared.Standing.{Standing}
use Rattle.standing.proofs.Facts.{precedes-i, precedes-e}

-- ---- what precedes a set

-- a walk over t that has rest left; r has what p lists for each of the others
pub record Joined (p : List ℕ) (t r rest : ℕ) : Type 0 where
  pub fits : rest < 2 ^ 64
  pub part : (v : ℕ) → member rest v ≡ true → member t v ≡ true
  pub from : (b : ℕ) → member r b ≡ true → (v : ℕ) × (member t v ≡ true) × (member (get_or p v 0) b ≡ true)
  pub into : (b v : ℕ) → member t v ≡ true → member (get_or p v 0) b ≡ true → (member r b ≡ true) ⊎ (member rest v ≡ true)

module _ (p : List ℕ) (t : ℕ) where
  pub join-none : t < 2 ^ 64 → Joined p t 0 t
  join-none h = record { fits = h; part = λ v e. e; from = λ b e. clash (member 0 b) e (member-zero b); into = λ b v m q. inr m }

  pub join-on : (r s m s' : ℕ) → m ≡ first (member s) 64 → s' ≡ but_lowest s → s ≢ 0 → Joined p t r s → Joined p t (bit_or r (get_or p m 0)) s'
  join-on r s m s' em es d j = rw es (record {
    fits = but-lowest-fits s;
    part = λ v e. j.part v (but-lowest-e s v e);
    from = λ b e. elim (either-e r (get_or p m 0) b e) [
      | inl q ↦ j.from b q
      | inr q ↦ (m, rw em (j.part (first (member s) 64) (lowest-in s j.fits d)), q)
    ];
    into = λ b v e q. elim (j.into b v e q) [
      | inl o ↦ inl (either_l r (get_or p m 0) b o)
      | inr o ↦ elim (but-lowest-i s v j.fits o) [
        | inl z ↦ inl (either_r r (get_or p m 0) b (rw (em, ← z) q))
        | inr z ↦ inr z
      ]
    ];
  })

-- b is what `all_below` gave
pub join-all : (g : Network) (s b r rest : ℕ) → b ≡ all_below g.n → r < 2 ^ 64 → rest ≡ 0 → Joined g.before (bit_and s b) r rest → r ≡ preceding g s
unfolding preceding pre before
join-all g s b r rest eb l z j =
    gather-is (precedes_some g s) 64 r l (λ i k. same_test (member r i) (precedes_some g s i)
    (λ e. let f = j.from i e in let t = cut-e s b g.n eb f.0 f.1 in precedes-i g s i f.0 t.0 t.1 f.2)
    (λ e. let f = precedes-e g s i e in elim (j.into i f.0 (cut_at s b g.n eb f.0 f.1 ∙ f.2) f.3) [
      | inl o ↦ o
      | inr o ↦ clash (member rest f.0) o (empty-n rest f.0 z)
    ]))

-- ---- the first live way, by what `position` over the ways gives

module _ (g : Network) (s : Standing) (long : g.a ≤ length g.way) where
  ways : List ℕ
  ways = take g.a g.way

  there : (k : ℕ) → k < g.a → get_or ways k 0 ≡ way_of g (suc k)
  unfolding ways way_of
  there k h = get_or-take g.a g.way k 0 h

  dead : (n : ℕ) → n ≤ g.a → AllWithin (λ x. live g s x ≡ false) ways 0 n → SoFar (live_at g s) n
  unfolding live_at
  dead n h w k l = rw (there k (omega arith)) at (w k 0 (omega arith) l)

  all-ways : length ways ≡ g.a
  unfolding ways
  all-ways = omega (arith, length-take g.a g.way)

  pub live-found : (k : ℕ) → (k < length (take g.a g.way)) × HoldsAt (λ x. live g s x ≡ true) (take g.a g.way) k × AllWithin (λ x. live g s x ≡ false) (take g.a g.way) 0 k
      → k + 1 ≡ first_live g s
  unfolding first_live live_at ways
  live-found k w =
      let h : k < g.a = omega (arith, all-ways, w.0) in
      let e : live g s (way_of g (suc k)) ≡ true = rw (there k h) at (w.1 0) in
      rw (← first-at (live_at g s) g.a k (dead k (omega arith) w.2) h e, lt-ltb k g.a h) (add-one k)

  pub live-none : AllWithin (λ x. live g s x ≡ false) (take g.a g.way) 0 (length (take g.a g.way)) → 0 ≡ first_live g s
  unfolding first_live ways
  live-none w = rw (← first-over (live_at g s) g.a g.a (dead g.a (le_refl g.a) (rw all-ways at w)) (le_refl g.a), le-ltb g.a g.a (le_refl g.a))
