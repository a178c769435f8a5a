-- Where every exposed booking that leaves something firm behind has a refuge, nothing strands: from the facts back to the test.
-- Assumes nothing.
use mathlib.Core.Path.{◌≡◌}
use mathlib.Core.Logic.{inl, inr}
use mathlib.Core.Bool.{true, false, not, ◌&&◌}
use Prim.Native.Nat.{ℕ, zero, suc}
use native.Mathlib.Omega.{arith}
use lib.Dec.{eqb}
use borrow.Author.Tests.{eq-eqb, lt-ltb, not-true}
use Rattle.bounded.specs.Bounded.{any}
use Rattle.bounded.proofs.Bools.{clash, off, and_l, and_r, ◌&◌, or_l, or_r, imp-i}
use Rattle.bounded.proofs.Tests.{any-i, all-i}
use Rattle.sets.specs.Sets.{some}
use Rattle.sets.proofs.Facts.{gather-e, subset-i, some-e}
use Rattle.network.specs.Network.{way_of, in_way, pre, firm, exposed}
use Rattle.network.specs.declared.Network.{Network}
use Rattle.verdict.specs.Check.{stays, staying, leads_to, settled_by, safe, refuge, later_refuge, stranding}
use Rattle.verdict.proofs.Facts.{Stays, Refuge}

module _ (g : Network) where
  stays-e : (w x s : ℕ) → stays g w x s ≡ true → Stays g w x s
  unfolding stays
  stays-e w x s e =
      let a = and_l (firm g s && in_way g w s) _ e in
      let b = and_r (firm g s && in_way g w s) _ e in
      record {
        is-firm = and_l (firm g s) _ a;
        inside = and_r (firm g s) _ a;
        other = λ z. clash (eqb s x) (eq-eqb _ _ z) (not-true _ (and_l (not (eqb s x)) _ b));
        apart = not-true _ (and_r (not (eqb s x)) _ b);
      }

  refuge-i : (w x j : ℕ) → Refuge g w x j → refuge g w x j ≡ true
  unfolding refuge safe settled_by leads_to staying in_way
  refuge-i w x j r =
      subset-i (staying g w x) (way_of g j) (λ s h m. r.has s (stays-e w x s (gather-e (stays g w x) g.n s m).1))
      & all-i (safe g w x j) 64 (λ y h. imp-i (exposed g y && in_way g j y) _ (λ e. elim (r.safe y (and_l (exposed g y) _ e) (and_r (exposed g y) _ e)) [
        | inl q ↦ or_l (pre g y x) _ q
        | inr q ↦ or_r (pre g y x) _ (all-i (leads_to g w x y) g.n (λ s l. imp-i (stays g w x s) _ (λ z. elim (q s (stays-e w x s z)) [
          | inl p ↦ or_l (eqb y s) _ (eq-eqb _ _ p)
          | inr p ↦ or_r (eqb y s) _ p
        ])))
      ]))

  later-i : (w x j : ℕ) → Refuge g w x j → any (later_refuge g w x) g.a ≡ true
  unfolding later_refuge
  later-i w x zero r = absurd (omega (arith, r.later))
  later-i w x (suc k) r = any-i (later_refuge g w x) g.a k r.listed (lt-ltb _ _ r.later & refuge-i w x (suc k) r)

  pub none-strands : (w x : ℕ) → ((s : ℕ) → exposed g x ≡ true → in_way g w x ≡ true → Stays g w x s → (j : ℕ) × Refuge g w x j) → stranding g w x ≡ false
  unfolding stranding staying
  none-strands w x f = off (stranding g w x) (λ e.
      let a = and_l (exposed g x && in_way g w x) _ e in
      let b = and_r (exposed g x && in_way g w x) _ e in
      let t = some-e (stays g w x) g.n (and_l (some (staying g w x)) _ b) in
      let r = f t.0 (and_l (exposed g x) _ a) (and_r (exposed g x) _ a) (stays-e w x t.0 t.2) in
      clash (any (later_refuge g w x) g.a) (later-i w x r.0 r.1) (not-true _ (and_r (some (staying g w x)) _ b)))
