-- A valid plan has what the work on it asks for, and its network has the right shape.
-- Assumes nothing.
use mathlib.Core.Path.{◌≡◌, refl, sym, ap, ◌∙◌}
use mathlib.Core.Logic.{inl, inr}
use mathlib.Core.Bool.{true}
use mathlib.Core.List.{List}
use Prim.Native.Nat.{ℕ, zero, suc, ◌≤◌, ◌<◌}
use native.Mathlib.Omega.{arith}
use lib.Dec.{eqb}
use lib.ListN.{get_or}
use borrow.Author.Tests.{eqb-true}
use Rattle.bounded.proofs.Bools.{clash, split?, and_l, and_r}
use Rattle.bounded.proofs.Tests.{any-e}
use Rattle.bounded.proofs.Lists.{table_at}
use Rattle.sets.specs.Sets.{member}
use Rattle.sets.proofs.Members.{member-past}
use Rattle.sets.proofs.Facts.{gather-e}
use Rattle.precedence.specs.Precedence as Chains
use Rattle.precedence.proofs.Chains.{precedes-trans, closure-chain, chain-closure, precedes-below}
use Rattle.plan.specs.declared.Plan.{Plan}
use Rattle.plan.proofs.Valid.{Valid}
use Rattle.network.specs.FromPlan.{joins, linked, direct_at, direct_of, network_of, Ends, Seated}
use Rattle.network.specs.Network.{way_of, in_way, before, pre}
use Rattle.network.proofs.Facts.{Shape, some_way}

pub valid-fits : (p : Plan) → Valid p → (p.n ≤ 64) × Ends p.n p.from p.to p.m × Seated p.n p.desk
valid-fits p v =
    let h = v.counts.bookings in (
      h,
      record { few = v.counts.links; from = v.starts; to = v.ends },
      record { desk = v.desks },
    )

module _ (p : Plan) (v : Valid p) where
  direct : List ℕ
  direct = direct_of p.from p.to p.m

  -- a link joins two bookings of the plan
  low : (u w : ℕ) → w < 64 → Chains.in_set direct u w ≡ true → (u < p.n) × (w < p.n)
  unfolding direct direct_of direct_at linked joins Chains.in_set
  low u w h e =
      let l = (gather-e (linked p.from p.to p.m w) 64 u (ap (λ (s : ℕ). member s u) (sym (table_at (direct_at p.from p.to p.m) 64 w h)) ∙ e)).1 in
      let t = any-e (joins p.from p.to w u) p.m l in
      let i = t.0 in
      let f : get_or p.from i 0 ≡ suc u = eqb-true _ _ (and_l (eqb (get_or p.from i 0) (suc u)) _ t.2) in
      let k : get_or p.to i 0 ≡ suc w = eqb-true _ _ (and_r (eqb (get_or p.from i 0) (suc u)) _ t.2) in
      (omega (arith, v.starts i t.1), omega (arith, v.ends i t.1))

  way-low : (w b : ℕ) → w ≤ p.a → in_way (network_of p) w b ≡ true → b < p.n
  unfolding network_of in_way way_of
  way-low zero b h e = absurd (some_way (network_of p) 0 b e refl)
  way-low (suc k) b h e = elim (split? b p.n) [
    | inl l ↦ l
    | inr l ↦ clash (member (get_or p.way k 0) b) e (member-past (get_or p.way k 0) p.n b (v.sets k h) l)
  ]

  pub shape : Shape (network_of p)
  unfolding network_of pre before Chains.in_set direct
  shape =
      record {
        bookings = v.counts.bookings;
        ways = v.counts.some_way;
        few = v.counts.ways;
        some-matter = v.counts.some-matter;
        pre-n = λ u w e. precedes-below direct p.n low (closure-chain direct u w e);
        way-n = way-low;
        transitive = λ u w x e f. chain-closure direct u x (precedes-trans (closure-chain direct u w e) (closure-chain direct w x f));
      }
