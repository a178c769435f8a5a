-- The loop over the links: each turn puts one link's first booking among the direct predecessors of its second.
-- Assumes nothing.
use mathlib.Core.Path.{◌≡◌, sym, ap, ap₂, ◌∙◌}
use mathlib.Core.Logic.{◌≢◌, inl, inr}
use mathlib.Core.Bool.{Bool, false, ◌&&◌, ◌||◌}
use mathlib.Core.List.{List}
use Prim.Native.Nat.{ℕ, suc, ◌+◌, ◌-◌, ◌^◌, ◌≤◌, ◌<◌}
use native.Mathlib.Omega.{arith}
use borrow.Author.Tests.{eqb-true, eq-eqb, ne_eqb}
use lib.Dec.{eqb}
use lib.ListN.{length, get_or, set, replicate, get_or-replicate}
use lib.Seq.{get_or-set_same, get_or-set_other}
use Rattle.bounded.specs.Bounded.{any}
use Rattle.bounded.proofs.Bools.{same?, clash, same_test, and_l, and-no-r, or-false, ◌&◌}
use Rattle.bounded.proofs.Tests.{any-o, any-suc}
use Rattle.sets.specs.Sets.{gather, inserted, insert}
use Rattle.sets.proofs.Gather.{gather-lt, gather-is, member-gather}
use Rattle.sets.proofs.Members.{member-zero}
use Rattle.sets.proofs.Whole.{gather_ext}
use Rattle.precedence.specs.Precedence.{closure_of, EmptyFrom}
use Rattle.precedence.proofs.Four.{empty-table}
use Rattle.plan.specs.declared.Plan.{Plan}
use Rattle.network.specs.declared.Network.{Network}
use Rattle.network.specs.FromPlan.{joins, linked, direct_at, direct_of, is_firm, is_exposed, of_kind, desks_of, network_of, Ends}

module _ (us vs : List ℕ) where
  pub direct-none : (v : ℕ) → v < 64 → get_or (replicate 64 0) v 0 ≡ direct_at us vs 0 v
  unfolding direct_at linked any gather
  direct-none v h = get_or-replicate 64 v 0 0 h

  pub direct-fits : (i v : ℕ) → direct_at us vs i v < 2 ^ 64
  unfolding direct_at
  direct-fits i v = gather-lt (linked us vs i v) 64

  more : (i v u : ℕ) → linked us vs (i + 1) v u ≡ linked us vs i v u || joins us vs v u i
  unfolding linked
  more i v u = any-suc (joins us vs v u) i

  -- what link i adds: its own two bookings, and nothing else
  adds : (i u : ℕ) → 1 ≤ get_or us i 0 → 1 ≤ get_or vs i 0 → joins us vs (get_or vs i 0 - 1) u i ≡ eqb u (get_or us i 0 - 1)
  unfolding joins
  adds i u hu hv =
      same_test (eqb (get_or us i 0) (suc u) && eqb (get_or vs i 0) (suc (get_or vs i 0 - 1))) (eqb u (get_or us i 0 - 1))
      (λ e. let p : get_or us i 0 ≡ suc u = eqb-true (get_or us i 0) (suc u) (and_l (eqb (get_or us i 0) (suc u)) _ e) in eq-eqb u (get_or us i 0 - 1) (omega arith))
      (λ e. let p : u ≡ get_or us i 0 - 1 = eqb-true u (get_or us i 0 - 1) e in
      eq-eqb (get_or us i 0) (suc u) (omega arith) & (eq-eqb (get_or vs i 0) (suc (get_or vs i 0 - 1)) (omega arith)))

  elsewhere : (i v u : ℕ) → v ≢ get_or vs i 0 - 1 → joins us vs v u i ≡ false
  unfolding joins
  elsewhere i v u d = and-no-r (eqb (get_or us i 0) (suc u)) _ (ne_eqb (get_or vs i 0) (suc v) (λ e. d (omega arith)))

  pub direct-turn : (d : List ℕ) (i x : ℕ) → length d ≡ 64 → 1 ≤ get_or us i 0 → (1 ≤ get_or vs i 0) × (get_or vs i 0 ≤ 64)
      → ((v : ℕ) → v < 64 → get_or d v 0 ≡ direct_at us vs i v) → x ≡ insert (get_or d (get_or vs i 0 - 1) 0) (get_or us i 0 - 1)
      → (v : ℕ) → v < 64 → get_or (set d (get_or vs i 0 - 1) x) v 0 ≡ direct_at us vs (i + 1) v
  unfolding direct_at insert inserted
  direct-turn d i x l hu hv inv e v h = elim (same? v (get_or vs i 0 - 1)) [
    | inl p ↦ rw p (get_or-set_same d (get_or vs i 0 - 1) x 0 (omega arith) ∙ e ∙ ap (λ (s : ℕ). gather (inserted s (get_or us i 0 - 1)) 64) (inv (get_or vs i 0 - 1) (omega arith))
        ∙ gather_ext _ (linked us vs (i + 1) (get_or vs i 0 - 1)) 64 (λ u k.
        ap₂ (λ (a b : Bool). a || b) (member-gather (linked us vs i (get_or vs i 0 - 1)) 64 u k) (sym (adds i u hu hv.0))
        ∙ sym (more i (get_or vs i 0 - 1) u)))
    | inr n ↦ get_or-set_other d (get_or vs i 0 - 1) v x 0 n ∙ inv v h
        ∙ gather_ext (linked us vs i v) (linked us vs (i + 1) v) 64 (λ u k.
        sym (more i v u ∙ ap (λ (b : Bool). linked us vs i v u || b) (elsewhere i v u n) ∙ or-false (linked us vs i v u)))
  ]

  -- nothing comes before a booking past n
  pub direct-empty : (n m : ℕ) → Ends n us vs m → EmptyFrom n (direct_of us vs m)
  unfolding direct_of direct_at linked
  direct-empty n m e =
      empty-table (direct_at us vs m) n (λ v h l.
      sym (gather-is (linked us vs m v) 64 0 (omega arith) (λ u k. member-zero u ∙ sym (any-o (joins us vs v u) m (λ i j p. clash (joins us vs v u i) p (elsewhere i v u (λ q. omega (arith, e.to i j))))))))

pub network-is : (p : Plan) (d b t : List ℕ) (f e : ℕ) → d ≡ direct_of p.from p.to p.m → b ≡ closure_of d
    → f ≡ gather (of_kind is_firm p.kind) p.n → e ≡ gather (of_kind is_exposed p.kind) p.n → t ≡ desks_of p.desk p.n
    → ◌≡◌ {A = Network} (record { n = p.n; a = p.a; way = p.way; before = b; firm = f; exposed = e; desk = t; limit = p.limit }) (network_of p)
unfolding network_of
network-is p d b t f e hd hb hf he ht = rw (hf, he, hb, hd, ht)
