-- The loop over the bookings that puts each into the set of its desk, and what the sets are.
-- Assumes nothing.
use mathlib.Core.Path.{◌≡◌, ap, ◌∙◌}
use mathlib.Core.Logic.{inl, inr}
use mathlib.Core.List.{List}
use Prim.Native.Nat.{ℕ, suc, ◌+◌, ◌-◌, ◌≤◌, ◌<◌}
use native.Mathlib.Omega.{arith}
use borrow.Author.Tests.{eq-eqb, ne_eqb}
use lib.Dec.{eqb}
use lib.Bits.{bit_or}
use lib.ListN.{length, get_or, set, replicate, get_or-replicate}
use lib.Seq.{get_or-set_same, get_or-set_other}
use Rattle.bounded.proofs.Bools.{same?}
use Rattle.bounded.proofs.Lists.{table_at}
use Rattle.sets.specs.Sets.{member, alone, gather}
use Rattle.sets.proofs.Gather.{gather-skip, member-gather}
use Rattle.sets.proofs.Operations.{gather-alone}
use Rattle.plan.specs.Limits.{most_desks}
use Rattle.plan.specs.declared.Plan.{Plan}
use Rattle.network.specs.FromPlan.{at_desk, desk_at, desks_of, network_of}
use Rattle.network.specs.Network.{desk_of}

module _ (ds : List ℕ) where
  pub desk-none : (d : ℕ) → d < most_desks → get_or (replicate most_desks 0) d 0 ≡ desk_at ds 0 d
  unfolding desk_at gather
  desk-none d h = get_or-replicate most_desks d 0 0 h

  -- booking b goes into the set of its desk, and into no other
  pub desk-turn : (at : List ℕ) (b x : ℕ) → length at ≡ most_desks → (1 ≤ get_or ds b 0) × (get_or ds b 0 ≤ most_desks) → x ≡ alone b
      → ((d : ℕ) → d < most_desks → get_or at d 0 ≡ desk_at ds b d)
      → (d : ℕ) → d < most_desks → get_or (set at (get_or ds b 0 - 1) (bit_or (get_or at (get_or ds b 0 - 1) 0) x)) d 0 ≡ desk_at ds (b + 1) d
  unfolding desk_at at_desk
  desk-turn at b x l h e inv d k = elim (same? d (get_or ds b 0 - 1)) [
    | inl p ↦ rw p (get_or-set_same at (get_or ds b 0 - 1) _ 0 (omega arith)
        ∙ ap (λ (s : ℕ). bit_or s x) (inv (get_or ds b 0 - 1) (omega arith))
        ∙ gather-alone (at_desk ds (get_or ds b 0 - 1)) b x e (eq-eqb (get_or ds b 0) (suc (get_or ds b 0 - 1)) (omega arith)))
    | inr n ↦ get_or-set_other at (get_or ds b 0 - 1) d _ 0 n ∙ inv d k ∙ gather-skip (at_desk ds d) b (ne_eqb (get_or ds b 0) (suc d) (λ q. n (omega arith)))
  ]

-- which bookings a desk of a plan has
pub desk-is : (p : Plan) (d b : ℕ) → d < most_desks → b < p.n → member (desk_of (network_of p) d) b ≡ eqb (get_or p.desk b 0) (suc d)
unfolding network_of desk_of desks_of desk_at at_desk
desk-is p d b h l = ap (λ (s : ℕ). member s b) (table_at (desk_at p.desk p.n) most_desks d h) ∙ member-gather (at_desk p.desk d) p.n b l
