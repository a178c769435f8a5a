-- The kinds by their letters: which bookings of a plan are firm, which are not, and which are requested again.
-- Assumes nothing.
use mathlib.Core.Path.{◌≡◌, refl, ap, ◌∙◌}
use mathlib.Core.Bool.{not}
use Prim.Native.Nat.{ℕ, ◌<◌}
use lib.ListN.{get_or}
use Rattle.sets.proofs.Gather.{member-gather}
use Rattle.plan.specs.declared.Plan.{Plan}
use Rattle.plan.proofs.LimitLaws.{each-kind}
use Rattle.plan.proofs.Valid.{Valid}
use Rattle.network.specs.FromPlan.{one_of, is_firm, is_exposed, is_returnable, is_repeating, of_kind, network_of}
use Rattle.network.specs.Network.{firm, exposed, repeats}

module _ (p : Plan) (v : Valid p) (b : ℕ) (h : b < p.n) where
  -- what is firm is P or R
  pub firm-is : firm (network_of p) b ≡ is_firm (get_or p.kind b 0)
  unfolding network_of firm of_kind
  firm-is = member-gather (of_kind is_firm p.kind) p.n b h

  -- what is not firm is C or D
  pub soft-is : not (firm (network_of p) b) ≡ is_returnable (get_or p.kind b 0)
  unfolding one_of
  soft-is = ap not firm-is ∙ each-kind (λ (k : ℕ). not (is_firm k) ≡ is_returnable k) refl refl refl refl (get_or p.kind b 0) (v.kinds b h)

  -- what is requested again after a refusal is R or D
  pub repeats-is : repeats (network_of p) b ≡ is_repeating (get_or p.kind b 0)
  unfolding network_of exposed repeats of_kind one_of
  repeats-is =
      ap not (member-gather (of_kind is_exposed p.kind) p.n b h)
      ∙ each-kind (λ (k : ℕ). not (is_exposed k) ≡ is_repeating k) refl refl refl refl (get_or p.kind b 0) (v.kinds b h)
