-- What holds of a valid plan: the kinds of returning bookings, and, where the check passes it, the whole guarantee.
-- Assumes nothing.
use mathlib.Core.Path.{◌≡◌, sym, ◌∙◌}
use mathlib.Core.Bool.{true}
use mathlib.Core.List.{List}
use Prim.Native.Nat.{ℕ}
use native.Mathlib.Omega.{arith}
use lib.ListN.{length, get_or}
use Rattle.bounded.proofs.Bools.{not-i}
use Rattle.plan.specs.declared.Plan.{Plan}
use Rattle.plan.proofs.Valid.{Valid}
use Rattle.network.specs.FromPlan.{is_returnable, network_of}
use Rattle.network.proofs.Letters.{soft-is}
use Rattle.network.proofs.Plans.{shape}
use Rattle.verdict.specs.Check.{check, verdict_number}
use Rattle.verdict.proofs.Facts.{Passes}
use Rattle.verdict.proofs.Pass.{passes}
use Rattle.standing.specs.Standing.{returning}
use Rattle.run.specs.State.{code}
use Rattle.run.specs.Sound.{sound}
use Rattle.run.specs.declared.Run.{Run}
use Rattle.run.proofs.Facts.{Core, inside}
use Rattle.run.proofs.SoundTest.{sound-e}
use Rattle.guarantee.specs.Machine.{Asked}
use Rattle.guarantee.specs.Guarantee.{Guarantee}
use Rattle.guarantee.proofs.Whole.{whole-campaign}

-- in a sound state a returning booking is C or D
pub returning-kind : (p : Plan) → Valid p → (r : Run) → length r.code ≡ 64 → sound (network_of p) r ≡ true
    → (b : ℕ) → code r b ≡ returning → is_returnable (get_or p.kind b 0) ≡ true
unfolding network_of
returning-kind p v r l e b m =
    let c : Core (network_of p) r = (sound-e (network_of p) (shape p v) r l e).core in
    sym (soft-is p v b (inside (network_of p) r c.past b (omega arith))) ∙ not-i _ (c.going b m).0

-- what the check ensures of a valid plan
pub plan-passes : (p : Plan) → Valid p → verdict_number (check (network_of p)) ≡ 0 → Passes (network_of p)
plan-passes p v e = passes (network_of p) (shape p v) e

-- every list of calls on a valid plan that passes
pub plan-campaign : (p : Plan) → Valid p → verdict_number (check (network_of p)) ≡ 0 → (qs : List Asked) → Guarantee (network_of p) qs
plan-campaign p v e qs = whole-campaign (network_of p) (plan-passes p v e) qs
