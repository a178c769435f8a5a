-- The counts of a record that fit; and a sheet that is judged fine.
-- Assumes nothing.
use mathlib.Core.Path.{◌≡◌, sym, refl}
use mathlib.Core.Bool.{true}
use Prim.Native.Nat.{ℕ, ◌≤◌}
use native.Mathlib.Omega.{arith}
use Rattle.bounded.proofs.Bools.{and_l, clash}
use Rattle.plan.specs.Limits.{limits}
use Rattle.plan.specs.Record.{counts_fit}
use Rattle.plan.specs.declared.Plan.{Plan}
use Rattle.std.specs.Prelude.{Ok, Err}
use Rattle.plan.specs.Judging.{Judged, is_fine, judged_refusal, judged_place}
use Rattle.plan.specs.declared.Fault.TheVariants.{Form, Oversize}
use Rattle.plan.specs.declared.Fault.TheVariants as F
use Rattle.plan.proofs.LimitLaws.{Limited, limited}

-- a record whose counts fit has its counts and its limit of matters within the limits
pub fit_limited : (p : Plan) → counts_fit p ≡ true → Limited p.n p.m p.a p.limit
unfolding counts_fit
fit_limited p e = limited p.n p.m p.a p.limit (and_l (limits p.n p.m p.a p.limit) _ e)

-- ---- a sheet's judgement

pub fine-is : (j : Judged) → is_fine j ≡ true → j ≡ Ok tt
fine-is (Ok tt) e = refl
fine-is (Err f) e = clash true refl (sym e)

pub refusal-few : (j : Judged) → judged_refusal j ≤ 16
refusal-few (Ok tt) = omega arith
refusal-few (Err (Form l)) = omega arith
refusal-few (Err (F.Count l)) = omega arith
refusal-few (Err (F.Sequence l)) = omega arith
refusal-few (Err (Oversize l)) = omega arith

-- judged by its own lines: it is refused with 1, 2 or 3, if it is, and not past line m
pub record Upto (m : ℕ) (j : Judged) : Type 0 where
  pub place : judged_place j ≤ m
  pub few : judged_refusal j ≤ 3

pub further : {m : ℕ} {j : Judged} (k : ℕ) → m ≤ k → Upto m j → Upto k j
further k h u = record { place = omega (arith, h, u.place); few = u.few }
