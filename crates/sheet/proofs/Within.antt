-- What a sheet is to a caller, by what it is to us (`sheet-within`).
-- Assumes nothing.
use mathlib.Core.Path.{◌≡◌, refl, ap, ◌∙◌}
use mathlib.Core.Bool.{Bool, true, false, cond}
use mathlib.Core.List.{List}
use Prim.Native.Nat.{ℕ, ◌≤◌}
use lib.ListN.{take}
use Rattle.plan.specs.Limits.{ours}
use Rattle.plan.specs.Judging.{judged_refusal}
use Rattle.plan.specs.declared.Limits.{Limits}
use Rattle.std.specs.Prelude.{Result, Err}
use Rattle.plan.specs.declared.Fault.TheVariants.{Oversize}
use Rattle.lines.specs.Form.{head_bytes}
use Rattle.lines.specs.Head.{head_of, over_head}
use Rattle.lines.specs.declared.Counts.{Counts}
use Rattle.lines.specs.declared.HeadFault.{HeadFault}
use Rattle.lines.specs.declared.HeadFault.TheVariants as H
use Rattle.lines.proofs.OverHead.{head-within, ours-takes}
use Rattle.sheet.specs.Sheet.{refused_of, after_head, sheet_within, sheet_of, oversize}
use Rattle.sheet.proofs.Places.{sheet-few}

-- it is over the caller's limits, or else what it is to us
pub sheet-within : (most : Limits) (s : List ℕ) → sheet_within most s ≡ cond (oversize most s) (refused_of (Err (Oversize 1))) (sheet_of s)
unfolding sheet_within oversize
sheet-within most s = ap (λ (h : Result Counts HeadFault). after_head h s) (head-within (take head_bytes s) most) ∙ go (over_head most (take head_bytes s))
  where
    go : (o : Bool) → after_head (cond o (Err H.Oversize) (head_of ours (take head_bytes s))) s ≡ cond o (refused_of (Err (Oversize 1))) (after_head (head_of ours (take head_bytes s)) s)
    go true = refl
    go false = refl

-- to us none is over the limits
pub ours-few : (s : List ℕ) → judged_refusal (sheet_of s).judged ≤ 3
ours-few s = sheet-few ours s (ours-takes (take head_bytes s))
