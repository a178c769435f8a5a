-- The plan of a sheet that was read with its links beside it.
-- Assumes nothing.
use mathlib.Core.Path.{◌≡◌}
use mathlib.Core.Bool.{true}
use mathlib.Core.List.{List}
use Prim.Native.Nat.{ℕ}
use Rattle.std.specs.Prelude.{Result, Ok}
use Rattle.plan.specs.Limits.{ours}
use Rattle.plan.specs.Judging.{Judged, is_fine}
use Rattle.plan.specs.Outline.{outline_of, plan_of}
use Rattle.plan.specs.declared.Fault.{Fault}
use Rattle.plan.specs.declared.Outline.{Outline}
use Rattle.plan.specs.declared.Plan.{Plan}
use Rattle.plan.proofs.RecordLaws.{fine-is}
use Rattle.sheet.specs.Sheet.{sheet_of, plan_read}
use Rattle.sheet.specs.Outlined.{links_read}
use Rattle.sheet.proofs.SheetLaws.{read-fine}

pub plan-read : (s : List ℕ) (o : Outline) (us vs : List ℕ) → o ≡ outline_of (sheet_of s).plan → us ≡ (links_read ours s).from → vs ≡ (links_read ours s).to
    → is_fine (sheet_of s).judged ≡ true → plan_of o us vs ≡ (sheet_of s).plan
plan-read s o us vs eo eu ev f =
    let j : ◌≡◌ {A = Judged} (sheet_of s).judged (Ok tt) = fine-is (sheet_of s).judged f in
    let p : Plan = plan_of (outline_of (sheet_of s).plan) (links_read ours s).from (links_read ours s).to in
    let e : ◌≡◌ {A = Result Plan Fault} (Ok p) (plan_read (sheet_of s)) = read-fine ours s (outline_of (sheet_of s).plan) (rw j) in
    let g : ◌≡◌ {A = Result Plan Fault} (Ok p) (Ok (sheet_of s).plan) = rw j at e in
    rw (eo, eu, ev) (cc)
