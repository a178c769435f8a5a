-- The refusals 1 to 3 and 16 of a sheet as numbers: which one it is, and its place, the line.
-- Assumes nothing.
use Rattle.std.specs.Prelude.{Bool, true, false, ℕ, ⊤, Result, Ok, Err}
use Rattle.plan.specs.declared.Fault.{Fault}
use Rattle.plan.specs.declared.Fault.TheVariants.{Form, Count, Sequence, Oversize}

-- what the lines of a sheet are, as far as they were read: fine, or at fault
abbrev pub Judged : Type 0
Judged = Result ⊤ Fault

abbrev pub is_fine : Judged → Bool
is_fine (Ok fine) = true
is_fine (Err fault) = false

-- of a sheet: 1 a line is not of its form, 2 a count is outside its limits, 3 a number is out of sequence or range, 16 a count is past the caller's
abbrev pub fault_refusal : Fault → ℕ
fault_refusal (Form l) = 1
fault_refusal (Count l) = 2
fault_refusal (Sequence l) = 3
fault_refusal (Oversize l) = 16

-- and 0 is no refusal
abbrev pub judged_refusal : Judged → ℕ
judged_refusal (Ok fine) = 0
judged_refusal (Err fault) = fault_refusal fault

abbrev pub fault_line : Fault → ℕ
fault_line (Form l) = l
fault_line (Count l) = l
fault_line (Sequence l) = l
fault_line (Oversize l) = l

abbrev pub judged_place : Judged → ℕ
judged_place (Ok fine) = 0
judged_place (Err fault) = fault_line fault
