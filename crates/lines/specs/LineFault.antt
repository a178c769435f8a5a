-- What is wrong with a sheet where a line of it is refused for its form, or for a number out of sequence or range.
-- Assumes nothing.
use Rattle.std.specs.Prelude.{ℕ}
use Rattle.plan.specs.declared.Fault.{Fault}
use Rattle.plan.specs.declared.Fault.TheVariants.{Form, Sequence}
use Rattle.lines.specs.declared.LineFault.{LineFault}
use Rattle.lines.specs.declared.LineFault.TheVariants.{Malformed, OutOfSequence}

abbrev pub fault_on : LineFault → ℕ → Fault
fault_on Malformed l = Form l
fault_on OutOfSequence l = Sequence l
