-- What is wrong with a sheet where its head is refused.
-- Assumes nothing.
use Rattle.plan.specs.declared.Fault.{Fault}
use Rattle.plan.specs.declared.Fault.TheVariants.{Form, Count, Oversize}
use Rattle.lines.specs.declared.HeadFault.{HeadFault}
use Rattle.lines.specs.declared.HeadFault.TheVariants as H

-- what is wrong with a sheet whose head is refused, which is its line 1
abbrev pub head_fault_of : HeadFault → Fault
head_fault_of H.Malformed = Form 1
head_fault_of H.OutOfLimits = Count 1
head_fault_of H.Oversize = Oversize 1
