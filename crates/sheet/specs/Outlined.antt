-- A sheet read so that its links stand beside its plan: what is told of it, and which links were read.
-- Assumes nothing.
use Rattle.std.specs.Prelude.{ℕ, List, cond, take, Result, Ok, Err}
use Rattle.plan.specs.Judging.{is_fine}
use Rattle.plan.specs.declared.Limits.{Limits}
use Rattle.plan.specs.declared.Fault.{Fault}
use Rattle.plan.specs.declared.Outline.{Outline}
use Rattle.plan.specs.Outline.{outline_of}
use Rattle.lines.specs.Form.{head_bytes}
use Rattle.lines.specs.Head.{head_of}
use Rattle.plan.specs.Links.{no_links}
use Rattle.lines.specs.Links.{Links}
use Rattle.lines.specs.declared.Counts.{Counts}
use Rattle.lines.specs.declared.HeadFault.{HeadFault}
use Rattle.sheet.specs.Sheet.{Sheet, bookings_in, links_in, given}

-- what is told of a sheet but for the links of its plan
abbrev pub outlined_of : Sheet → Result Outline Fault
outlined_of t = given t.judged (outline_of t.plan)

-- no link was read
unfoldable pub none_read : Links
none_read = record { judged = Ok tt; from = no_links; to = no_links }

-- the links as far as they were read: none where a line before them is refused
unfoldable pub body_links : ℕ → ℕ → List ℕ → Links
body_links n m s = cond (is_fine (bookings_in n s).judged) (links_in n m s) none_read

abbrev pub links_after : Result Counts HeadFault → List ℕ → Links
links_after (Ok c) s = body_links c.bookings c.links s
links_after (Err f) s = none_read

unfoldable pub links_read : Limits → List ℕ → Links
links_read most s = links_after (head_of most (take head_bytes s)) s
