-- A plan sheet: the head, the lines of the bookings, of the links and of the ways, and nothing after them.
-- It is judged line by line from the top, so the first line that is refused decides: 1 for its form, 2 for a count, 3 for a number; at the head
-- 16, after these, where the caller takes less than a sheet may have.
-- Where bytes end early the line that lacks one is not of its form; where bytes remain, the line after the last is not.
-- Assumes nothing.
use Rattle.std.specs.Prelude.{ℕ, ◌+◌, List, Bool, cond, length, take, drop, eqb, Result, Ok, Err}
use Rattle.plan.specs.Limits.{ours}
use Rattle.plan.specs.Judging.{Judged, is_fine}
use Rattle.plan.specs.declared.Limits.{Limits}
use Rattle.plan.specs.declared.Fault.{Fault}
use Rattle.plan.specs.declared.Fault.TheVariants.{Form}
use Rattle.plan.specs.declared.Plan.{Plan}
use Rattle.lines.specs.Form.{head_bytes, links_place, ways_place}
use Rattle.lines.specs.Head.{head_of, over_head}
use Rattle.lines.specs.HeadFault.{head_fault_of}
use Rattle.lines.specs.Bookings.{bookings_of, no_bookings}
use Rattle.plan.specs.Links.{no_links}
use Rattle.lines.specs.Links.{Links, links_of}
use Rattle.lines.specs.declared.Counts.{Counts}
use Rattle.lines.specs.declared.HeadFault.{HeadFault}
use Rattle.lines.specs.declared.Bookings.{Bookings}
use Rattle.ways.specs.Ways.{ways_of, no_ways}
use Rattle.ways.specs.declared.Ways.{Ways}

-- what a sheet is, and its plan, which is empty where the sheet is refused
pub record Sheet : Type 0 where
  pub judged : Judged
  pub plan : Plan

-- what the three kinds of lines after the head give; the first way stands on line n + m + 2
unfoldable pub bookings_in : ℕ → List ℕ → Bookings
bookings_in n s = bookings_of n 0 (drop head_bytes s) no_bookings no_bookings

unfoldable pub links_in : ℕ → ℕ → List ℕ → Links
links_in n m s = links_of n m 0 (drop (links_place n) s) 0 0 no_links no_links

unfoldable pub ways_in : ℕ → ℕ → ℕ → List ℕ → Ways
ways_in n m a s = ways_of n (n + m + 2) a 0 (ways_place n m) (drop (ways_place n m) s) no_ways

-- the plan that an accepted sheet gives: its entries past the counts are 0
unfoldable pub plan_in : ℕ → ℕ → ℕ → ℕ → List ℕ → Plan
plan_in n m a limit s = record {
  n = n;
  m = m;
  a = a;
  limit = limit;
  kind = (bookings_in n s).kind;
  desk = (bookings_in n s).desk;
  from = (links_in n m s).from;
  to = (links_in n m s).to;
  way = (ways_in n m a s).way;
}

-- a refused sheet gives an empty plan
unfoldable pub no_plan : Plan
no_plan = record { n = 0; m = 0; a = 0; limit = 0; kind = no_bookings; desk = no_bookings; from = no_links; to = no_links; way = no_ways }

unfoldable pub refused_of : Judged → Sheet
refused_of j = record { judged = j; plan = no_plan }

-- on past lines that are fine
abbrev pub past : Judged → Sheet → Sheet
past j next = cond (is_fine j) next (refused_of j)

-- the ways are to end where the sheet ends; the line after the last way is line n + m + a + 2
unfoldable pub end_of : ℕ → ℕ → ℕ → ℕ → List ℕ → Sheet
end_of n m a limit s = cond (eqb (ways_in n m a s).next (length s)) (record { judged = Ok tt; plan = plan_in n m a limit s }) (refused_of (Err (Form (n + m + a + 2))))

-- the lines after the head
unfoldable pub body_of : ℕ → ℕ → ℕ → ℕ → List ℕ → Sheet
body_of n m a limit s = past (bookings_in n s).judged (past (links_in n m s).judged (past (ways_in n m a s).judged (end_of n m a limit s)))

abbrev pub after_head : Result Counts HeadFault → List ℕ → Sheet
after_head (Ok c) s = body_of c.bookings c.links c.ways c.limit s
after_head (Err f) s = refused_of (Err (head_fault_of f))

-- what the bytes of a sheet are to a caller with such limits
unfoldable pub sheet_within : Limits → List ℕ → Sheet
sheet_within most s = after_head (head_of most (take head_bytes s)) s

-- and to us
abbrev pub sheet_of : List ℕ → Sheet
sheet_of s = sheet_within ours s

-- a sheet within our limits and over the caller's, by its head
unfoldable pub oversize : Limits → List ℕ → Bool
oversize most s = over_head most (take head_bytes s)

-- ---- what a reader gives of a sheet: a part of its plan, or what is wrong with it

abbrev pub given : {A : Type 0} → Judged → A → Result A Fault
given (Ok u) x = Ok x
given (Err f) x = Err f

abbrev pub plan_read : Sheet → Result Plan Fault
plan_read t = given t.judged t.plan
