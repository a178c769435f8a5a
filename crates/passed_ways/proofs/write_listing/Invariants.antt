-- What the loop of `passed_ways::write_listing` keeps.
-- Assumes nothing.
use Rattle.std.proofs.Common.{◌≡◌}
use Rattle.std.proofs.lemmas.List.Edits.{sets}
use Rattle.decimal.specs.Rows.{in_row}
use Rattle.passed_ways.specs.Listing.{row_of}
use Rattle.passed_ways.proofs.write_listing.Given as goal

abbrev pub invariant-loop-i : goal.invariant-loop-i
invariant-loop-i l = l.buf ≡ sets l.initial.buf 0 (in_row (row_of l.lost l.firm l.ways) l.i)
