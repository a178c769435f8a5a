-- What is left of `passed_ways::write_listing`.
-- Assumes nothing.
use Rattle.std.proofs.Common.{refl, arith}
use Rattle.decimal.specs.Rows.{in_row}
use Rattle.passed_ways.proofs.LineLaws.{reason-small, rows_on}
use Rattle.passed_ways.proofs.write_listing.Goals as goal

pub loop-i-init : goal.loop-i-init
unfolding in_row
loop-i-init c = refl

pub write_line-requires : goal.write_line-requires
write_line-requires c = (omega arith, omega arith, reason-small _ _ _ _ c.why_out.ensures)

pub loop-i-preserved : goal.loop-i-preserved
loop-i-preserved c = rows_on _ _ _ _ _ _ _ _ _ c.why_out.ensures (omega arith) (omega arith) c.loop-i.invariant c.write_line.ensures
