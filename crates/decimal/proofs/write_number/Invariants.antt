-- What the loop of `decimal::write_number` keeps, and its measure.
-- Assumes nothing.
use lib.ListN.{length}
use Rattle.decimal.proofs.Numbers.{Shown}
use Rattle.decimal.proofs.write_number.Given as goal

abbrev pub invariant-loop-rest : goal.invariant-loop-rest
invariant-loop-rest l = Shown (length l.fn.field) l.x l.i l.rest l.field

abbrev pub decreases-loop-rest : goal.decreases-loop-rest
decreases-loop-rest l = l.rest
