-- What is left of `writer::sheet_size`.
-- Assumes nothing.
use Rattle.std.proofs.Common.{arith}
use Rattle.ways.proofs.TextLaws.{ways-most, taken-length}
use Rattle.sheet.specs.Text.{sheet_length}
use Rattle.writer.proofs.sheet_size.Goals as goal

pub overflow_add-result : goal.overflow_add-result
overflow_add-result c = omega (arith, ways-most _ _ _ c.ways_size.ensures)

pub returns : goal.returns
unfolding sheet_length
returns c = let p = c.args.p.now in rw (c.ways_place.ensures, c.ways_size.ensures) (rw (taken-length p.a p.way (omega arith)))
