-- What is left of `sheet::ways_in`.
-- Assumes nothing.
use Rattle.sheet.proofs.SheetLaws.{ways-there}
use Rattle.sheet.proofs.ways_in.Goals as goal

pub returns : goal.returns
returns c = search ways-there
