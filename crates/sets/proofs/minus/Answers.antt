-- What is left of `sets::minus`.
-- Assumes nothing.
use Rattle.sets.proofs.Operations.{xor-without}
use Rattle.sets.proofs.minus.Goals as goal

pub returns : goal.returns
returns c = xor-without _ _ c.ranges.a.fits
