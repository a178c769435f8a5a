-- What is left of `sets::subset`.
-- Assumes nothing.
use Rattle.sets.proofs.Operations.{and-subset}
use Rattle.sets.proofs.subset.Goals as goal

pub returns : goal.returns
returns c = and-subset _ _ c.ranges.a.fits
