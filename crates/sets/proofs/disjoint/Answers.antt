-- What is left of `sets::disjoint`.
-- Assumes nothing.
use Rattle.sets.proofs.Operations.{and-disjoint}
use Rattle.sets.proofs.disjoint.Goals as goal

pub returns : goal.returns
returns c = and-disjoint _ _ c.ranges.a.fits
