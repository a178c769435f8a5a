-- What is left of `sets::size`.
-- Assumes nothing.
use Rattle.sets.proofs.Gather.{ones-size}
use lib.Count.{ones-le}
use native.Mathlib.Omega.{arith}
use Rattle.sets.proofs.size.Goals as goal

pub overflow_cast-result : goal.overflow_cast-result
overflow_cast-result c = omega (arith, ones-le 64 c.args.s c.ranges.s.fits)

pub returns : goal.returns
returns c = ones-size _ c.ranges.s.fits
