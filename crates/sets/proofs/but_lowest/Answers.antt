-- What is left of `sets::but_lowest`.
-- Assumes nothing.
use native.Mathlib.Omega.{arith}
use Rattle.sets.proofs.Walk.{and-less}
use Rattle.sets.proofs.but_lowest.Goals as goal

pub returns : goal.returns
returns c = and-less _ c.ranges.s.fits (λ z. omega (arith, c.requires, z))
