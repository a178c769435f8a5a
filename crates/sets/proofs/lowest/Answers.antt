-- What is left of `sets::lowest`.
-- Assumes nothing.
use Rattle.sets.proofs.Operations.{trailing-first}
use lib.Count.{trailing_le}
use native.Mathlib.Omega.{arith}
use Rattle.sets.proofs.lowest.Goals as goal

pub overflow_cast-result : goal.overflow_cast-result
overflow_cast-result c = omega (arith, trailing_le 64 c.args.s)

pub returns : goal.returns
returns c = trailing-first _
