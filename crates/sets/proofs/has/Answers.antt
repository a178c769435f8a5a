-- What is left of `sets::has`.
-- Assumes nothing.
use mathlib.Core.Path.{refl}
use Rattle.sets.specs.Sets.{member}
use Rattle.sets.proofs.has.Goals as goal

pub returns : goal.returns
unfolding member
returns c = refl
