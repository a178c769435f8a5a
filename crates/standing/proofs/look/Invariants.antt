-- What the loop of `standing::look` keeps.
-- Assumes nothing.
use mathlib.Core.Path.{◌≡◌}
use Rattle.standing.specs.Standing.{standing_of}
use Rattle.standing.proofs.look.Given as goal

abbrev pub invariant-loop-i : goal.invariant-loop-i
invariant-loop-i l = l.s ≡ standing_of l.codes l.i
