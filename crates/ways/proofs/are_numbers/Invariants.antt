-- What the loop of `ways::are_numbers` keeps.
-- Assumes nothing.
use Rattle.std.proofs.Common.{drop}
use Rattle.bounded.proofs.Loops.{AllFar}
use Rattle.ways.specs.Way.{number_there}
use Rattle.ways.proofs.are_numbers.Given as goal

abbrev pub invariant-loop-j : goal.invariant-loop-j
invariant-loop-j l = AllFar (number_there (drop l.at l.s)) l.j
