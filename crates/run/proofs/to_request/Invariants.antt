-- What the loop of `run::to_request` keeps.
-- Assumes nothing.
use Rattle.sets.proofs.Walk.{Walked}
use Rattle.run.specs.Orders.{to_request}
use Rattle.run.proofs.to_request.Given as goal

abbrev pub invariant-loop-b : goal.invariant-loop-b
invariant-loop-b l = Walked (to_request l.g l.s l.way) l.initial.b-iterator.rest l.b-iterator.rest
