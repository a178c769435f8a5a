-- What the loop of `verdict::take_from_members` keeps.
-- Assumes nothing.
use Rattle.verdict.proofs.Parts.{Taking}
use Rattle.verdict.proofs.take_from_members.Given as goal

abbrev pub invariant-loop-x : goal.invariant-loop-x
invariant-loop-x l = Taking l.initial.stay l.up l.b l.x-iterator.rest l.stay
