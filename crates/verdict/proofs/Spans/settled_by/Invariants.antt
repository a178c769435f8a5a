-- What the loop of `verdict::Spans::settled_by` keeps.
-- Assumes nothing.
use Rattle.verdict.proofs.Parts.{Leading}
use Rattle.verdict.proofs.Spans.settled_by.Given as goal

abbrev pub invariant-loop-i : goal.invariant-loop-i
invariant-loop-i l = Leading l.self.upto l.s l.i-iterator.rest l.r
