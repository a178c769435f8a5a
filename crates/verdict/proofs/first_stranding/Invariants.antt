-- What the loop of `verdict::first_stranding` keeps.
-- Assumes nothing.
use Rattle.bounded.proofs.Loops.{SoFar}
use Rattle.verdict.specs.Check.{strands}
use Rattle.verdict.proofs.first_stranding.Given as goal

abbrev pub invariant-loop-k : goal.invariant-loop-k
invariant-loop-k l = SoFar (strands l.chart.network) l.k
