-- What is left of `calls::chart_of`.
-- Assumes nothing.
use Rattle.calls.specs.Calls.{sheet_passes}
use Rattle.calls.proofs.chart_of.Goals as goal

pub returns : goal.returns
unfolding sheet_passes
returns c = rw c.ours.ensures at c.chart_within.ensures
