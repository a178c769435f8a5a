-- What the loop of `ways::ways_size` keeps.
-- Assumes nothing.
use Rattle.std.proofs.Common.{◌≡◌}
use Rattle.ways.specs.WayText.{ways_length}
use Rattle.ways.proofs.ways_size.Given as goal

abbrev pub invariant-loop-way : goal.invariant-loop-way
invariant-loop-way l = l.total ≡ ways_length l.way-index l.ways
