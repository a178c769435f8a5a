-- What is left of `ways::ways_size`.
-- Assumes nothing.
use Rattle.std.proofs.Common.{◌≤◌, arith}
use Rattle.sets.proofs.Gather.{size_small}
use Rattle.ways.proofs.TextLaws.{size-next, none_yet, ways-most}
use Rattle.ways.proofs.ways_size.Goals.{After-size}
use Rattle.ways.proofs.ways_size.Goals as goal

small : (c : After-size) → c.size.result ≤ 64
small c = rw c.size.ensures (size_small _)

pub loop-way-init : goal.loop-way-init
loop-way-init c = none_yet _

pub way_bytes-total-requires : goal.way_bytes-total-requires
way_bytes-total-requires c = small c

pub overflow_add-total : goal.overflow_add-total
overflow_add-total c = omega (arith, ways-most _ _ _ c.loop-way.invariant, small (goal.at.overflow_add-total c).After-size)

pub loop-way-preserved : goal.loop-way-preserved
loop-way-preserved c = size-next _ _ _ _ _ c.loop-way.invariant c.size.ensures c.way_bytes-total.ensures
