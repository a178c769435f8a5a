-- What the loop of `desks::full` keeps.
-- Assumes nothing.
use Prim.Native.Nat.{◌<◌, ◌^◌}
use Rattle.desks.proofs.Laws.{FullFar}
use Rattle.desks.proofs.full.Given as goal

abbrev pub invariant-loop-desk : goal.invariant-loop-desk
invariant-loop-desk l = (l.at_full < 2 ^ 64) × FullFar l.limit l.desks l.matters l.at_full l.desk-index
