-- What the loop of `standing::preceding` keeps.
-- Assumes nothing.
use Prim.Native.Nat.{◌<◌, ◌^◌}
use Rattle.standing.proofs.Loops.{Joined}
use Rattle.standing.proofs.preceding.Given as goal

abbrev pub invariant-loop-v : goal.invariant-loop-v
invariant-loop-v l = (l.r < 2 ^ 64) × Joined l.g.before l.initial.v-iterator.rest l.r l.v-iterator.rest
