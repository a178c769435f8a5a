-- What the loop of `join::pair_ways` keeps.
-- Assumes nothing.
use Rattle.join.specs.Join.{pair_at}
use Rattle.join.proofs.Rows.{Laying}
use Rattle.join.proofs.pair_ways.Given as goal

abbrev pub invariant-loop-i : goal.invariant-loop-i
invariant-loop-i l = Laying 16 (pair_at l.k l.l l.n l.xs l.ys) l.i l.way
