-- What the loop of `join::joined_row` keeps.
-- Assumes nothing.
use Prim.Native.Nat.{◌+◌}
use Rattle.join.specs.Join.{row_at}
use Rattle.join.proofs.Rows.{Laying}
use Rattle.join.proofs.joined_row.Given as goal

abbrev pub invariant-loop-i : goal.invariant-loop-i
invariant-loop-i g l = Laying g.row.N (row_at l.k l.l l.up l.xs l.ys) (l.k + l.i) l.row
