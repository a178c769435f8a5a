-- What the loop of `decimal::read_field` keeps.
-- Assumes nothing.
use Prim.Native.Nat.{◌+◌}
use Rattle.decimal.proofs.Laws.{Read-to}
use Rattle.decimal.proofs.read_field.Given as goal

abbrev pub invariant-loop-b : goal.invariant-loop-b
invariant-loop-b l = Read-to l.w l.s (l.i + l.b-index) l.x
