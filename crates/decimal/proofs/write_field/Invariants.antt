-- What the loop of `decimal::write_field` keeps.
-- Assumes nothing.
use Prim.Native.Nat.{◌≤◌}
use mathlib.Core.Path.{◌≡◌}
use lib.ListN.{length}
use lib.Seq.{sets}
use lib.Dec.{eqb}
use Rattle.decimal.specs.Decimal.{columns_to, columns}
use Rattle.decimal.proofs.write_field.Given as goal

abbrev pub invariant-loop-i : goal.invariant-loop-i
invariant-loop-i l = (l.i ≤ l.w) × (length l.field ≡ length l.initial.field) × (sets l.field 0 (columns_to (eqb l.i l.w) l.i l.q) ≡ sets l.initial.field 0 (columns l.w l.x))
