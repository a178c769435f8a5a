-- What the loop of `precedence::closure` keeps, and its measure.
-- Assumes nothing.
use mathlib.Core.Path.{◌≡◌}
use lib.ListN.{length}
use Prim.Native.Nat.{◌≤◌, ◌-◌, ◌%◌}
use Rattle.precedence.specs.Precedence.{closure_to}
use Rattle.precedence.proofs.closure.Given as goal

abbrev pub invariant-loop-k : goal.invariant-loop-k
invariant-loop-k l = (l.k ≤ 64) × (l.k % 4 ≡ 0) × (length l.p ≡ 64) × (l.p ≡ closure_to l.initial.p l.k)

abbrev pub decreases-loop-k : goal.decreases-loop-k
decreases-loop-k l = 64 - l.k
