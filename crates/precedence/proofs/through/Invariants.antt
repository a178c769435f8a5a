-- What the loop of `precedence::through` keeps.
-- Assumes nothing.
use mathlib.Core.Path.{◌≡◌}
use Prim.Native.Nat.{ℕ, ◌<◌}
use lib.ListN.{length, get_or}
use Rattle.precedence.specs.Precedence.{four_of, EmptyFrom}
use Rattle.precedence.proofs.through.Given as goal

abbrev pub invariant-loop-v : goal.invariant-loop-v
invariant-loop-v l = (length l.r ≡ 64) × ((i : ℕ) → i < l.v → get_or l.r i 0 ≡ get_or (four_of l.p l.k) i 0) × EmptyFrom l.v l.r
