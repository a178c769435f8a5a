-- What the loop of `network::desks_of` keeps.
-- Assumes nothing.
use Rattle.network.specs.FromPlan.{desk_at}
use lib.ListN.{length, get_or}
use Prim.Native.Nat.{ℕ, ◌<◌}
use mathlib.Core.Path.{◌≡◌}
use Rattle.network.proofs.desks_of.Given as goal

abbrev pub invariant-loop-b : goal.invariant-loop-b
invariant-loop-b l = (length l.at ≡ 8) × ((d : ℕ) → d < 8 → get_or l.at d 0 ≡ desk_at l.desk l.b d)
