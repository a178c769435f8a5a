-- What the loop of `network::direct` keeps.
-- Assumes nothing.
use Rattle.network.specs.FromPlan.{direct_at}
use lib.ListN.{length, get_or}
use Prim.Native.Nat.{ℕ, ◌<◌}
use mathlib.Core.Path.{◌≡◌}
use Rattle.network.proofs.direct.Given as goal

abbrev pub invariant-loop-i : goal.invariant-loop-i
invariant-loop-i l = (length l.d ≡ 64) × ((v : ℕ) → v < 64 → get_or l.d v 0 ≡ direct_at l.links.from l.links.to l.i v)
