-- What taking a line relies on.
-- Assumes nothing.
use Rattle.std.specs.Prelude.{◌≡◌, List, ℕ, ◌≤◌, length}
use Rattle.network.specs.declared.Network.{Network}
use Rattle.standing.specs.declared.Standing.{Standing}
use Rattle.run.specs.State.{standing}
use Rattle.run.specs.Bytes.{run_of}

-- the state's bytes are 65, their way is one of 16 or none, and s is how their bookings stand. It is a fact of three values and no struct with
-- an invariant: that would hold the lent bytes by `&mut`, and the language has no ghost field beside one
pub record Stands (g : Network) (s : Standing) (state : List ℕ) : Type 0 where
  pub size : length state ≡ 65
  pub way : (run_of state).way ≤ 16
  pub stands : s ≡ standing g (run_of state)
