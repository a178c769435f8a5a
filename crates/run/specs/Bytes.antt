-- The state as 65 bytes: the current way, then a byte for each of 64 bookings.
-- Assumes nothing.
use Rattle.std.specs.Prelude.{Bool, ◌&&◌, List, ◌∷◌, ℕ, eqb, length, get_or, drop}
use Rattle.network.specs.declared.Network.{Network}
use Rattle.run.specs.Sound.{sound}
use Rattle.run.specs.declared.Run.{Run}

unfoldable pub bytes_of : Run → List ℕ
bytes_of r = r.way ∷ r.code

unfoldable pub run_of : List ℕ → Run
run_of bs = record { way = get_or bs 0 0; code = drop 1 bs }

-- the bytes are a sound state: there are 65, and what they say is sound
unfoldable pub sound_bytes : Network → List ℕ → Bool
sound_bytes g bs = eqb (length bs) 65 && sound g (run_of bs)
