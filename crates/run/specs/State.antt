-- The state of a run: the current way and the codes, and the changes that orders and replies make.
-- Assumes nothing.
use Rattle.std.specs.Prelude.{Bool, ℕ, get_or, set, replicate}
use Rattle.network.specs.Network.{way_of}
use Rattle.network.specs.declared.Network.{Network}
use Rattle.standing.specs.Standing.{free, code_is, standing_of}
use Rattle.standing.specs.declared.Standing.{Standing}
use Rattle.run.specs.declared.Run.{Run}

unfoldable pub code : Run → ℕ → ℕ
code r b = get_or r.code b 0

-- booking b has code c
abbrev pub is : Run → ℕ → ℕ → Bool
is r c b = code_is r.code c b

-- how the bookings of the plan stand
abbrev pub standing : Network → Run → Standing
standing g r = standing_of r.code g.n

-- the bookings of the current way
abbrev pub here : Network → Run → ℕ
here g r = way_of g r.way

-- ---- changes

-- booking b gets code c
abbrev pub put : Run → ℕ → ℕ → Run
put r b c = record { way = r.way; code = set r.code b c }

-- way w becomes current
abbrev pub turn : Run → ℕ → Run
turn r w = record { way = w; code = r.code }

-- at the start the way is 1 and all are free
unfoldable pub start : Run
start = record { way = 1; code = replicate 64 free }
