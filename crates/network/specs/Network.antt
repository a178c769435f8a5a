-- How the rules read a network. A booking is an index from 0; a way is a number from 1, and 0 is no way.
-- Assumes nothing.
use Rattle.std.specs.Prelude.{Bool, not, ℕ, zero, suc, get_or}
use Rattle.sets.specs.Sets.{member}
use Rattle.network.specs.declared.Network.{Network}

-- the bookings of way w; no way has none
unfoldable pub way_of : Network → ℕ → ℕ
way_of g zero = 0
way_of g (suc k) = get_or g.way k 0

unfoldable pub in_way : Network → ℕ → ℕ → Bool
in_way g w b = member (way_of g w) b

-- the bookings that precede v
unfoldable pub before : Network → ℕ → ℕ
before g v = get_or g.before v 0

-- u precedes v
unfoldable pub pre : Network → ℕ → ℕ → Bool
pre g u v = member (before g v) u

-- the bookings of desk d; desks go by index from 0
unfoldable pub desk_of : Network → ℕ → ℕ
desk_of g d = get_or g.desk d 0

-- ---- the four kinds: C is exposed alone, P is both, R is firm alone, D is neither

-- P or R: once held it stays. All other bookings, C and D, can be given back
unfoldable pub firm : Network → ℕ → Bool
firm g b = member g.firm b

-- C or P: it can be refused for good
unfoldable pub exposed : Network → ℕ → Bool
exposed g b = member g.exposed b

-- R or D: a refusal leaves it to be requested again
unfoldable pub repeats : Network → ℕ → Bool
repeats g b = not (exposed g b)
