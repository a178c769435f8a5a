-- What the rules ask of a standing: which bookings precede others, which ways are live. A way is the set of its bookings here.
-- Assumes nothing.
use Rattle.std.specs.Prelude.{Bool, not, ◌&&◌, cond, ℕ, suc, ltb}
use Rattle.std.specs.Int.Bits.{bit_and}
use Rattle.bounded.specs.Bounded.{any, first}
use Rattle.sets.specs.Sets.{member, gather, subset_of, disjoint_from}
use Rattle.network.specs.Network.{way_of, before, pre}
use Rattle.network.specs.declared.Network.{Network}
use Rattle.standing.specs.declared.Standing.{Standing}

-- ---- predecessors

-- b precedes v, which is a member of s
unfoldable pub supports : Network → ℕ → ℕ → ℕ → Bool
supports g s b v = member s v && pre g b v

-- b precedes some member of s
unfoldable pub precedes_some : Network → ℕ → ℕ → Bool
precedes_some g s b = any (supports g s b) g.n

-- the bookings that precede some member of s
unfoldable pub preceding : Network → ℕ → ℕ
preceding g s = gather (precedes_some g s) 64

-- the predecessors of b are all held
unfoldable pub ready : Network → Standing → ℕ → Bool
ready g s b = subset_of (before g b) s.held

-- ---- live ways

-- the way has a lost booking
unfoldable pub lost_in : Standing → ℕ → Bool
lost_in s way = not (disjoint_from way s.lost)

-- the held firm bookings
unfoldable pub held_firm : Network → Standing → ℕ
held_firm g s = bit_and s.held g.firm

-- the way has no lost booking and has every held firm one
unfoldable pub live : Network → Standing → ℕ → Bool
live g s way = not (lost_in s way) && subset_of (held_firm g s) way

-- way k + 1 is live
unfoldable pub live_at : Network → Standing → ℕ → Bool
live_at g s k = live g s (way_of g (suc k))

-- the first live way, or 0 if there is none
unfoldable pub first_live : Network → Standing → ℕ
first_live g s = let k = first (live_at g s) g.a in cond (ltb k g.a) (suc k) 0
