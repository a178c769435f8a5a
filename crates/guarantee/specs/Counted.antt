-- What is counted from a list of calls and their 32 bits, and from nothing else. Bookings go by number here.
-- Assumes nothing.
use Rattle.std.specs.Prelude.{Bool, ◌&&◌, ◌||◌, List, [], ◌∷◌, ℕ, suc, pred, ◌+◌, eqb, ltb}
use Rattle.bounded.specs.Bounded.{one, sum, count}
use Rattle.sets.specs.Sets.{member, size_of}
use Rattle.network.specs.Network.{way_of, repeats, desk_of}
use Rattle.network.specs.declared.Network.{Network}
use Rattle.run.specs.Replies.{Y, N, G, K}
use Rattle.guarantee.specs.Answers.{kind_of, place_of}
use Rattle.guarantee.specs.Machine.{Asked, next_order, replied}

-- an order to send is kind 1 or 2, the end kind 4 or 5, an accepted reply kind 6
unfoldable pub sends : ℕ → Bool
sends x = eqb (kind_of x) 1 || eqb (kind_of x) 2

unfoldable pub ends : ℕ → Bool
ends x = eqb (kind_of x) 4 || eqb (kind_of x) 5

unfoldable pub accepts : ℕ → Bool
accepts x = eqb (kind_of x) 6

-- ---- counters: a number for a call q and its answer x

-- a Y to booking b was accepted
unfoldable pub confirmed : ℕ → Asked → ℕ → ℕ
confirmed b next_order x = 0
confirmed b (replied l n) x = one (accepts x && (eqb n b && eqb l Y))

-- a G to booking b was accepted
unfoldable pub returned : ℕ → Asked → ℕ → ℕ
returned b next_order x = 0
returned b (replied l n) x = one (accepts x && (eqb n b && eqb l G))

-- a request or return names booking b
unfoldable pub ordered : ℕ → Asked → ℕ → ℕ
ordered b next_order x = one (sends x && eqb (place_of x) b)
ordered b (replied l n) x = 0

-- an accepted reply names booking b
unfoldable pub answered : ℕ → Asked → ℕ → ℕ
answered b next_order x = 0
answered b (replied l n) x = one (accepts x && eqb n b)

-- a request, a return or an accepted reply
unfoldable pub event : Asked → ℕ → ℕ
event next_order x = one (sends x)
event (replied l n) x = one (accepts x)

-- q: an accepted N to a booking that repeats (R or D), or an accepted K
unfoldable pub again : Network → Asked → ℕ → ℕ
again g next_order x = 0
again g (replied l n) x = one (accepts x && ((eqb l N && repeats g (pred n)) || eqb l K))

-- a counter over the calls and their answers
unfoldable pub tally : (Asked → ℕ → ℕ) → List Asked → List ℕ → ℕ
tally f [] xs = 0
tally f (q ∷ qs) [] = 0
tally f (q ∷ qs) (x ∷ xs) = f q x + tally f qs xs

-- more requests and returns than accepted replies name booking b: a reply to it is outstanding, and it is an open matter
unfoldable pub outstanding : List Asked → List ℕ → ℕ → Bool
outstanding qs xs b = ltb (tally (answered b) qs xs) (tally (ordered b) qs xs)

-- how many open matters desk d has; desks and the bookings in their sets go by index
unfoldable pub open_here : Network → List Asked → List ℕ → ℕ → ℕ → Bool
open_here g qs xs d b = member (desk_of g d) b && outstanding qs xs (suc b)

unfoldable pub open_matters : Network → List Asked → List ℕ → ℕ → ℕ
open_matters g qs xs d = count (open_here g qs xs d) g.n

-- s: how many bookings the ways have together
unfoldable pub way_size : Network → ℕ → ℕ
way_size g k = size_of (way_of g (suc k))

unfoldable pub way_sizes : Network → ℕ
way_sizes g = sum (way_size g) g.a
