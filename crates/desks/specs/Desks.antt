-- How much a desk has open, and when it is full. A desk is the set of its bookings; ds lists the desks' sets, matters is the set of all open
-- matters, and limit is how many of them a desk may have. Desks go by index from 0.
-- Assumes nothing.
use Rattle.std.specs.Prelude.{Bool, ◌&&◌, List, ℕ, leb, get_or}
use Rattle.std.specs.Int.Bits.{bit_and}
use Rattle.bounded.specs.Bounded.{any, all}
use Rattle.sets.specs.Sets.{member, gather, size_of}

-- how many matters desk d has open
unfoldable pub open_at : List ℕ → ℕ → ℕ → ℕ
open_at ds matters d = size_of (bit_and (get_or ds d 0) matters)

-- desk d is full: it has as many open as the limit allows
unfoldable pub is_full : ℕ → List ℕ → ℕ → ℕ → Bool
is_full limit ds matters d = leb limit (open_at ds matters d)

-- booking b is at desk d, which is full
unfoldable pub full_for : ℕ → List ℕ → ℕ → ℕ → ℕ → Bool
full_for limit ds matters b d = is_full limit ds matters d && member (get_or ds d 0) b

-- the desk of booking b is full
unfoldable pub desk_full : ℕ → List ℕ → ℕ → ℕ → Bool
desk_full limit ds matters b = any (full_for limit ds matters b) 8

-- the bookings whose desks are full
unfoldable pub full_of : ℕ → List ℕ → ℕ → ℕ
full_of limit ds matters = gather (desk_full limit ds matters) 64

-- desk d is not above the limit, and no desk is
unfoldable pub in_limit : ℕ → List ℕ → ℕ → ℕ → Bool
in_limit limit ds matters d = leb (open_at ds matters d) limit

unfoldable pub all_in_limit : ℕ → List ℕ → ℕ → Bool
all_in_limit limit ds matters = all (in_limit limit ds matters) 8
