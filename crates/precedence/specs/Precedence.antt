-- Precedence among the 64 bookings. A list of 64 sets holds at index v the bookings that come directly before v.
-- "u precedes v" means by one link or a chain of links; `closure_of` computes the sets of all that precede, and proofs/Chains.antt
-- has the theorem that it does.
-- Assumes nothing.
use Rattle.std.specs.Prelude.{◌≡◌, Bool, true, cond, List, ℕ, zero, suc, ◌+◌, ◌≤◌, ◌<◌, get_or}
use Rattle.std.specs.Int.Bits.{bit_or}
use Rattle.bounded.specs.Bounded.{table}
use Rattle.sets.specs.Sets.{member}

-- u is in the set at v
unfoldable pub in_set : List ℕ → ℕ → ℕ → Bool
in_set d u v = member (get_or d v 0) u

-- by one link, or by a link and then a chain of links
pub data Precedes (d : List ℕ) : ℕ → ℕ → Type 0 where
  link : {u v : ℕ} → v < 64 → in_set d u v ≡ true → Precedes d u v
  chain : {u w v : ℕ} → w < 64 → in_set d u w ≡ true → Precedes d w v → Precedes d u v

-- the set s, with all that comes before k where k is in s
unfoldable pub joined_of : ℕ → ℕ → ℕ → ℕ
joined_of s via k = cond (member s k) (bit_or s via) s

-- each set, with the chains through k
unfoldable pub through_at : List ℕ → ℕ → ℕ → ℕ
through_at p k v = joined_of (get_or p v 0) (get_or p k 0) k

unfoldable pub through_of : List ℕ → ℕ → List ℕ
through_of p k = table (through_at p k) 64

-- the set s, with the chains through the four from k on, whose sets are a, b, c and d
unfoldable pub joined_four : ℕ → ℕ → ℕ → ℕ → ℕ → ℕ → ℕ
joined_four s a b c d k = joined_of (joined_of (joined_of (joined_of s a k) b (k + 1)) c (k + 2)) d (k + 3)

-- each set, with the chains through the four from k on
unfoldable pub four_of : List ℕ → ℕ → List ℕ
four_of p k = through_of (through_of (through_of (through_of p k) (k + 1)) (k + 2)) (k + 3)

-- with the chains through 0, 1, .. k - 1
unfoldable pub closure_to : List ℕ → ℕ → List ℕ
closure_to d zero = d
closure_to d (suc k) = through_of (closure_to d k) k

-- with the chains through every booking
unfoldable pub closure_of : List ℕ → List ℕ
closure_of d = closure_to d 64

-- the sets from n on are empty
unfoldable pub EmptyFrom : ℕ → List ℕ → Type 0
EmptyFrom n p = (v : ℕ) → n ≤ v → get_or p v 0 ≡ 0
