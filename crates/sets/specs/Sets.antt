-- A set of bookings as a number below 2 ^ 64: the booking at index i, which is booking number i + 1, is a member where bit i is set.
-- The laws are in proofs/.
-- Assumes nothing.
use Rattle.std.specs.Prelude.{Bool, true, not, ◌&&◌, ◌||◌, ℕ, zero, suc, ◌+◌, ◌*◌, ◌/◌, ◌%◌, ◌^◌, eqb}
use Rattle.bounded.specs.Bounded.{imp, one, all, first, count}

-- the set of i alone
abbrev pub alone : ℕ → ℕ
alone i = 2 ^ i

-- i is in the set s
unfoldable pub member : ℕ → ℕ → Bool
member s i = eqb (s / 2 ^ i % 2) 1

-- the set of the i below n that pass f
unfoldable pub gather : (ℕ → Bool) → ℕ → ℕ
gather f zero = zero
gather f (suc n) = one (f n) * 2 ^ n + gather f n

-- the set of all numbers below n
unfoldable pub always : ℕ → Bool
always i = true

unfoldable pub all_below : ℕ → ℕ
all_below n = gather always n

-- a set that is not empty
unfoldable pub some : ℕ → Bool
some s = not (eqb s 0)

-- the set s with i put in
unfoldable pub inserted : ℕ → ℕ → ℕ → Bool
inserted s i j = member s j || eqb j i

unfoldable pub insert : ℕ → ℕ → ℕ
insert s i = gather (inserted s i) 64

-- the members of a that are not in b
unfoldable pub only : ℕ → ℕ → ℕ → Bool
only a b i = member a i && not (member b i)

unfoldable pub without : ℕ → ℕ → ℕ
without a b = gather (only a b) 64

-- the members of s but the lowest
unfoldable pub but_lowest : ℕ → ℕ
but_lowest s = without s (alone (first (member s) 64))

-- every member of a is a member of b
unfoldable pub kept : ℕ → ℕ → ℕ → Bool
kept a b i = imp (member a i) (member b i)

unfoldable pub subset_of : ℕ → ℕ → Bool
subset_of a b = all (kept a b) 64

-- no member of a is a member of b
unfoldable pub apart : ℕ → ℕ → ℕ → Bool
apart a b i = not (member a i && member b i)

unfoldable pub disjoint_from : ℕ → ℕ → Bool
disjoint_from a b = all (apart a b) 64

-- how many members s has
unfoldable pub size_of : ℕ → ℕ
size_of s = count (member s) 64
