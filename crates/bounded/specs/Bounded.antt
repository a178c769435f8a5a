-- Tests, searches, counts and sums over the numbers below a bound. Their laws are in proofs/.
-- Assumes nothing.
use Rattle.std.specs.Prelude.{Bool, true, false, cond, ◌&&◌, ◌||◌, List, [], ◌∷◌, ◌++◌, ℕ, zero, suc, ◌+◌, ltb, Option, Some, None}

-- b where a holds, true elsewhere
abbrev pub imp : Bool → Bool → Bool
imp true b = b
imp false b = true

-- 1 where a test holds, 0 elsewhere
abbrev pub one : Bool → ℕ
one true = 1
one false = 0

-- some i below n passes f
unfoldable pub any : (ℕ → Bool) → ℕ → Bool
any f zero = false
any f (suc n) = any f n || f n

-- every i below n passes f
unfoldable pub all : (ℕ → Bool) → ℕ → Bool
all f zero = true
all f (suc n) = all f n && f n

-- the least of i, i + 1, .. (d numbers) that passes f, or i + d where none does; the `let` stops the search at the first hit
unfoldable pub seek : (ℕ → Bool) → ℕ → ℕ → ℕ
seek f zero i = i
seek f (suc d) i = let r = seek f d (suc i) in cond (f i) i r

-- the least i below n that passes f, or n where none does
unfoldable pub first : (ℕ → Bool) → ℕ → ℕ
unfolding seek
first f n = seek f n 0

-- the same as an option, as a search gives it
abbrev pub sought : (ℕ → Bool) → ℕ → Option ℕ
sought f n = cond (ltb (first f n) n) (Some (first f n)) None

-- the sum of f i over the i below n
unfoldable pub sum : (ℕ → ℕ) → ℕ → ℕ
sum f zero = zero
sum f (suc n) = sum f n + f n

-- how many i below n pass f
unfoldable pub count : (ℕ → Bool) → ℕ → ℕ
count f zero = zero
count f (suc n) = count f n + one (f n)

-- the i below n that pass f, rising
unfoldable pub listed : (ℕ → Bool) → ℕ → List ℕ
listed f zero = []
listed f (suc n) = listed f n ++ cond (f n) (n ∷ []) []

-- f 0, f 1, .. f (n - 1)
unfoldable pub table : (ℕ → ℕ) → ℕ → List ℕ
table f zero = []
table f (suc n) = table f n ++ (f n ∷ [])
