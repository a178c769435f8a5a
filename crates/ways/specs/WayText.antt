-- The text of a way: `A`, how many bookings it has, their numbers rising, a line feed; numbers in four columns.
-- Assumes nothing.
use Rattle.std.specs.Prelude.{List, [], ◌∷◌, ◌++◌, ℕ, zero, suc, ◌+◌, ◌*◌, get_or}
use Rattle.bounded.specs.Bounded.{listed, sum}
use Rattle.sets.specs.Sets.{member, size_of}
use Rattle.decimal.specs.Decimal.{columns}

-- the members of the set s, rising
unfoldable pub members : ℕ → List ℕ
members s = listed (member s) 64

-- the numbers of the bookings in a list
unfoldable pub numbers_text : List ℕ → List ℕ
numbers_text [] = []
numbers_text (b ∷ bs) = columns 4 (b + 1) ++ numbers_text bs

-- a way line has so many bytes in front of its numbers, its letter and its count; and so many in all, with k numbers and the line feed
abbrev pub way_front_bytes : ℕ
way_front_bytes = 5

abbrev pub way_bytes : ℕ → ℕ
way_bytes k = 6 + 4 * k

-- the letter, and how many bookings follow
unfoldable pub way_front : ℕ → List ℕ
way_front k = 65 ∷ columns 4 k

-- the line of the way with the set s
unfoldable pub way_text : ℕ → List ℕ
way_text s = way_front (size_of s) ++ (numbers_text (members s) ++ (10 ∷ []))

-- the lines of ways i + 1, i + 2, .., so many
unfoldable pub ways_text : ℕ → ℕ → List ℕ → List ℕ
ways_text zero i ws = []
ways_text (suc more) i ws = way_text (get_or ws i 0) ++ ways_text more (i + 1) ws

-- how many bookings way i + 1 has
unfoldable pub size_at : List ℕ → ℕ → ℕ
size_at ws i = size_of (get_or ws i 0)

-- how many bytes the line of way i + 1 has, and the lines of the first a ways
unfoldable pub bytes_at : List ℕ → ℕ → ℕ
bytes_at ws i = way_bytes (size_at ws i)

unfoldable pub ways_length : ℕ → List ℕ → ℕ
ways_length a ws = sum (bytes_at ws) a
