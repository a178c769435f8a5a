-- The lines of a fixed width: how many bytes each has, and so where links and ways begin; and what these lines have in common: a letter in
-- front, a line feed at the end.
-- Assumes nothing.
use Rattle.std.specs.Prelude.{ℕ, ◌+◌, ◌*◌, ◌-◌, List, Bool, ◌&&◌, length, get_or, eqb}

-- the bytes of the head, of a booking's line and of a link's line, line feeds included
abbrev pub head_bytes : ℕ
head_bytes = 18

abbrev pub booking_bytes : ℕ
booking_bytes = 12

abbrev pub link_bytes : ℕ
link_bytes = 10

-- where the links begin after n bookings, and the ways after n bookings and m links; the bookings begin after the head
abbrev pub links_place : ℕ → ℕ
links_place n = head_bytes + booking_bytes * n

abbrev pub ways_place : ℕ → ℕ → ℕ
ways_place n m = links_place n + link_bytes * m

-- a line has w bytes, begins with a letter and ends in a line feed
unfoldable pub is_framed : ℕ → ℕ → List ℕ → Bool
is_framed letter w line = eqb (length line) w && (eqb (get_or line 0 0) letter && eqb (get_or line (w - 1) 0) 10)
