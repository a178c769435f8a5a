-- How the bookings of a plan stand: the names of the codes, and for each code the set of the bookings that have it.
-- Assumes nothing.
use Rattle.std.specs.Prelude.{Bool, cond, List, ℕ, eqb, get_or}
use Rattle.std.specs.Int.Bits.{bit_or}
use Rattle.sets.specs.Sets.{gather, without}
use Rattle.standing.specs.declared.Standing.{Standing}

-- ---- the codes

abbrev pub free : ℕ
free = 0

abbrev pub requested : ℕ
requested = 1

abbrev pub held : ℕ
held = 2

abbrev pub lost : ℕ
lost = 3

abbrev pub returning : ℕ
returning = 4

-- ---- the sets

-- booking b has code c
unfoldable pub code_is : List ℕ → ℕ → ℕ → Bool
code_is codes c b = eqb (get_or codes b 0) c

-- the bookings below n that have code c
unfoldable pub coded : List ℕ → ℕ → ℕ → ℕ
coded codes n c = gather (code_is codes c) n

-- how the bookings below n stand
abbrev pub standing_of : List ℕ → ℕ → Standing
standing_of codes n = record {
  free = coded codes n free;
  requested = coded codes n requested;
  held = coded codes n held;
  lost = coded codes n lost;
  returning = coded codes n returning;
}

-- a matter is a requested or returning booking
unfoldable pub matters : Standing → ℕ
matters s = bit_or s.requested s.returning

-- ---- one booking gets another code

-- the set s with the set b put in, or taken out
unfoldable pub placed : Bool → ℕ → ℕ → ℕ
placed here s b = cond here (bit_or s b) (without s b)

-- the bookings b get code c: they are in its set, and in no other
abbrev pub moved : Standing → ℕ → ℕ → Standing
moved s b c = record {
  free = placed (eqb c free) s.free b;
  requested = placed (eqb c requested) s.requested b;
  held = placed (eqb c held) s.held b;
  lost = placed (eqb c lost) s.lost b;
  returning = placed (eqb c returning) s.returning b;
}
