-- The 32 bits that a call gives back: kind × 16,777,216 + refusal × 65,536 + place.
-- Kinds: 0 refused, 1 request, 2 return, 3 wait, 4 flown, 5 called off, 6 accepted.
-- Assumes nothing.
use Rattle.std.specs.Prelude.{Bool, cond, ℕ, suc, ◌+◌, ◌*◌, ◌/◌, ◌%◌, eqb, leb}
use Rattle.verdict.specs.Check.{Verdict, verdict_number, verdict_place}
use Rattle.run.specs.declared.Order.{Order}
use Rattle.run.specs.declared.Order.TheVariants.{Request, Return, Wait, Flown, Off}

unfoldable pub pack : ℕ → ℕ → ℕ → ℕ
pack kind refusal place = kind * 16777216 + refusal * 65536 + place

unfoldable pub kind_of : ℕ → ℕ
kind_of x = x / 16777216

unfoldable pub refusal_of : ℕ → ℕ
refusal_of x = x / 65536 % 256

unfoldable pub place_of : ℕ → ℕ
place_of x = x % 65536

-- the answer of next order: the place is the booking's number, the way for flown, else 0
unfoldable pub order_bits : Order → ℕ
order_bits (Request x) = pack 1 0 (suc x)
order_bits (Return x) = pack 2 0 (suc x)
order_bits Wait = pack 3 0 0
order_bits (Flown w) = pack 4 0 w
order_bits Off = pack 5 0 0

-- the place of refusal 9: the booking given, 0 if above 64
unfoldable pub place9 : ℕ → ℕ
place9 b = cond (leb b 64) b 0

-- the answer to a reply that names booking b: accepted, or refusal 9
unfoldable pub reply_bits : ℕ → Bool → ℕ
reply_bits b taken = cond taken (pack 6 0 b) (pack 0 9 (place9 b))

-- the answer of check: accepted, with place 0, or its refusal and place
unfoldable pub check_bits : Verdict → ℕ
check_bits v = cond (eqb (verdict_number v) 0) (pack 6 0 0) (pack 0 (verdict_number v) (verdict_place v))

-- refusal 11: the state is not sound
unfoldable pub unsound : ℕ
unsound = pack 0 11 0
