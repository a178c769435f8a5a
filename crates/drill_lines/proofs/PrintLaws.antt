-- How long a printed line is.
-- Assumes nothing.
use Rattle.std.proofs.Common.{◌≡◌, refl, ℕ, ◌≤◌, List, length, take, arith}
use Rattle.std.proofs.lemmas.List.Edits.{sets}
use Rattle.decimal.specs.Decimal.{columns, columns_to}
use Rattle.decimal.proofs.Stores.{sets-counted}
use Rattle.event_lines.specs.Line.{Q, U}
use Rattle.event_lines.proofs.LineLaws.{line-length}
use Rattle.guarantee.specs.Answers.{kind_of, place_of}
use Rattle.drill_lines.specs.Printed.{answer_of, refusal_of, refusal_text, text_of, printed_text}
use Rattle.drill_lines.specs.declared.Answer.{Answer}
use Rattle.drill_lines.specs.declared.Answer.TheVariants.{Refused, Request, Return, Wait, Flown, CalledOff, Accepted}

-- ---- lengths

pub refusal-length : (refusal place : ℕ) → length (refusal_text refusal place) ≡ 12
unfolding refusal_text columns columns_to
refusal-length refusal place = refl

-- twelve bytes are room enough
text-length : (answer : Answer) (refusal place : ℕ) → length (text_of answer refusal place) ≤ 12
text-length Refused refusal place = omega (arith, refusal-length refusal place)
text-length Request refusal place = omega (arith, line-length Q place)
text-length Return refusal place = omega (arith, line-length U place)
text-length Wait refusal place = omega (arith, line-length 87 place)
text-length Flown refusal place = omega (arith, line-length 69 place)
text-length CalledOff refusal place = omega (arith, line-length 79 place)
text-length Accepted refusal place = omega arith

pub printed-length : (bits : ℕ) → length (printed_text bits) ≤ 12
unfolding printed_text
printed-length bits = text-length (answer_of (kind_of bits)) (refusal_of bits) (place_of bits)

-- ---- so much of a buffer is printed

pub answer-counts : (d b : List ℕ) (n bits : ℕ) → 12 ≡ length d → n ≡ length (printed_text bits) → b ≡ sets d 0 (printed_text bits)
    → (n ≤ length b) × (n ≡ length (take n b))
answer-counts d b n bits h = sets-counted d b (printed_text bits) n (omega (arith, printed-length bits))

pub refusal-counts : (d b : List ℕ) (n refusal place : ℕ) → 12 ≡ length d → n ≡ length (refusal_text refusal place) → b ≡ sets d 0 (refusal_text refusal place)
    → (n ≤ length b) × (n ≡ length (take n b))
refusal-counts d b n refusal place h = sets-counted d b (refusal_text refusal place) n (omega (arith, refusal-length refusal place))
