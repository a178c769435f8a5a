-- What the drill prints of an answer in 32 bits: `Q` request, `U` return, `W` wait, `E` flown, `O` called off, each with a booking,
-- a way or 0 in four columns; `X` with the refusal in four columns and the place in six. Each line ends in a line feed.
-- Assumes nothing.
use Rattle.std.specs.Prelude.{ℕ, zero, suc, ◌/◌, ◌%◌, List, [], ◌∷◌, ◌++◌, Option, Some, None}
use Rattle.decimal.specs.Decimal.{columns}
use Rattle.event_lines.specs.Line.{Q, U, line_text}
use Rattle.guarantee.specs.Answers.{kind_of, place_of}
use Rattle.drill_lines.specs.declared.Answer.{Answer}
use Rattle.drill_lines.specs.declared.Answer.TheVariants.{Refused, Request, Return, Wait, Flown, CalledOff, Accepted}

-- the kinds 0 to 5, and an accepted call
unfoldable pub answer_of : ℕ → Answer
answer_of zero = Refused
answer_of (suc zero) = Request
answer_of (suc (suc zero)) = Return
answer_of (suc (suc (suc zero))) = Wait
answer_of (suc (suc (suc (suc zero)))) = Flown
answer_of (suc (suc (suc (suc (suc zero))))) = CalledOff
answer_of (suc (suc (suc (suc (suc (suc k)))))) = Accepted

-- the refusal's number, between the kind and the place
unfoldable pub refusal_of : ℕ → ℕ
refusal_of bits = bits / 65536 % 256

-- the letter that a line begins with; an accepted call has no line
abbrev pub letter_of : Answer → Option ℕ
letter_of Refused = Some 88
letter_of Request = Some Q
letter_of Return = Some U
letter_of Wait = Some 87
letter_of Flown = Some 69
letter_of CalledOff = Some 79
letter_of Accepted = None

-- a refusal and its place
unfoldable pub refusal_text : ℕ → ℕ → List ℕ
refusal_text refusal place = 88 ∷ (columns 4 refusal ++ (columns 6 place ++ (10 ∷ [])))

-- a line, if there is a letter for it
abbrev pub line_if : Option ℕ → ℕ → List ℕ
line_if None place = []
line_if (Some letter) place = line_text letter place

abbrev pub text_of : Answer → ℕ → ℕ → List ℕ
text_of Refused refusal place = refusal_text refusal place
text_of answer refusal place = line_if (letter_of answer) place

-- what is printed of an answer; nothing of kind 6, an accepted call
unfoldable pub printed_text : ℕ → List ℕ
printed_text bits = text_of (answer_of (kind_of bits)) (refusal_of bits) (place_of bits)
