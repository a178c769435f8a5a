-- An event line: a letter, a number in four columns, a line feed. It is the line of an order or a reply in a journal, a reply of the
-- drill's input, and what the drill prints of an order or an end.
-- Six bytes are of this form if they are the text of the letter and the number that stand at their columns.
-- Assumes nothing.
use Rattle.std.specs.Prelude.{ℕ, zero, suc, List, [], ◌∷◌, ◌++◌, Bool, ◌||◌, cond, Option, Some, None, eqb, get_or, take, drop}
use Rattle.decimal.specs.Decimal.{columns, same_bytes, number_at}
use Rattle.event_lines.specs.declared.Event.{Event}

-- the letters of an order: request, return
abbrev pub Q : ℕ
Q = 81

abbrev pub U : ℕ
U = 85

unfoldable pub is_order : ℕ → Bool
is_order l = eqb l Q || eqb l U

unfoldable pub line_text : ℕ → ℕ → List ℕ
line_text letter x = letter ∷ (columns 4 x ++ (10 ∷ []))

unfoldable pub is_line : List ℕ → Bool
is_line line = same_bytes line (line_text (get_or line 0 0) (number_at 4 1 line))

-- the letter, whatever it is, and the number
unfoldable pub line_of : List ℕ → Option Event
line_of line = cond (is_line line) (Some (record { letter = get_or line 0 0; booking = number_at 4 1 line })) None

-- so many lines, one after the other
unfoldable pub lines_from : ℕ → List ℕ → List (Option Event)
lines_from zero rest = []
lines_from (suc more) rest = line_of (take 6 rest) ∷ lines_from more (drop 6 rest)
