-- The journal: each request or return taken and each accepted reply has a line, its letter and its booking. Which line a call has,
-- which call a line is of, and what the call that writes a line gives and leaves.
-- Assumes nothing.
use Rattle.std.specs.Prelude.{Option, Some, None, Bool, ◌&&◌, ◌||◌, cond, List, [], ◌∷◌, ◌++◌, ℕ, zero, suc, ◌/◌, eqb, leb, length, take, drop}
use Rattle.std.proofs.lemmas.List.Edits.{sets}
use Rattle.event_lines.specs.Line.{Q, U, is_order, line_text, line_of}
use Rattle.event_lines.specs.declared.Event.{Event}
use Rattle.run.specs.Replies.{Y, N, G, K}
use Rattle.guarantee.specs.Answers.{pack, kind_of, place_of, place9}
use Rattle.guarantee.specs.Machine.{Asked, next_order, replied}
use Rattle.guarantee.specs.Counted.{accepts}

-- ---- from calls to lines

-- the line of a call and its answer: Q of a request, U of a return, the reply's letter of an accepted reply; nothing else has one
unfoldable pub entry_of : Asked → ℕ → List ℕ
entry_of next_order x = cond (eqb (kind_of x) 1) (line_text Q (place_of x)) (cond (eqb (kind_of x) 2) (line_text U (place_of x)) [])
entry_of (replied l b) x = cond (accepts x) (line_text l b) []

-- the journal of a list of calls and their answers: its lines stand as the calls were made
unfoldable pub journal_of : List Asked → List ℕ → List ℕ
journal_of [] xs = []
journal_of (q ∷ qs) [] = []
journal_of (q ∷ qs) (x ∷ xs) = entry_of q x ++ journal_of qs xs

-- ---- from lines to calls

-- the call that a line is of: next order, or a reply; what is no line is of none, and it does not matter which is named
unfoldable pub call_on : Option Event → Asked
call_on (Some e) = cond (is_order e.letter) next_order (replied e.letter e.booking)
call_on None = next_order

-- the calls of so many lines, and of all whole lines of a journal; fewer than six bytes at the end are none
unfoldable pub calls_from : ℕ → List ℕ → List Asked
calls_from zero rest = []
calls_from (suc more) rest = call_on (line_of (take 6 rest)) ∷ calls_from more (drop 6 rest)

unfoldable pub calls_of : List ℕ → List Asked
calls_of journal = calls_from (length journal / 6) journal

-- ---- the call that writes a line

-- the letters of orders and replies, and the numbers of bookings
unfoldable pub is_letter : ℕ → Bool
is_letter l = is_order l || (eqb l Y || (eqb l N || (eqb l G || eqb l K)))

unfoldable pub has_line : ℕ → ℕ → Bool
has_line l b = is_letter l && (leb 1 b && leb b 64)

-- refusal 9 as for a reply, then 10, or accepted with the line's length
unfoldable pub journal_line_call : ℕ → ℕ → ℕ → ℕ
journal_line_call l b size = cond (has_line l b) (cond (leb 6 size) (pack 6 0 6) (pack 0 10 0)) (pack 0 9 (place9 b))

-- the line stands at the front; later bytes, and all bytes where the call is refused, keep their values
unfoldable pub journal_line_leaves : ℕ → ℕ → List ℕ → List ℕ
journal_line_leaves l b d = cond (has_line l b && leb 6 (length d)) (sets d 0 (line_text l b)) d
