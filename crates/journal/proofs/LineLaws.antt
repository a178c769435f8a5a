-- How many lines a journal has, and which of them are left past the first.
-- Assumes nothing.
use Rattle.std.proofs.Common.{◌≡◌, ℕ, zero, suc, ◌/◌, ◌≤◌, ◌<◌, List, [], ◌∷◌, length, take, drop, refl, ap, arith, length-drop}
use Rattle.event_lines.specs.Line.{line_of, lines_from}
use Rattle.std.specs.Prelude.{Option}
use Rattle.event_lines.specs.declared.Event.{Event}
use Rattle.journal.specs.Reading.{journal_lines, LineOut}

lines-length : (n : ℕ) (bytes : List ℕ) → length (lines_from n bytes) ≡ n
unfolding lines_from
lines-length zero bytes = refl
lines-length (suc n) bytes = ap suc (lines-length n (drop 6 bytes))

pub journal-length : (j : List ℕ) → length (journal_lines j) ≡ length j / 6
unfolding journal_lines
journal-length j = lines-length (length j / 6) j

pub lines_none : (j : List ℕ) → length j < 6 → journal_lines j ≡ []
unfolding journal_lines lines_from
lines_none j h = let z : length j / 6 ≡ 0 = omega arith in rw z

pub lines_more : (j : List ℕ) → 6 ≤ length j → journal_lines j ≡ line_of (take 6 j) ∷ journal_lines (drop 6 j)
unfolding journal_lines lines_from
lines_more j h = let z : length j / 6 ≡ suc (length (drop 6 j) / 6) = omega (arith, length-drop 6 j) in rw z

-- what a reader gives, in lines
pub line-first : (bytes rest : List ℕ) (line : Option Event) → LineOut bytes line rest → journal_lines bytes ≡ line ∷ journal_lines rest
line-first bytes rest line o = rw (o.read, o.behind) (lines_more bytes o.whole)

pub lines_fewer : (j rest : List ℕ) → 6 ≤ length j → rest ≡ drop 6 j → length (journal_lines rest) < length (journal_lines j)
lines_fewer j rest h e = rw (lines_more j h, e) (omega arith)
