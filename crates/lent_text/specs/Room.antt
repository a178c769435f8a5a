-- A text that a call writes into a lent buffer: what it answers, and what it leaves there.
-- Assumes nothing.
use Rattle.std.specs.Prelude.{ℕ, cond, List, leb, length}
use Rattle.std.proofs.lemmas.List.Edits.{sets}
use Rattle.guarantee.specs.Answers.{pack}

-- accepted with the text's length, or refusal 10 where it has no room in so many bytes
unfoldable pub room_bits : List ℕ → ℕ → ℕ
room_bits text size = cond (leb (length text) size) (pack 6 0 (length text)) (pack 0 10 0)

-- the text stands at the front and later bytes keep their values; where it has no room, all bytes do
unfoldable pub room_leaves : List ℕ → List ℕ → List ℕ
room_leaves text d = cond (leb (length text) (length d)) (sets d 0 text) d
