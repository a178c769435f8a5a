-- What comes of reading: the end of the input and a read that failed are told apart. That a count lies within the bytes, and what one read brings,
-- std's own words say.
-- Assumes nothing.
use Rattle.std.specs.Prelude.{ℕ, ◌<◌, List, length, take, Option, Result, Ok, Err, IfOk}
use Rattle.std.specs.Io.KnownBytes.{Consumes, IsAtEnd}
use Rattle.files.specs.declared.Told.{Told}
use Rattle.files.specs.declared.Unread.{Unread}

-- what came of a file that has to be there: a missing one is no empty one
abbrev pub needed_of : Result ℕ Unread → Result ℕ Told
needed_of (Ok n) = Ok n
needed_of (Err why) = Err (record {})

-- the bytes are what there was to read, in turn; where there is room for more, nothing is left
abbrev pub GotBytes : Result ℕ Told → Option (List ℕ) → Option (List ℕ) → List ℕ → Type 0
GotBytes got before after bytes = IfOk got (λ n. Consumes before after (take n bytes) × (n < length bytes → IsAtEnd after))
