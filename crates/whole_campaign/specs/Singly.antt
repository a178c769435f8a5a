-- A list of calls with each block as the replies that it keeps, given singly: told from the calls and their answers alone, for a sheet that
-- passes and a state that is sound.
-- Assumes nothing.
use Rattle.std.specs.Prelude.{cond, List, [], ◌∷◌, ◌++◌, map, ℕ, ◌-◌}
use Rattle.guarantee.specs.Answers.{pack, place_of}
use Rattle.guarantee.specs.Machine.{Asked, next_order, replied}
use Rattle.guarantee.specs.Counted.{accepts}
use Rattle.journal_calls.specs.Journal.{calls_from}
use Rattle.whole_campaign.specs.Calls.{Call, single, block}
use Rattle.whole_campaign.specs.Lists.{answers_on}

-- how many replies a block keeps, by its answer: the number taken, or the lines before the bad one
unfoldable pub kept_by : ℕ → ℕ
kept_by x = cond (accepts x) (place_of x) (place_of x - 1)

-- a call and its answer as single calls: a block is its first lines, as many as it keeps
unfoldable pub calls_in : Call → ℕ → List Asked
calls_in (single q) x = q ∷ []
calls_in (block lines) x = calls_from (kept_by x) lines

-- the answer to a reply that is kept; no line of an order is, and it does not matter what is named there
unfoldable pub kept_as : Asked → ℕ
kept_as next_order = 0
kept_as (replied l b) = pack 6 0 b

-- their answers
unfoldable pub answers_in : Call → ℕ → List ℕ
answers_in (single q) x = x ∷ []
answers_in (block lines) x = map kept_as (calls_from (kept_by x) lines)

-- a list of calls with its answers as single calls, and their answers
unfoldable pub singly : List Call → List ℕ → List Asked
singly [] xs = []
singly (c ∷ cs) [] = []
singly (c ∷ cs) (x ∷ xs) = calls_in c x ++ singly cs xs

unfoldable pub singly_told : List Call → List ℕ → List ℕ
singly_told [] xs = []
singly_told (c ∷ cs) [] = []
singly_told (c ∷ cs) (x ∷ xs) = answers_in c x ++ singly_told cs xs

-- the same on a sheet's and a state's bytes
unfoldable pub singly_on : List ℕ → List ℕ → List Call → List Asked
singly_on s bs cs = singly cs (answers_on s bs cs)

unfoldable pub told_on : List ℕ → List ℕ → List Call → List ℕ
told_on s bs cs = singly_told cs (answers_on s bs cs)
