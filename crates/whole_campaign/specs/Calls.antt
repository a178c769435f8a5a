-- The calls of a dispatcher after start: next order and reply, singly, or a block of replies. What each gives and leaves, on a sheet's bytes
-- and a state's bytes, and on the plain machine.
-- Assumes nothing.
use Rattle.std.specs.Prelude.{List, map, ℕ}
use Rattle.network.specs.declared.Network.{Network}
use Rattle.run.specs.declared.Run.{Run}
use Rattle.guarantee.specs.Machine.{Asked, answer, after}
use Rattle.calls.specs.Calls.{asked_call, asked_leaves}
use Rattle.block_calls.specs.Block.{lines_of, block_of, block_bits, block_call, block_leaves}

pub data Call : Type 0 where
  single : Asked → Call
  block : List ℕ → Call

-- a list without blocks
abbrev pub singles : List Asked → List Call
singles qs = map single qs

-- ---- by the contracts of the calls for C

unfoldable pub gives : List ℕ → List ℕ → Call → ℕ
gives s bs (single q) = asked_call s bs q
gives s bs (block lines) = block_call s lines bs

unfoldable pub leaves : List ℕ → List ℕ → Call → List ℕ
leaves s bs (single q) = asked_leaves s bs q
leaves s bs (block lines) = block_leaves s lines bs

-- ---- by the rules

unfoldable pub gives_by : Network → Run → Call → ℕ
gives_by g r (single q) = answer g r q
gives_by g r (block lines) = block_bits (block_of g r (lines_of lines))

unfoldable pub leaves_by : Network → Run → Call → Run
leaves_by g r (single q) = after g r q
leaves_by g r (block lines) = (block_of g r (lines_of lines)).run
