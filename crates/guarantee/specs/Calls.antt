-- The calls of the dispatcher on the state's bytes, for a sheet that passes. Each call gets the bytes that the one before left.
-- Assumes nothing.
use Rattle.std.specs.Prelude.{cond, List, [], ◌∷◌, ℕ}
use Rattle.network.specs.declared.Network.{Network}
use Rattle.run.specs.State.{start}
use Rattle.run.specs.Bytes.{bytes_of, run_of, sound_bytes}
use Rattle.guarantee.specs.Answers.{unsound}
use Rattle.guarantee.specs.Machine.{Asked, next_order, answer, after}

-- what a call gives: refusal 11 where the bytes are no sound state, and else what the rules say
unfoldable pub call_bits : Network → List ℕ → Asked → ℕ
call_bits g bs q = cond (sound_bytes g bs) (answer g (run_of bs) q) unsound

-- the bytes after a call: a refused one leaves them
unfoldable pub call_bytes : Network → List ℕ → Asked → List ℕ
call_bytes g bs q = cond (sound_bytes g bs) (bytes_of (after g (run_of bs) q)) bs

-- the answers to a list of calls, the bytes after each of them, and the last ones
unfoldable pub answers : Network → List ℕ → List Asked → List ℕ
answers g bs [] = []
answers g bs (q ∷ qs) = call_bits g bs q ∷ answers g (call_bytes g bs q) qs

unfoldable pub states : Network → List ℕ → List Asked → List (List ℕ)
states g bs [] = []
states g bs (q ∷ qs) = call_bytes g bs q ∷ states g (call_bytes g bs q) qs

unfoldable pub left : Network → List ℕ → List Asked → List ℕ
left g bs [] = bs
left g bs (q ∷ qs) = left g (call_bytes g bs q) qs

-- from the start: the answers to a list of calls, and what next order answers after it
unfoldable pub answers_to : Network → List Asked → List ℕ
answers_to g qs = answers g (bytes_of start) qs

unfoldable pub order_after : Network → List Asked → ℕ
order_after g qs = call_bits g (left g (bytes_of start) qs) next_order
