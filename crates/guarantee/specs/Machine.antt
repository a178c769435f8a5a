-- The plain machine: the rules, begun at the start and fed with the network and a list of calls alone.
-- Assumes nothing.
use Rattle.std.specs.Prelude.{List, [], ◌∷◌, ℕ, zero, suc}
use Rattle.network.specs.declared.Network.{Network}
use Rattle.run.specs.Orders.{next}
use Rattle.run.specs.Replies.{reply, misfits, Replied}
use Rattle.run.specs.declared.Run.{Run}
use Rattle.guarantee.specs.Answers.{order_bits, reply_bits}

-- a call of next order, or of reply with a letter and a booking's number
pub data Asked : Type 0 where
  next_order : Asked
  replied : ℕ → ℕ → Asked

-- a reply by the booking's number: there is no booking 0
unfoldable pub reply_to : Network → Run → ℕ → ℕ → Replied
reply_to g r l zero = misfits r
reply_to g r l (suc b) = reply g r l b

-- the answer to a call, and the state after it
unfoldable pub answer : Network → Run → Asked → ℕ
answer g r next_order = order_bits (next g r).order
answer g r (replied l b) = reply_bits b (reply_to g r l b).taken

unfoldable pub after : Network → Run → Asked → Run
after g r next_order = (next g r).run
after g r (replied l b) = (reply_to g r l b).run

-- the answers to a list of calls, the states after each of them, and the last one
unfoldable pub machine_answers : Network → Run → List Asked → List ℕ
machine_answers g r [] = []
machine_answers g r (q ∷ qs) = answer g r q ∷ machine_answers g (after g r q) qs

unfoldable pub machine_states : Network → Run → List Asked → List Run
machine_states g r [] = []
machine_states g r (q ∷ qs) = after g r q ∷ machine_states g (after g r q) qs

unfoldable pub final : Network → Run → List Asked → Run
final g r [] = r
final g r (q ∷ qs) = final g (after g r q) qs
