-- Restart: the state that follows the whole lines of a journal, from the start. A tail shorter than six bytes is dropped.
-- Assumes nothing.
use Rattle.std.specs.Prelude.{Option, Some, None, Result, Ok, Err, ⊤, Bool, ◌&&◌, cond, List, ℕ, zero, suc, ◌+◌, ◌/◌, eqb, leb, length, take, drop}
use Rattle.event_lines.specs.Line.{line_of, is_order}
use Rattle.event_lines.specs.declared.Event.{Event}
use Rattle.network.specs.declared.Network.{Network}
use Rattle.run.specs.State.{start}
use Rattle.run.specs.Bytes.{bytes_of}
use Rattle.run.specs.Orders.{next}
use Rattle.run.specs.Replies.{misfits, Replied}
use Rattle.run.specs.declared.Run.{Run}
use Rattle.guarantee.specs.Answers.{pack, unsound}
use Rattle.guarantee.specs.Machine.{reply_to}
use Rattle.lent_state.specs.Due.{order_taken}
use Rattle.calls.specs.Calls.{network_in, sheet_passes, check_call}

-- a line is taken where it is the order that was due, or a reply that fits; and the state after it. A misformed one is not.
unfoldable pub line_taken : Network → Run → Option Event → Replied
line_taken g r (Some e) = cond (is_order e.letter) (order_taken (next g r) e.letter e.booking) (reply_to g r e.letter e.booking)
line_taken g r None = misfits r

-- a journal replayed: the number of its first wrong line, or 0, and the state after the lines before it
pub record Replayed : Type 0 where
  pub wrong : ℕ
  pub run : Run

-- so many lines, of which the first has number i: the number of the first wrong one, or 0, and the state after those before it
unfoldable pub replay_from : ℕ → ℕ → Network → Run → List ℕ → Replayed
replay_from zero i g r rest = record { wrong = 0; run = r }
replay_from (suc more) i g r rest =
    let t = line_taken g r (line_of (take 6 rest)) in
    cond t.taken (replay_from more (i + 1) g t.run (drop 6 rest)) (record { wrong = i; run = r })

-- the whole lines of a journal, from the start
unfoldable pub replay : Network → List ℕ → Replayed
replay g journal = replay_from (length journal / 6) 1 g start journal

-- what is told of it: the number of the first wrong line is an error
unfoldable pub wrong_line : ℕ → Result ⊤ ℕ
wrong_line zero = Ok tt
wrong_line (suc i) = Err (suc i)

-- refusal 12: its place is the line, 65,535 for any line beyond
unfoldable pub line_place : ℕ → ℕ
line_place i = cond (leb i 65535) i 65535

unfoldable pub replay_bits : ℕ → ℕ
replay_bits wrong = cond (eqb wrong 0) (pack 6 0 0) (pack 0 12 (line_place wrong))

-- restart: the sheet's refusals, 11 only where the state has not 65 bytes, then 12
unfoldable pub restart_call : List ℕ → List ℕ → List ℕ → ℕ
restart_call s journal bs =
    cond (sheet_passes s) (cond (eqb (length bs) 65) (replay_bits (replay (network_in s) journal).wrong) unsound) (check_call s)

-- it looks at no old byte of the state, only at how many there are; a refused call leaves them
unfoldable pub restarts : List ℕ → List ℕ → List ℕ → Bool
restarts s journal bs = sheet_passes s && (eqb (length bs) 65 && eqb (replay (network_in s) journal).wrong 0)

unfoldable pub restart_leaves : List ℕ → List ℕ → List ℕ → List ℕ
restart_leaves s journal bs = cond (restarts s journal bs) (bytes_of (replay (network_in s) journal).run) bs
