-- Whole lines taken one after the other, up to the first bad one: replies alone, as in a block, or orders too, as in a journal.
-- Assumes nothing.
use Rattle.std.specs.Prelude.{Bool, ◌&&◌, cond, List, [], ◌∷◌, ℕ, ◌+◌, Option, Some, None, Result, Ok, Err}
use Rattle.event_lines.specs.Line.{is_order}
use Rattle.event_lines.specs.declared.Event.{Event}
use Rattle.journal.specs.Reading.{journal_lines}
use Rattle.network.specs.declared.Network.{Network}
use Rattle.standing.specs.declared.Standing.{Standing}
use Rattle.run.specs.Replies.{misfits, Replied}
use Rattle.run.specs.State.{standing}
use Rattle.run.specs.declared.Run.{Run}
use Rattle.guarantee.specs.Machine.{reply_to}
use Rattle.lent_state.specs.Due.{order_line}
use Rattle.lent_state.specs.declared.LineFault.{LineFault}
use Rattle.lent_state.specs.declared.LineFault.TheVariants.{Misformed, Unfit}

-- one line: a reply or, where orders are taken too and it has an order's letter, the order that is due; a misformed one is not taken
unfoldable pub line_by : Bool → Network → Run → Option Event → Replied
line_by orders g r (Some e) = cond (orders && is_order e.letter) (order_line g r e.letter e.booking) (reply_to g r e.letter e.booking)
line_by orders g r None = misfits r

-- what is wrong with a line that is not taken
unfoldable pub line_fault : Option Event → LineFault
line_fault (Some e) = Unfit
line_fault None = Misformed

-- the number of its refusal
unfoldable pub fault_number : LineFault → ℕ
fault_number Misformed = 1
fault_number Unfit = 9

-- and of what may be wrong: 0 where nothing is
unfoldable pub number_of : Option LineFault → ℕ
number_of None = 0
number_of (Some f) = fault_number f

-- what is told of a line: how the bookings stand after it where it is taken, and else what is wrong with it
unfoldable pub line_told : Bool → Network → Run → Option Event → Result Standing LineFault
line_told orders g r line = let t = line_by orders g r line in cond t.taken (Ok (standing g t.run)) (Err (line_fault line))

-- lines taken: how many are kept, what is wrong with the next one, if one is left, and the state after the kept ones
pub record Lines : Type 0 where
  pub kept : ℕ
  pub fault : Option LineFault
  pub run : Run

-- these lines, with k kept before them
unfoldable pub taken_from : Bool → ℕ → Network → Run → List (Option Event) → Lines
taken_from orders k g r [] = record { kept = k; fault = None; run = r }
taken_from orders k g r (line ∷ rest) =
    let t = line_by orders g r line in
    cond t.taken (taken_from orders (k + 1) g t.run rest) (record { kept = k; fault = Some (line_fault line); run = r })

-- the whole lines of some bytes
unfoldable pub taken_of : Bool → Network → Run → List ℕ → Lines
taken_of orders g r bytes = taken_from orders 0 g r (journal_lines bytes)
