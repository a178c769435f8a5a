-- What the drill does to the state, whatever the input is: call after call on the sheet and on the state as the call before left it, each
-- the call that the last answer asks for.
-- Assumes nothing.
use Rattle.std.specs.Prelude.{ℕ, ◌≡◌, List, Option, Some, None}
use Rattle.guarantee.specs.Machine.{Asked, next_order, replied}
use Rattle.calls.specs.Calls.{start_call, start_leaves, asked_call, asked_leaves}
use Rattle.event_lines.specs.Line.{line_of}
use Rattle.drill_lines.specs.Steps.{step_of}
use Rattle.event_lines.specs.declared.Event.{Event}
use Rattle.drill_lines.specs.declared.Step.TheVariants.{TakeOrder, ReadReply}

-- a call on the sheet gives this answer and leaves this state
pub record Called (sheet state : List ℕ) (q : Asked) (bits : ℕ) (left : List ℕ) : Type 0 where
  pub answered : bits ≡ asked_call sheet state q
  pub leaves : left ≡ asked_leaves sheet state q

-- what comes of a reply, and the state after it; what is no reply changes nothing
abbrev pub heard_of : List ℕ → List ℕ → Option Event → Option ℕ
heard_of sheet state (Some reply) = Some (asked_call sheet state (replied reply.letter reply.booking))
heard_of sheet state None = None

abbrev pub heard_leaves : List ℕ → List ℕ → Option Event → List ℕ
heard_leaves sheet state (Some reply) = asked_leaves sheet state (replied reply.letter reply.booking)
heard_leaves sheet state None = state

-- some line was heard; it is empty where the input has ended or cannot be read
abbrev pub HeardAs : List ℕ → List ℕ → Option ℕ → List ℕ → Type 0
HeardAs sheet state heard left = (line : List ℕ) × (heard ≡ heard_of sheet state (line_of line)) × (left ≡ heard_leaves sheet state (line_of line))

-- from an answer and a state to a later answer and state: orders are taken while the answers ask for it, else a reply is handed on
pub data Drilled (sheet : List ℕ) (bits₀ : ℕ) (state₀ : List ℕ) : ℕ → List ℕ → Type 0 where
  begun : Drilled sheet bits₀ state₀ bits₀ state₀
  ordered : {bits next : ℕ} {state left : List ℕ} → Drilled sheet bits₀ state₀ bits state → step_of bits ≡ TakeOrder → Called sheet state next_order next left
      → Drilled sheet bits₀ state₀ next left
  heard : {bits next : ℕ} {state left : List ℕ} (letter booking : ℕ) → Drilled sheet bits₀ state₀ bits state → step_of bits ≡ ReadReply
      → Called sheet state (replied letter booking) next left → Drilled sheet bits₀ state₀ next left

-- so far, up to some answer
abbrev pub Played : List ℕ → ℕ → List ℕ → List ℕ → Type 0
Played sheet bits₀ state₀ state = (bits : ℕ) × Drilled sheet bits₀ state₀ bits state

-- from start's answer and the state as start left it
abbrev pub DrilledFromStart : List ℕ → List ℕ → List ℕ → Type 0
DrilledFromStart sheet lent state = Played sheet (start_call sheet lent) (start_leaves sheet lent) state
