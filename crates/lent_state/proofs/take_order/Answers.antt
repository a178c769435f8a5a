-- What is left of `lent_state::take_order`.
-- Assumes nothing.
use mathlib.Core.Path.{◌≡◌, ◌∙◌}
use mathlib.Core.Logic.{◌≢◌}
use Prim.Native.Nat.{◌≤◌, ◌-◌}
use native.Mathlib.Omega.{arith}
use Rattle.run.specs.Bytes.{run_of}
use Rattle.lent_state.proofs.Bytes.{change}
use Rattle.lent_state.proofs.Due.{number-0-out, undue-out, due-booking, due-out}
use Rattle.lent_state.proofs.take_order.Goals.{In_ok-code}
use Rattle.lent_state.proofs.take_order.Goals as goal

-- the booking is one of the plan
known : (c : In_ok-code) → (c.args.event.booking ≢ 0) × (c.args.event.booking ≤ c.args.chart.now.network.n)
known c =
    due-booking c.args.chart.now.network c.args.state.now c.args.s c.requires.stands _ c.due_order-order.ensures c.args.event.letter c.args.event.booking _ c.code_due.ensures _ c.in_ok-code.was

-- the index is that of its number
indexed : (c : In_ok-code) → c.in_ok-index.index ≡ c.args.event.booking - 1
indexed c = let e = c.in_ok-index.ensures in omega arith

pub returns-in_err-index : goal.returns-in_err-index
returns-in_err-index c =
    let o = number-0-out c.args.chart.now.network c.args.state.now c.args.event.letter c.args.event.booking c.requires.size c.in_err-index.ensures in
    record { told = c.from_residual.ensures ∙ o.0; left = o.1 }

pub due_order-order-requires : goal.due_order-order-requires
unfolding run_of
due_order-order-requires c = (c.args.chart.now.few_bookings, c.requires.way, rw c.matters.ensures at c.full-full.ensures)

pub returns-in_err-code : goal.returns-in_err-code
returns-in_err-code c =
    let o = undue-out c.args.chart.now.network c.args.state.now c.args.s c.requires.stands _ c.due_order-order.ensures c.args.event.letter c.args.event.booking _ c.code_due.ensures c.requires.size c.in_err-code.was in
    record { told = c.from_residual-in_err-code.ensures ∙ o.0; left = o.1 }

pub bounds-state-event : goal.bounds-state-event
bounds-state-event c = omega (arith, (known (goal.at.bounds-state-event c).In_ok-code).1, c.args.chart.now.few_bookings, c.requires.size)

pub bit-requires : goal.bit-requires
bit-requires c = let b = known (goal.at.bit-requires c).In_ok-code in omega (arith, b.0, b.1, indexed (goal.at.bit-requires c).In_ok-code, c.args.chart.now.few_bookings)

pub returns : goal.returns
returns c =
    let b = known (goal.at.returns c).In_ok-code in
    let z = indexed (goal.at.returns c).In_ok-code in
    let o = due-out c.args.chart.now.network c.args.state.now c.args.s c.requires.stands _ c.due_order-order.ensures c.args.event.letter c.args.event.booking _ c.code_due.ensures _ c.in_ok-code.was _
    (change c.args.chart.now.network c.args.chart.now.few_bookings c.args.state.now c.requires.size c.args.s c.requires.stands c.args.event.booking b.0 b.1 _ _ (rw (c.bit.ensures, z) at c.moved.ensures)) in
    record { told = o.0; left = o.1 }
