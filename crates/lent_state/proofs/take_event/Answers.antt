-- What is left of `lent_state::take_event`.
-- Assumes nothing.
use mathlib.Core.Path.{sym, ◌∙◌}
use Rattle.lent_state.specs.Lines.{line_by}
use Rattle.lent_state.proofs.take_event.Goals.{else-orders-via-then-orders+else-is_order, else-orders-via-else-orders}
use Rattle.lent_state.proofs.take_event.Goals as goal

pub returns-then-is_order : goal.returns-then-is_order
unfolding line_by
returns-then-is_order c = rw (c.if-orders.true, sym c.is_order.ensures ∙ c.if-is_order.true) (record { told = c.take_order.ensures.told; left = c.take_order.ensures.left })

pub returns-else-orders : goal.returns-else-orders
unfolding line_by
returns-else-orders c = elim c.else-orders.branch [
  | else-orders-via-then-orders+else-is_order w ↦ rw (w.if-orders.true, sym w.is_order.ensures ∙ w.if-is_order.false) (record { told = c.take_reply.ensures.told; left = c.take_reply.ensures.left })
  | else-orders-via-else-orders w ↦ rw w.if-orders.false (record { told = c.take_reply.ensures.told; left = c.take_reply.ensures.left })
]
