-- What is left of `run::Run::next_order`.
-- Assumes nothing.
use Rattle.run.specs.Orders.{ordered}
use Rattle.run.proofs.Exits.{next-made, ordered-kept, request-small, return-small}
use Rattle.run.proofs.Run.next_order.Goals as goal

pub put-run-requires : goal.put-run-requires
put-run-requires c = request-small _ c.requires.0 _ _ _ c.in-Request.ensures

pub put-run-requires-in-Return : goal.put-run-requires-in-Return
put-run-requires-in-Return c = return-small _ c.requires.0 _ _ _ c.in-Return.ensures

pub returns-in-Request : goal.returns-in-Request
unfolding ordered
returns-in-Request c = rw c.put-run.ensures (next-made _ _ _ c.requires.2 _ c.in-Request.ensures)

pub returns-in-Return : goal.returns-in-Return
unfolding ordered
returns-in-Return c = rw c.put-run-in-Return.ensures (next-made _ _ _ c.requires.2 _ c.in-Return.ensures)

pub returns-in-Wait : goal.returns-in-Wait
returns-in-Wait c = rw (ordered-kept _ _ c.in-Wait.is) at (next-made _ c.args.self _ c.requires.2 _ c.due_order-order.ensures)
