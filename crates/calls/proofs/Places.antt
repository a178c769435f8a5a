-- What next order answers: its kind and its place are those of the rules, and the place fits the 16 bits that it has, since it is a booking or a way of one byte.
-- Assumes nothing.
use mathlib.Core.Path.{◌≡◌, ap}
use Prim.Native.Nat.{◌≤◌, ◌<◌}
use native.Mathlib.Omega.{arith}
use Rattle.network.specs.declared.Network.{Network}
use Rattle.run.specs.declared.Run.{Run}
use Rattle.run.specs.declared.Ordered.{Ordered}
use Rattle.run.specs.Orders.{next}
use Rattle.run.proofs.Cases.{NextCase, blocked, gives, busy, asks, pends, over, flies, next-case, return-facts, request-facts}
use Rattle.run.specs.declared.Order.{Order}
use Rattle.run.specs.declared.Order.TheVariants.{Request, Return, Wait, Flown, Off}
use Rattle.guarantee.specs.Answers.{pack, order_bits}
use Rattle.calls.specs.Calls.{order_kind, order_booking, order_way, order_place}

module _ (g : Network) (r : Run) (few : g.n ≤ 64) (way : r.way < 256) where
  order-at : {t : Ordered} → NextCase g r t → order_place t.order < 65536
  unfolding order_place order_booking order_way
  order-at (gives x u e) = omega (arith, (return-facts g r x e).booking)
  order-at (asks x i e) = omega (arith, (request-facts g r x e).booking)
  order-at (blocked e) = omega arith
  order-at (busy e) = omega arith
  order-at (pends e) = omega arith
  order-at (over d e) = omega arith
  order-at (flies d e) = omega arith

  pub order_small : order_place (next g r).order < 65536
  order_small = order-at (next-case g r)

pub kind-few : (o : Order) → order_kind o ≤ 6
unfolding order_kind
kind-few (Request x) = omega arith
kind-few (Return x) = omega arith
kind-few Wait = omega arith
kind-few (Flown w) = omega arith
kind-few Off = omega arith

pub order-packed : (o : Order) → pack (order_kind o) 0 (order_place o) ≡ order_bits o
unfolding order_bits order_kind order_place order_booking order_way
order-packed (Request x) = ap (pack 1 0) (omega arith)
order-packed (Return x) = ap (pack 2 0) (omega arith)
order-packed Wait = ap (pack 3 0) (omega arith)
order-packed (Flown w) = ap (pack 4 0) (omega arith)
order-packed Off = ap (pack 5 0) (omega arith)
