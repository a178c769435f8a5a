-- What is left of `calls::order_bits`.
-- Assumes nothing.
use mathlib.Core.Path.{◌≡◌, ap₂, ◌∙◌}
use Prim.Native.Nat.{◌+◌}
use native.Mathlib.Omega.{arith}
use Rattle.calls.specs.Calls.{order_place}
use Rattle.calls.proofs.Places.{kind-few, order-packed}
use Rattle.calls.proofs.order_bits.Goals.{After-order_way}
use Rattle.calls.proofs.order_bits.Goals as goal

-- the place
place : (c : After-order_way) → c.order_booking.result + c.order_way.result ≡ order_place c.args.o
unfolding order_place
place c = ap₂ ◌+◌ c.order_booking.ensures c.order_way.ensures

pub overflow_add-order_booking : goal.overflow_add-order_booking
overflow_add-order_booking c = omega (arith, place (goal.at.overflow_add-order_booking c).After-order_way, c.requires)

pub pack-requires : goal.pack-requires
pack-requires c = (rw c.order_kind.ensures (kind-few _), omega arith, rw (place (goal.at.pack-requires c).After-order_way) c.requires)

pub returns : goal.returns
returns c = c.pack.ensures ∙ rw (c.order_kind.ensures, place (goal.at.returns c).After-order_way) (order-packed _)
