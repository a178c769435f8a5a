-- The next order: the first of six rules that applies, and in it the lowest booking that is not passed over.
-- Assumes nothing.
use Rattle.std.specs.Prelude.{Bool, not, ◌&&◌, cond, ℕ, eqb, ltb}
use Rattle.std.specs.Int.Bits.{bit_and, bit_or}
use Rattle.bounded.specs.Bounded.{first}
use Rattle.sets.specs.Sets.{member, without, some}
use Rattle.desks.specs.Desks.{desk_full, full_of}
use Rattle.network.specs.Network.{way_of}
use Rattle.network.specs.declared.Network.{Network}
use Rattle.standing.specs.Standing.{requested, returning, matters}
use Rattle.standing.specs.Ways.{precedes_some, ready, lost_in}
use Rattle.standing.specs.declared.Standing.{Standing}
use Rattle.run.specs.State.{standing, here, put}
use Rattle.run.specs.declared.Run.{Run}
use Rattle.run.specs.declared.Ordered.{Ordered}
use Rattle.run.specs.declared.Order.{Order}
use Rattle.run.specs.declared.Order.TheVariants.{Request, Return, Wait, Flown, Off}

-- an order for b is passed over: its desk is full
unfoldable pub passed : Network → Standing → ℕ → Bool
passed g s b = desk_full g.limit g.desk (matters s) b

-- the bookings for which it is so, as one set
abbrev pub all_passed : Network → Standing → ℕ
all_passed g s = full_of g.limit g.desk (matters s)

-- rule 2: b is held, outside the current way, and precedes no held or returning booking
unfoldable pub may_return : Network → Standing → ℕ → ℕ → Bool
may_return g s way b = member (without s.held way) b && not (precedes_some g (bit_or s.held s.returning) b)

unfoldable pub to_return : Network → Standing → ℕ → ℕ → Bool
to_return g s way b = may_return g s way b && not (passed g s b)

-- rule 4: b is a free booking of the current way whose predecessors are all held
unfoldable pub may_request : Network → Standing → ℕ → ℕ → Bool
may_request g s way b = member (bit_and s.free way) b && ready g s b

unfoldable pub to_request : Network → Standing → ℕ → ℕ → Bool
to_request g s way b = may_request g s way b && not (passed g s b)

-- an order that changes nothing
abbrev pub unchanged : Order → Run → Ordered
unchanged o r = record { order = o; run = r }

-- rule 6: way 0 is called off, and any other is flown
unfoldable pub ending : ℕ → Order
ending w = cond (eqb w 0) Off (Flown w)

unfoldable pub next : Network → Run → Ordered
next g r =
    let s = standing g r in
    let x = first (to_return g s (here g r)) 64 in
    let y = first (to_request g s (here g r)) g.n in
    cond (lost_in s (here g r)) (unchanged Wait r)
    (cond (ltb x 64) (record { order = Return x; run = put r x returning })
    (cond (some s.returning) (unchanged Wait r)
    (cond (ltb y g.n) (record { order = Request y; run = put r y requested })
    (cond (some s.requested) (unchanged Wait r) (unchanged (ending r.way) r)))))

-- ---- the same by the sets alone

-- the order of the rules, where the bookings stand so and way w is current
unfoldable pub order_of : Network → Standing → ℕ → Order
order_of g s w =
    let x = first (to_return g s (way_of g w)) 64 in
    let y = first (to_request g s (way_of g w)) g.n in
    cond (lost_in s (way_of g w)) Wait
    (cond (ltb x 64) (Return x)
    (cond (some s.returning) Wait
    (cond (ltb y g.n) (Request y)
    (cond (some s.requested) Wait (ending w)))))

-- the state after an order: its booking, if it has one, gets a new code
unfoldable pub ordered : Run → Order → Run
ordered r (Request x) = put r x requested
ordered r (Return x) = put r x returning
ordered r Wait = r
ordered r (Flown w) = r
ordered r Off = r
