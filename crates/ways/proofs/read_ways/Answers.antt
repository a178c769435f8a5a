-- What is left of `ways::read_ways`.
-- Assumes nothing.
use Rattle.std.proofs.Common.{◌≤◌, arith, rules, refl, sym}
use native.Mathlib.Nat.{sub-zero}
use Rattle.ways.specs.Ways.{no_ways}
use Rattle.ways.proofs.ReadLaws.{few-members, ways_on, ways-fault, ways-end}
use Rattle.ways.proofs.read_ways.Goals.{In-Ok}
use Rattle.ways.proofs.read_ways.Goals as goal

-- an accepted way has at most n bookings
few : (c : In-Ok) → c.in-Ok.k ≤ c.args.n
few c = few-members _ _ (c.in-Ok.k, c.in-Ok.x) (sym c.in-Ok.ensures)

pub loop-i-init : goal.loop-i-init
unfolding no_ways
loop-i-init c = (refl, search rules, simp sub-zero)

pub way_bytes-next-requires : goal.way_bytes-next-requires
way_bytes-next-requires c = omega (arith, few c)

pub overflow_add-next : goal.overflow_add-next
overflow_add-next c = omega (arith, few (goal.at.overflow_add-next c).In-Ok)

pub returns-in-Err : goal.returns-in-Err
returns-in-Err c = rw c.on.ensures (ways-fault _ _ _ _ _ _ _ _ c.loop-i-test.true c.loop-i.invariant.2 _ c.in-Err.ensures)

pub loop-i-preserved : goal.loop-i-preserved
loop-i-preserved c = (
  search rules,
  omega (arith, few (goal.at.loop-i-preserved c).In-Ok),
  ways_on _ _ _ _ _ _ _ _ c.loop-i-test.true c.loop-i.invariant.2 _ _ _ c.in-Ok.ensures c.way_bytes-next.ensures,
)

pub returns : goal.returns
returns c = ways-end _ _ _ _ _ _ _ _ c.loop-i-test.false c.loop-i.invariant.2
