-- What is left of `network::desks_of`.
-- Assumes nothing.
use mathlib.Core.Path.{◌≡◌, refl}
use native.Mathlib.Omega.{arith}
use lib.ListN.{length-set}
use Prim.Native.Nat.{◌<◌}
use Rattle.std.proofs.lemmas.List.{get_or-take}
use Rattle.bounded.proofs.Lists.{table_is}
use Rattle.network.specs.FromPlan.{desks_of}
use Rattle.network.proofs.Desks.{desk-none, desk-turn}
use Rattle.network.proofs.desks_of.Goals as goal

pub loop-b-init : goal.loop-b-init
loop-b-init c = (refl, desk-none _)

pub loop-b-preserved : goal.loop-b-preserved
loop-b-preserved c =
    let l = c.loop-b in
    let h : l.b < c.args.n = omega arith in
    (simp length-set l.invariant.0, rw (get_or-take c.args.n c.args.desk.now l.b 0 h) (desk-turn c.args.desk.now l.at l.b _ l.invariant.0 (c.requires.1.desk l.b h) c.bit.ensures l.invariant.1))

pub returns : goal.returns
unfolding desks_of
returns c = let e : c.loop-b.b ≡ c.args.n = omega arith in table_is _ 8 _ c.loop-b.invariant.0 (λ d h. rw e at (c.loop-b.invariant.1 d h))
