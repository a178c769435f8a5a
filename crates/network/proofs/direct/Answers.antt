-- What is left of `network::direct`.
-- Assumes nothing.
use mathlib.Core.Path.{◌≡◌, refl}
use Prim.Native.Nat.{◌<◌, ◌-◌}
use native.Mathlib.Omega.{arith}
use lib.ListN.{get_or, length-set}
use Rattle.bounded.proofs.Lists.{table_is}
use Rattle.sets.proofs.Operations.{put_alone}
use Rattle.network.specs.FromPlan.{direct_of}
use Rattle.network.proofs.Links.{direct-none, direct-fits, direct-turn}
use Rattle.network.proofs.direct.Goals as goal

pub loop-i-init : goal.loop-i-init
loop-i-init c = (refl, direct-none _ _)

pub loop-i-preserved : goal.loop-i-preserved
loop-i-preserved c =
    let i = c.loop-i.i in
    let us = c.args.links.now.from in
    let vs = c.args.links.now.to in
    let on = c.loop-i.invariant in
    let h : i < c.args.m = omega arith in
    let f = c.requires.from i h in
    let t = c.requires.to i h in (
      simp length-set on.0,
      direct-turn us vs c.loop-i.d i _ on.0 f.0 t on.1
          (put_alone _ _ _ c.bit.ensures (omega arith) (rw (on.1 (get_or vs i 0 - 1) (omega arith)) (direct-fits us vs i _))),
    )

pub returns : goal.returns
unfolding direct_of
returns c = let e : c.loop-i.i ≡ c.args.m = omega arith in table_is _ 64 _ c.loop-i.invariant.0 (λ v h. rw e at (c.loop-i.invariant.1 v h))
