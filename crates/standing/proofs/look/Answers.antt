-- What is left of `standing::look`.
-- Assumes nothing.
use mathlib.Core.Path.{refl, ap}
use Rattle.sets.specs.Sets.{gather}
use Rattle.standing.specs.Standing.{free, requested, held, lost, returning, coded}
use Rattle.standing.specs.declared.Standing.{Standing}
use Rattle.standing.proofs.Codes.{next-is}
use Rattle.standing.proofs.look.Goals as goal

pub loop-i-init : goal.loop-i-init
unfolding coded gather
loop-i-init c = refl

pub loop-i-preserved : goal.loop-i-preserved
loop-i-preserved c =
    let i = c.loop-i in
    let b = c.bit-b.ensures in
    let on = i.invariant in
    rw (
      next-is _ free i.i _ _ _ b (ap (λ (s : Standing). s.free) on) c.joined.ensures,
      next-is _ requested i.i _ _ _ b (ap (λ (s : Standing). s.requested) on) c.joined-in-loop-i.ensures,
      next-is _ held i.i _ _ _ b (ap (λ (s : Standing). s.held) on) c.joined-in-loop-i-2.ensures,
      next-is _ lost i.i _ _ _ b (ap (λ (s : Standing). s.lost) on) c.joined-in-loop-i-3.ensures,
      next-is _ returning i.i _ _ _ b (ap (λ (s : Standing). s.returning) on) c.joined-in-loop-i-4.ensures,
    )
