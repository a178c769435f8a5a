-- What is left of `run::to_request`.
-- Assumes nothing.
use mathlib.Core.Path.{◌≡◌, sym, ◌∙◌}
use lib.Bits.{bit_and}
use Rattle.sets.specs.Sets.{without, all_below}
use Rattle.sets.proofs.Walk.{walk-on, walk_at, walk-found, walk-over}
use Rattle.bounded.proofs.Sought.{sought-is, sought-none}
use Rattle.run.proofs.Steps.{looked-e, looked-i}
use Rattle.run.proofs.to_request.Goals as goal

pub returns-then-subset : goal.returns-then-subset
returns-then-subset c =
    let t = c.in-Some.ensures.steps in
    let e : c.into_iter-b-iterator.result.rest ≡ without (bit_and (bit_and c.args.s.free c.args.way) (all_below c.args.g.now.n)) c.args.full = cc in
    let p = looked-e c.args.g.now c.requires.0 c.args.s c.args.way _ _ c.requires.1 e _ (walk_at _ _ _ _ t.lowest t.some c.loop-b.invariant) in
    sought-is _ _ _ (walk-found _ _ _ (looked-i c.args.g.now c.requires.0 c.args.s c.args.way _ _ c.requires.1 e)
    _ _ t.lowest p.0 (sym (c.subset.ensures ∙ p.1) ∙ c.if-subset.true) c.loop-b.invariant) p.0

pub loop-b-preserved : goal.loop-b-preserved
loop-b-preserved c =
    let t = c.in-Some.ensures.steps in
    let e : c.into_iter-b-iterator.result.rest ≡ without (bit_and (bit_and c.args.s.free c.args.way) (all_below c.args.g.now.n)) c.args.full = cc in
    let p = looked-e c.args.g.now c.requires.0 c.args.s c.args.way _ _ c.requires.1 e _ (walk_at _ _ _ _ t.lowest t.some c.loop-b.invariant) in
    walk-on _ _ _ _ _ t.lowest t.others (sym (c.subset.ensures ∙ p.1) ∙ c.if-subset.false) c.loop-b.invariant

pub returns : goal.returns
returns c =
    let e : c.into_iter-b-iterator.result.rest ≡ without (bit_and (bit_and c.args.s.free c.args.way) (all_below c.args.g.now.n)) c.args.full = cc in
    sought-none _ _ (walk-over _ _ _ (looked-i c.args.g.now c.requires.0 c.args.s c.args.way _ _ c.requires.1 e) _ c.in-None.ensures.steps.0 c.loop-b.invariant)
