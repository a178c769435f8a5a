-- What is left of `verdict::is_unclosed`.
-- Assumes nothing.
use Rattle.std.proofs.Common.{rules, refl, ◌≡◌, ◌∙◌, ap, sym, true}
use mathlib.Core.Bool.{not}
use Prim.Native.Nat.{◌<◌}
use lib.ListN.{get_or}
use lib.Bits.{bit_and}
use Rattle.bounded.proofs.Tests.{any-i}
use Rattle.sets.specs.Sets.{member, all_below}
use Rattle.sets.proofs.Whole.{cut_fits, cut-e}
use Rattle.sets.proofs.Walk.{walk_none, walk-on, walk_at, walk-past}
use Rattle.verdict.proofs.Parts.{gap-inside, gap-on, unclosed-is}
use Rattle.verdict.proofs.is_unclosed.Goals.{In-Some}
use Rattle.verdict.proofs.is_unclosed.Goals as goal

-- the booking that is looked at
looked : (c : goal.In-Some) → let g = c.args.chart.now.network in let v = c.in-Some.v in (v < g.n) × (member (get_or g.way c.args.k 0) v ≡ true)
looked c =
    let s = c.in-Some.ensures.steps in
    let g = c.args.chart.now.network in
    cut-e _ _ g.n refl _ (walk_at _ _ _ _ s.lowest s.some c.loop-v.invariant)

pub loop-v-init : goal.loop-v-init
loop-v-init c =
    let g = c.args.chart.now.network in
    let e : c.into_iter-v-iterator.result.rest ≡ bit_and (get_or g.way c.args.k 0) (all_below g.n) = cc in
    rw e (walk_none _ _ (cut_fits (get_or g.way c.args.k 0) _ g.n refl (search rules)))

pub returns-then-not-subset : goal.returns-then-not-subset
returns-then-not-subset c =
    let g = c.args.chart.now.network in
    let t = looked (goal.at.returns-then-not-subset c).In-Some in
    sym (any-i _ _ _ t.0 (sym (gap-on g.before (get_or g.way c.args.k 0) _ t.1 _ c.subset.ensures) ∙ ap not c.if-not-subset.true)) ∙ unclosed-is g _ _ c.args.k refl refl

pub loop-v-preserved : goal.loop-v-preserved
loop-v-preserved c =
    let s = c.in-Some.ensures.steps in
    walk-on _ _ _ _ _ s.lowest s.others (sym (gap-on _ _ _ (looked (goal.at.loop-v-preserved c).In-Some).1 _ c.subset.ensures) ∙ ap not c.if-not-subset.false) c.loop-v.invariant

pub returns : goal.returns
returns c =
    let g = c.args.chart.now.network in
    walk-past _ _ g.n (gap-inside g.before _ _ g.n refl) _ c.in-None.ensures.steps.0 c.loop-v.invariant ∙ unclosed-is g _ _ c.args.k refl refl
