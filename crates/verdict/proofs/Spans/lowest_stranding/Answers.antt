-- What is left of `verdict::Spans::lowest_stranding`.
-- Assumes nothing.
use Rattle.std.proofs.Common.{◌≡◌, ◌∙◌, refl, sym, true}
use Prim.Native.Nat.{suc, ◌<◌}
use Rattle.sets.proofs.Walk.{walk-on, walk_at, walk-found, walk-over}
use Rattle.network.specs.Network.{in_way, exposed}
use Rattle.verdict.proofs.Exits.{tried-e, tried-i}
use Rattle.bounded.proofs.Sought.{sought-is, sought-none}
use Rattle.verdict.proofs.Spans.lowest_stranding.Goals.{In-Some}
use Rattle.verdict.proofs.Spans.lowest_stranding.Goals as goal

-- the booking that is tried
tried : (c : goal.In-Some) → let g = c.args.chart.now.network in let x = c.in-Some.x in
    (x < g.n) × (exposed g x ≡ true) × (in_way g (suc c.args.k) x ≡ true)
tried c =
    let s = c.in-Some.ensures.steps in
    tried-e c.args.chart.now.network _ _ _ refl refl _ (walk_at _ _ _ _ s.lowest s.some c.loop-x.invariant)

pub is_stranding-requires : goal.is_stranding-requires
is_stranding-requires c = let t = tried (goal.at.is_stranding-requires c).In-Some in (c.requires.0, c.requires.1, t.0, t.1, t.2)

pub returns-then-is_stranding : goal.returns-then-is_stranding
returns-then-is_stranding c =
    let g = c.args.chart.now.network in
    let s = c.in-Some.ensures.steps in
    let t = tried (goal.at.returns-then-is_stranding c).In-Some in
    sought-is _ _ _ (walk-found _ _ g.n (tried-i g _ _ _ refl refl) _ _ s.lowest t.0 (sym c.is_stranding.ensures ∙ c.if-is_stranding.true) c.loop-x.invariant) t.0

pub loop-x-preserved : goal.loop-x-preserved
loop-x-preserved c =
    let s = c.in-Some.ensures.steps in
    walk-on _ _ _ _ _ s.lowest s.others (sym c.is_stranding.ensures ∙ c.if-is_stranding.false) c.loop-x.invariant

pub returns : goal.returns
returns c =
    let g = c.args.chart.now.network in
    sought-none _ _ (walk-over _ _ g.n (tried-i g _ _ _ refl refl) _ c.in-None.ensures.steps.0 c.loop-x.invariant)
