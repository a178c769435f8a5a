-- What is left of `verdict::first_stranding`.
-- Assumes nothing.
use native.Mathlib.Nat.{le_refl}
use native.Mathlib.Omega.{arith}
use Rattle.bounded.proofs.Loops.{so_far_more}
use Rattle.verdict.proofs.Exits.{nothing-firm, none-strand, one-strands, no-strand}
use Rattle.verdict.proofs.first_stranding.Goals as goal

pub returns-then-chart-eq0 : goal.returns-then-chart-eq0
returns-then-chart-eq0 c = let g = c.args.chart.now.network in none-strand g g.a (λ k h. nothing-firm g c.if-chart-eq0.true k) (le_refl g.a)

pub returns-in-Some : goal.returns-in-Some
returns-in-Some c = one-strands _ _ _ c.in-Some.ensures c.loop-k.invariant (omega arith)

pub loop-k-preserved : goal.loop-k-preserved
loop-k-preserved c = so_far_more _ _ c.loop-k.invariant (no-strand _ _ c.in_default.ensures)

pub returns : goal.returns
returns c = none-strand _ _ c.loop-k.invariant (omega arith)
