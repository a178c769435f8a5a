-- What is left of `soundness::quiet`.
-- Assumes nothing.
use mathlib.Core.Path.{sym, ◌∙◌}
use borrow.Author.Tests.{eq-eqb}
use Rattle.bounded.proofs.Bools.{got}
use Rattle.soundness.proofs.Tests.{quiet_none, quiet-outside, quiet-inside}
use Rattle.soundness.proofs.quiet.Goals as goal

pub returns-then-s-eq0 : goal.returns-then-s-eq0
returns-then-s-eq0 c = eq-eqb _ _ c.if-s-eq0.true ∙ quiet_none _ _ c.if-s-eq0.true

pub returns-then-subset : goal.returns-then-subset
returns-then-subset c = quiet-inside _ _ c.if-s-eq0.false (got c.subset.ensures c.if-subset.true)

pub returns-else-subset : goal.returns-else-subset
returns-else-subset c = c.if-subset.false ∙ quiet-outside _ _ c.if-s-eq0.false (sym c.subset.ensures ∙ c.if-subset.false)
