-- What is left of `soundness::lost_pending`.
-- Assumes nothing.
use mathlib.Core.Path.{sym, ap, ◌∙◌}
use mathlib.Core.Bool.{not}
use borrow.Author.Tests.{eq-eqb}
use Rattle.bounded.proofs.Bools.{got}
use Rattle.soundness.proofs.Tests.{pending-none, pending-silent, pending-based}
use Rattle.soundness.proofs.lost_pending.Goals as goal

pub returns-then-not-lost_in : goal.returns-then-not-lost_in
returns-then-not-lost_in c = ap not c.if-not-lost_in.true ∙ pending-none _ _ _ c.args.chart.now.few_bookings (sym c.lost_in.ensures ∙ c.if-not-lost_in.true)

pub returns-then-s-ne0 : goal.returns-then-s-ne0
returns-then-s-ne0 c = pending-based _ _ _ (got c.lost_in.ensures c.if-not-lost_in.false) c.if-s-ne0.true _ c.preceding.ensures _ c.subset.ensures

pub returns-else-s-ne0 : goal.returns-else-s-ne0
returns-else-s-ne0 c = ap not (eq-eqb _ _ c.if-s-ne0.false) ∙ pending-silent _ _ _ (got c.lost_in.ensures c.if-not-lost_in.false) c.if-s-ne0.false
