-- What is left of `soundness::is_formed`.
-- Assumes nothing.
use mathlib.Core.Path.{sym, ◌∙◌}
use borrow.Author.Tests.{lt-leb}
use Rattle.bounded.proofs.Bools.{clash}
use Rattle.soundness.proofs.Tests.{way_unknown, rest-used, formed-by}
use Rattle.soundness.proofs.is_formed.Goals.{then-r-g, else-r-g}
use Rattle.soundness.proofs.is_formed.Goals as goal

pub returns-then-rest_zero : goal.returns-then-rest_zero
returns-then-rest_zero c = elim c.if-r-g.branch [
  | then-r-g w ↦ formed-by _ _ c.args.chart.now.few_bookings w.if-r-g.true (sym w.rest_zero.ensures ∙ sym w.value-is ∙ c.if-rest_zero.true) _ c.codes_known.ensures
  | else-r-g w ↦ clash c.if-r-g.value c.if-rest_zero.true (w.value-is ∙ lt-leb _ _ w.if-r-g.false)
]

pub returns-else-rest_zero : goal.returns-else-rest_zero
returns-else-rest_zero c = c.if-rest_zero.false ∙ elim c.if-r-g.branch [
  | then-r-g w ↦ rest-used _ _ (sym w.rest_zero.ensures ∙ sym w.value-is ∙ c.if-rest_zero.false)
  | else-r-g w ↦ way_unknown _ _ w.if-r-g.false
]
