-- What the loop of `lent_state::take_lines` keeps.
-- Assumes nothing.
use Rattle.journal.specs.Reading.{lines_left}
use Rattle.lent_state.proofs.Lines.{Holds}
use Rattle.lent_state.proofs.take_lines.Given as goal

abbrev pub invariant-loop-line : goal.invariant-loop-line
invariant-loop-line l = Holds l.orders l.chart.network l.lines l.fn.state l.kept l.standing l.state (lines_left l.line-iterator)
