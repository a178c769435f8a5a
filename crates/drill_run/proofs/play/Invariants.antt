-- What the loop of `drill_run::play` keeps.
-- Assumes nothing.
use Rattle.std.proofs.Common.{◌≤◌}
use Rattle.drill_run.specs.Drilled.{Drilled}
use Rattle.drill_run.proofs.play.Given as goal

abbrev pub invariant-loop : goal.invariant-loop
invariant-loop l = record {
  counted : l.replies ≤ l.counter;
  so_far : Drilled l.sheet l.started l.initial.state l.bits l.state;
}
