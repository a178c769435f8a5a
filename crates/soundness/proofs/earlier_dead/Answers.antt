-- What is left of `soundness::earlier_dead`.
-- Assumes nothing.
use mathlib.Core.Path.{ap, ◌∙◌}
use Rattle.bounded.specs.Bounded.{all}
use Rattle.run.specs.Sound.{passed_over, earlier_dead}
use Rattle.soundness.proofs.Tests.{before-few}
use Rattle.soundness.proofs.earlier_dead.Goals as goal

pub none_live-requires : goal.none_live-requires
none_live-requires c = before-few c.args.chart.now.network c.args.w _ c.args.chart.now.few_ways c.requires c.ways_before.ensures

pub returns : goal.returns
unfolding earlier_dead
returns c = c.none_live.ensures ∙ ap (all (passed_over c.args.chart.now.network c.args.s)) c.ways_before.ensures
