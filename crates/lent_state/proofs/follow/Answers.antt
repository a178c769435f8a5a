-- What is left of `lent_state::follow`.
-- Assumes nothing.
use Rattle.run.specs.Bytes.{run_of}
use Rattle.lent_state.proofs.Codes.{after-return, after-request}
use Rattle.lent_state.proofs.follow.Goals as goal

pub returns-then-old-eq-RETURNING : goal.returns-then-old-eq-RETURNING
returns-then-old-eq-RETURNING c = after-return c.args.chart.now.network c.args.state.now c.requires.size c.args.old c.if-old-eq-RETURNING.true

pub way_after-requires : goal.way_after-requires
unfolding run_of
way_after-requires c = (c.args.chart.now.few_ways, c.requires.way)

pub returns : goal.returns
returns c =
    after-request c.args.chart.now.network c.args.state.now c.requires.size c.args.old c.args.s c.requires.stands c.if-old-eq-RETURNING.false _ c.way_after.ensures
