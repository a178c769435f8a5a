-- What is left of `lent_state::take_lines`.
-- Assumes nothing.
use Rattle.std.proofs.Common.{ap, ◌∙◌}
use Rattle.journal.specs.Reading.{journal_lines, lines_left}
use Rattle.journal.proofs.LineLaws.{line-first, lines_none}
use Rattle.lent_state.proofs.Lines.{holds-first, holds-end, holds-on, holds-off}
use Rattle.lent_state.proofs.take_lines.Goals as goal

pub loop-line-init : goal.loop-line-init
loop-line-init c =
    holds-first c.args.orders c.args.chart.now.network c.args.lines.now c.args.state.now c.args.s c.requires _ (ap lines_left c.into_iter-line-iterator.ensures.into_iter_gives ∙ ap journal_lines c.lines-line-items.ensures)

pub take_line-requires : goal.take_line-requires
take_line-requires c = c.loop-line.invariant.there

pub loop-line-preserved : goal.loop-line-preserved
loop-line-preserved c =
    holds-on c.args.orders c.args.chart.now.network c.args.lines.now c.args.state.now _ _ _ _ c.loop-line.invariant _ _ (line-first _ _ _ c.in-Some.ensures.steps) _ c.take_line.ensures.left c.args.chart.now.few_ways _ c.in-Ok.ensures.told

pub returns-in-Err : goal.returns-in-Err
returns-in-Err c =
    let o = holds-off c.args.orders c.args.chart.now.network c.args.lines.now c.args.state.now _ _ _ _ c.loop-line.invariant _ _ (line-first _ _ _ c.in-Some.ensures.steps) _ c.take_line.ensures.left _ c.in-Err.ensures.told in
    record { told = (o.0, o.1); left = o.2 }

pub returns : goal.returns
returns c =
    let o = holds-end c.args.orders c.args.chart.now.network c.args.lines.now c.args.state.now _ _ _ _ c.loop-line.invariant (lines_none _ c.in-None.ensures.steps.0) in
    record { told = (o.0, o.1); left = o.2 }
