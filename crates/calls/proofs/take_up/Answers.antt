-- What is left of `calls::take_up`.
-- Assumes nothing.
use Rattle.calls.specs.Refusals.{Takes}
use Rattle.calls.proofs.Exits.{on-err, away, unsound-away, taken-up, short-bytes, unsound-bytes, stood}
use Rattle.calls.proofs.take_up.Goals as goal

pub returns-in_err-chart : goal.returns-in_err-chart
returns-in_err-chart c = let s = c.args.sheet.now in let bs = c.args.state.now in on-err (Takes s bs) _ _ c.from_residual.ensures.1 (away s bs _ c.in_err-chart.ensures)

pub returns-then-state-ne65 : goal.returns-then-state-ne65
returns-then-state-ne65 c =
    let g = c.in_ok-chart.chart in
    let p = c.in_ok-chart.ensures in
    unsound-away _ _ p.holds g p.network (short-bytes g _ c.if-state-ne65.true)

pub returns-then-not-is_sound : goal.returns-then-not-is_sound
returns-then-not-is_sound c =
    let g = c.in_ok-chart.chart in
    let p = c.in_ok-chart.ensures in
    unsound-away _ _ p.holds g p.network (unsound-bytes g _ c.if-state-ne65.false _ c.load-run.ensures _ c.is_sound.ensures c.if-not-is_sound.true)

pub returns : goal.returns
returns c =
    let g = c.in_ok-chart.chart in
    let p = c.in_ok-chart.ensures in
    taken-up _ _ p.holds g p.network _ (stood g _ c.if-state-ne65.false _ c.load-run.ensures _ c.is_sound.ensures c.if-not-is_sound.false _ c.standing-standing.ensures)
