-- What is left of `calls::begin`.
-- Assumes nothing.
use Rattle.calls.specs.Calls.{start_call}
use Rattle.calls.specs.Refusals.{Answers}
use Rattle.calls.proofs.Exits.{on-err, start-refused, start-short, start-done}
use Rattle.calls.proofs.begin.Goals as goal

pub returns-in_err-chart_of : goal.returns-in_err-chart_of
returns-in_err-chart_of c =
    let s = c.args.sheet.now in
    let bs = c.args.state.now in
    let t = start-refused s bs _ c.in_err-chart_of.ensures in
    record { answer = on-err (Answers (start_call s bs)) _ _ c.from_residual.ensures.1 t.0; left = t.1 }

pub returns-then-state-ne65 : goal.returns-then-state-ne65
returns-then-state-ne65 c = let t = start-short _ _ c.in_ok-chart_of.ensures.holds c.if-state-ne65.true in record { answer = t.0; left = t.1 }

pub returns : goal.returns
returns c =
    let t = start-done _ _ c.in_ok-chart_of.ensures.holds c.if-state-ne65.false _ c.pack.ensures _ c.start.ensures _ c.store.ensures in
    record { answer = t.0; left = t.1 }
