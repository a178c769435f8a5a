-- What is left of `journal_calls::restarted`.
-- Assumes nothing.
use mathlib.Core.Path.{◌∙◌}
use native.Mathlib.Omega.{arith}
use Rattle.calls.specs.Refusals.{Answers}
use Rattle.calls.proofs.Exits.{on-err}
use Rattle.journal_calls.specs.Restart.{restart_call}
use Rattle.journal_calls.proofs.Exits.{place-small, refused, short, wrong, right}
use Rattle.journal_calls.proofs.restarted.Goals as goal

pub returns-in_err-chart : goal.returns-in_err-chart
returns-in_err-chart c =
    let o = refused c.args.sheet.now c.args.journal.now c.args.state.now _ c.in_err-chart.ensures in
    record { answer = on-err (Answers (restart_call c.args.sheet.now c.args.journal.now c.args.state.now)) _ _ c.from_residual.ensures.1 o.0; left = o.1 }

pub returns-then-state-ne65 : goal.returns-then-state-ne65
returns-then-state-ne65 c = let o = short _ c.args.journal.now _ _ c.in_ok-chart.ensures c.if-state-ne65.true in record { answer = o.0; left = o.1 }

pub pack-requires : goal.pack-requires
pack-requires c = (omega arith, omega arith, rw c.line_place.ensures (place-small _))

pub returns-in-Err : goal.returns-in-Err
returns-in-Err c =
    let o = wrong _ _ _ _ c.in_ok-chart.ensures c.if-state-ne65.false _ c.in-Err.ensures.told _ c.line_place.ensures _ c.pack.ensures in
    record { answer = o.0; left = o.1 }

pub returns : goal.returns
returns c =
    let o = right _ _ _ _ c.in_ok-chart.ensures c.if-state-ne65.false _ c.in_default.ensures.told _ c.pack-2.ensures _ (c.copy_from_slice.ensures.after ∙ c.in_default.ensures.left) in
    record { answer = o.0; left = o.1 }
