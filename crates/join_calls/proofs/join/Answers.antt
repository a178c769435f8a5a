-- What is left of `join_calls::join`.
-- Assumes nothing.
use mathlib.Core.Path.{◌∙◌}
use Rattle.join_calls.proofs.Exits.{has-limits, written}
use Rattle.join_calls.proofs.join.Goals as goal

pub put_sheet-requires : goal.put_sheet-requires
put_sheet-requires c = has-limits _ _ _ c.in-Ok.ensures

pub returns-in-Ok : goal.returns-in-Ok
returns-in-Ok c =
    let e = written _ _ _ c.in-Ok.ensures c.args.joined.now in
    record { answer = c.put_sheet.ensures.answer ∙ e.0; left = c.put_sheet.ensures.left ∙ e.1 }
