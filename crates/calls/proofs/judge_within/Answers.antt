-- What is left of `calls::judge_within`.
-- Assumes nothing.
use Rattle.calls.specs.Refusals.{SheetRead}
use Rattle.calls.proofs.Exits.{on-err, sheet-told}
use Rattle.calls.proofs.judge_within.Goals as goal

pub returns-in_err-planned : goal.returns-in_err-planned
returns-in_err-planned c = on-err (SheetRead c.args.most c.args.sheet.now) _ _ c.from_residual.ensures.1 c.in_err-planned.ensures.told

pub returns : goal.returns
returns c = sheet-told _ _ _ c.in_ok-planned.ensures.told
