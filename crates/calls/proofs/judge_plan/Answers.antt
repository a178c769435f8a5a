-- What is left of `calls::judge_plan`.
-- Assumes nothing.
use Rattle.plan.specs.Limits.{ours}
use Rattle.calls.specs.Refusals.{Plans}
use Rattle.calls.proofs.Exits.{on-err, unread-refused}
use Rattle.calls.proofs.judge_plan.Goals as goal

pub returns-in_err-planned-clause-told : goal.returns-in_err-planned-clause-told
returns-in_err-planned-clause-told c =
    let s = c.args.sheet.now in
    on-err (Plans ours s) _ _ c.from_residual.ensures.1 (unread-refused ours s _ (rw c.ours.ensures at c.in_err-planned.ensures.told).judged)
