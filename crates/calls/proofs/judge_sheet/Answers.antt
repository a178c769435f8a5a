-- What is left of `calls::judge_sheet`.
-- Assumes nothing.
use Rattle.calls.proofs.judge_sheet.Goals as goal

pub returns : goal.returns
returns c = rw c.ours.ensures at c.judge_within.ensures
