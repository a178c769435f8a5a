-- What is left of `calls::chart_within`.
-- Assumes nothing.
use Rattle.calls.specs.Calls.{passes_within, network_within, check_within}
use Rattle.calls.specs.Refusals.{Judges}
use Rattle.calls.proofs.Exits.{on-err, judged-unread, unread-refused, fault-refused, fine-passed}
use Rattle.calls.proofs.chart_within.Goals as goal

pub returns-in_err-planned : goal.returns-in_err-planned
returns-in_err-planned c =
    let a = c.args in
    on-err (Judges (passes_within a.most a.sheet.now) (network_within a.most a.sheet.now) (check_within a.most a.sheet.now)) _ _ c.from_residual.ensures.1 (judged-unread _ _ _ (unread-refused _ _ _ c.in_err-planned.ensures.told.judged))

pub returns-in_err-planned-2 : goal.returns-in_err-planned-2
returns-in_err-planned-2 c =
    let a = c.args in
    on-err (Judges (passes_within a.most a.sheet.now) (network_within a.most a.sheet.now) (check_within a.most a.sheet.now)) _ _ c.from_residual-in_err-planned-2.ensures.1 (fault-refused _ _ _ c.in_ok-planned.ensures.told _ c.in_err-planned-2.was)

pub returns : goal.returns
returns c = fine-passed _ _ _ c.in_ok-planned.ensures.told _ c.in_ok-planned-2.was
