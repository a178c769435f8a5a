-- What is left of `join_calls::clear_plan`.
-- Assumes nothing.
use mathlib.Core.Path.{◌∙◌, sym}
use Rattle.std.proofs.lemmas.Result.{err_from_is_err_and}
use Rattle.join_calls.proofs.Exits.{unread, faulty, its-outline, passed-outline}
use Rattle.join_calls.proofs.clear_plan.Goals.{in_default-via-in-Err+else-not-is_clear_verdict, in_default-via-in_default}
use Rattle.join_calls.proofs.clear_plan.Goals as goal

pub returns-in_err-planned : goal.returns-in_err-planned
returns-in_err-planned c =
    let p = err_from_is_err_and c.from_residual.result c.from_residual.ensures.1 in
    record { told = rw (p.1, p.2) (unread _ _ c.requires.0 _ c.in_err-planned.ensures.told); left = c.in_err-planned.ensures.left }

pub returns-in-Err-clause-told : goal.returns-in-Err-clause-told
returns-in-Err-clause-told c =
    rw c.into.ensures (faulty _ _ _ c.in_ok-planned.ensures.told _ c.in-Err.is (sym c.is_clear_verdict.ensures.number ∙ c.if-not-is_clear_verdict.true))

pub returns-in_default-clause-told : goal.returns-in_default-clause-told
returns-in_default-clause-told c = elim c.in_default.branch [
  | in_default-via-in-Err+else-not-is_clear_verdict w ↦ its-outline _ _ _ c.in_ok-planned.ensures.told (sym w.is_clear_verdict.ensures.number ∙ w.if-not-is_clear_verdict.false)
  | in_default-via-in_default w ↦ passed-outline _ _ _ c.in_ok-planned.ensures.told _ w.in_default.is
]
