-- What is left of `lent_state::take_line`.
-- Assumes nothing.
use mathlib.Core.Path.{◌≡◌, sym, ◌∙◌}
use Rattle.std.specs.Prelude.{Some}
use Rattle.lent_state.specs.Lines.{line_by}
use Rattle.lent_state.proofs.Bytes.{bytes_run}
use Rattle.lent_state.proofs.Lines.{event-told, has_event, no_event, told-misformed}
use Rattle.lent_state.proofs.take_line.Goals as goal

pub returns-in_err-event : goal.returns-in_err-event
unfolding line_by
returns-in_err-event c =
    let e = sym c.in_err-event.was ∙ c.ok_or.ensures.value in
    record {
      told = told-misformed _ _ _ c.args.line _ e _ c.from_residual.ensures.1;
      left = rw (no_event c.args.line _ _ e).0 (sym (bytes_run c.args.state.now c.requires.size));
    }

pub returns : goal.returns
returns c =
    let e : c.args.line ≡ Some c.in_ok-event.event = has_event c.args.line _ _ (sym c.in_ok-event.was ∙ c.ok_or.ensures.value) in
    rw e (record { told = c.ok_or-2.ensures.value ∙ rw c.take_event.ensures.told (event-told _ _ _ _); left = c.take_event.ensures.left })
