-- What is left of `clear::is_clear_verdict`.
-- Assumes nothing.
use mathlib.Core.Path.{◌≡◌, ◌∙◌}
use mathlib.Core.Bool.{true}
use lib.Dec.{ltb}
use Rattle.clear.specs.Clear.{clear_verdict}
use Rattle.clear.proofs.Verdicts.{clear-pass, clear-fault, clear_answer}
use Rattle.clear.proofs.is_clear_verdict.Goals as goal

pub returns-in-Ok : goal.returns-in-Ok
returns-in-Ok c =
    let e : true ≡ clear_verdict c.args.k c.args.verdict = rw c.in-Ok.is (clear-pass c.args.k c.in-Ok.field-0) in
    record { number = e; answer = λ h. e ∙ clear_answer c.args.k c.args.verdict h }

pub returns-in-Err : goal.returns-in-Err
returns-in-Err c =
    let e : ltb c.args.k c.from.result ≡ clear_verdict c.args.k c.args.verdict = rw (c.in-Err.is, c.from.ensures, c.refusal.ensures) (clear-fault c.args.k c.in-Err.fault) in
    record { number = e; answer = λ h. e ∙ clear_answer c.args.k c.args.verdict h }
