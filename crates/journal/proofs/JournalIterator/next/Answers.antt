-- What is left of `next` of a journal's reader.
-- Assumes nothing.
use Rattle.std.proofs.Common.{rules, refl}
use Rattle.journal.proofs.LineLaws.{lines_fewer}
use Rattle.journal.proofs.JournalIterator.next.Goals as goal

pub returns-in_err-line-clause-steps : goal.returns-in_err-line-clause-steps
returns-in_err-line-clause-steps c = rw c.from_residual.ensures (c.in_err-line.ensures.cases, refl)

pub returns-clause-steps : goal.returns-clause-steps
returns-clause-steps c =
    let a = c.in_ok-line.ensures.cases in
    record { whole = a.0; read = rw (c.read_line.ensures, a.1); behind = a.2 }

pub returns-clause-goes : goal.returns-clause-goes
returns-clause-goes c =
    let a = c.in_ok-line.ensures.cases in
    let l = lines_fewer _ _ a.0 a.2 in
    search rules
