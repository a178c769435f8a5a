-- What is left of `writer::write_sheet`.
-- Assumes nothing.
use Rattle.std.proofs.Common.{◌∙◌}
use Rattle.std.proofs.lemmas.Result.{err_from_is_err_and}
use Rattle.plan.proofs.Valid.{fine-limited}
use Rattle.writer.proofs.TextLaws.{fine-answer, fine-left, fault-answer, fault-left}
use Rattle.writer.proofs.write_sheet.Goals as goal

pub write_fine-requires : goal.write_fine-requires
write_fine-requires c =
    let l = fine-limited _ _ c.judge.ensures c.in_ok-judge.was in
    (l.bookings, l.links, l.ways)

pub returns-in_err-judge : goal.returns-in_err-judge
returns-in_err-judge c =
    let p = err_from_is_err_and c.from_residual.result c.from_residual.ensures.1 in
    let f = c.in_err-judge.ensures in
    record { answer = rw (p.1, p.2) (fault-answer _ c.args.buf.now _ f); left = fault-left _ c.args.buf.now _ f }

pub returns : goal.returns
returns c =
    let f = c.in_ok-judge.ensures in
    record { answer = c.write_fine.ensures.answer ∙ fine-answer _ c.args.buf.now f; left = c.write_fine.ensures.left ∙ fine-left _ c.args.buf.now f }
