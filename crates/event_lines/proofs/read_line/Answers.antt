-- What is left of `event_lines::read_line`.
-- Assumes nothing.
use Rattle.std.proofs.Common.{◌∙◌, sym, rules}
use Rattle.event_lines.proofs.LineLaws.{ok-none, ok-some, other-size, no_number, no-feed, given}
use Rattle.decimal.proofs.Fields.{number_small}
use Rattle.event_lines.proofs.read_line.Goals as goal

pub returns-then-line-ne6 : goal.returns-then-line-ne6
returns-then-line-ne6 c = other-size _ c.if-line-ne6.true

pub returns-in_err-x : goal.returns-in_err-x
returns-in_err-x c = c.from_residual.ensures ∙ no_number _ c.field_at.result c.field_at.ensures (ok-none _ (sym c.ok.ensures.value ∙ c.in_err-x.was))

pub returns-then-line-ne10 : goal.returns-then-line-ne10
returns-then-line-ne10 c = no-feed _ c.if-line-ne10.true

pub overflow_cast-result : goal.overflow_cast-result
overflow_cast-result c =
    let s = number_small 4 1 _ c.field_at.result c.field_at.ensures _ (ok-some _ _ (sym c.ok.ensures.value ∙ c.in_ok-x.was)) in
    search rules

pub returns : goal.returns
returns c = given _ c.field_at.result _ c.if-line-ne6.false c.field_at.ensures (ok-some _ _ (sym c.ok.ensures.value ∙ c.in_ok-x.was)) c.if-line-ne10.false
