-- What is left of `calls::reply_to`.
-- Assumes nothing.
use mathlib.Core.Path.{ap, ◌∙◌}
use native.Mathlib.Omega.{arith}
use Rattle.run.specs.Replies.{kept_of, reply}
use Rattle.guarantee.proofs.Numbers.{reply-none, reply-some}
use Rattle.calls.proofs.reply_to.Goals as goal

pub returns-in_err-b : goal.returns-in_err-b
returns-in_err-b c =
    let a = c.args in
    let h = c.in_err-b.ensures in
    c.from_residual.ensures ∙ ap kept_of (reply-none a.chart.now.network a.r a.letter a.booking (omega arith))

pub returns : goal.returns
returns c =
    let a = c.args in
    let e = c.in_ok-b.ensures in
    c.reply.ensures ∙ ap kept_of (reply-some a.chart.now.network a.r a.letter a.booking _ (λ z. absurd (omega arith)) (ap (reply a.chart.now.network a.r a.letter) e.1))
