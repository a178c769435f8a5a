-- What is left of `run::Run::reply`.
-- Assumes nothing.
use mathlib.Core.Path.{◌≡◌, ◌∙◌}
use Rattle.network.specs.Network.{exposed}
use Rattle.run.specs.State.{code}
use Rattle.run.specs.Codes.{code_after}
use Rattle.run.proofs.Codes.{reply-none, reply-decided, reply-given}
use Rattle.run.proofs.Run.reply.Goals.{After-code_after}
use Rattle.run.proofs.Run.reply.Goals as goal

code-is : (c : After-code_after) → c.code_after.result ≡ code_after (code c.args.self c.args.b) c.args.letter (exposed c.args.chart.now.network c.args.b)
unfolding exposed code
code-is c = rw c.has.ensures at c.code_after.ensures

pub returns-in_err-code : goal.returns-in_err-code
returns-in_err-code c =
    c.from_residual.ensures ∙ reply-none c.args.chart.now.network c.args.self c.args.letter c.args.b c.if-b-chart.false _ (code-is (goal.at.returns-in_err-code c).After-code_after) c.in_err-code.was

pub returns-then-old-eq-REQUESTED : goal.returns-then-old-eq-REQUESTED
unfolding code
returns-then-old-eq-REQUESTED c =
    reply-decided c.args.chart.now.network c.args.self c.args.letter c.args.b c.if-b-chart.false _ (code-is (goal.at.returns-then-old-eq-REQUESTED c).After-code_after) _ c.in_ok-code.was _
    c.if-old-eq-REQUESTED.true c.decided.ensures

pub returns : goal.returns
unfolding code
returns c =
    reply-given c.args.chart.now.network c.args.self c.args.letter c.args.b c.if-b-chart.false _ (code-is (goal.at.returns c).After-code_after) _ c.in_ok-code.was _
    c.if-old-eq-REQUESTED.false c.put.ensures
