-- What is left of `precedence::joined`.
-- Assumes nothing.
use mathlib.Core.Path.{sym, ◌∙◌}
use Rattle.precedence.proofs.Steps.{joined-yes, joined-no}
use Rattle.precedence.proofs.joined.Goals as goal

pub returns-then-has : goal.returns-then-has
returns-then-has c = joined-yes _ _ _ (sym c.has.ensures ∙ c.if-has.true)

pub returns-else-has : goal.returns-else-has
returns-else-has c = joined-no _ _ _ (sym c.has.ensures ∙ c.if-has.false)
