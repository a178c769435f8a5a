-- What is left of `precedence::joined_four`.
-- Assumes nothing.
use Rattle.precedence.specs.Precedence.{joined_four}
use Rattle.precedence.proofs.joined_four.Goals as goal

pub returns : goal.returns
unfolding joined_four
returns c = cc
