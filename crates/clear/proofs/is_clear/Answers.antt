-- What is left of `clear::is_clear`.
-- Assumes nothing.
use mathlib.Core.Path.{ap}
use mathlib.Core.Bool.{not}
use Rattle.guarantee.specs.Answers.{refusal_of}
use Rattle.clear.specs.Clear.{clear_bits}
use Rattle.clear.proofs.is_clear.Goals as goal

pub returns : goal.returns
unfolding clear_bits refusal_of
returns c = ap not c.is_within.ensures
