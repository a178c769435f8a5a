-- What is left of `decimal::write_spaces`.
-- Assumes nothing.
use Rattle.std.proofs.Common.{arith}
use Rattle.decimal.proofs.Laws.{all-spaces}
use Rattle.decimal.proofs.write_spaces.Goals as goal

pub returns : goal.returns
returns c = all-spaces _ _ (omega arith) (λ k h. c.loop-byte.invariant k (omega arith))
