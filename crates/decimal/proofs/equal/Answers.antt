-- What is left of `decimal::equal`.
-- Assumes nothing.
use Rattle.std.proofs.Common.{◌∙◌}
use Rattle.decimal.proofs.Bytes.{same-pointwise}
use Rattle.decimal.proofs.equal.Goals as goal

pub returns : goal.returns
returns c = c.eq.ensures ∙ same-pointwise c.args.a.now c.args.b.now
