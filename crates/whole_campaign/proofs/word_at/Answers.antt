-- What is left of `whole_campaign::word_at`.
-- Assumes nothing.
use Rattle.std.proofs.Common.{arith}
use Rattle.whole_campaign.specs.Play.{word_at}
use Rattle.whole_campaign.proofs.word_at.Goals as goal

pub returns : goal.returns
unfolding word_at
returns c = rw c.from_be_bytes.ensures (omega arith)
