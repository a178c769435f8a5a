-- What is left of `whole_campaign::write_answer`.
-- Assumes nothing.
use Rattle.whole_campaign.proofs.Playing.{stored_answer}
use Rattle.whole_campaign.proofs.write_answer.Goals as goal

pub returns : goal.returns
returns c = rw (c.copy_in-2.ensures, c.copy_in.ensures, c.to_be_bytes.ensures) (stored_answer _ _ _ _ c.ranges.x.fits)
