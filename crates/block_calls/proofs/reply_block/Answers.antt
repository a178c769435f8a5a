-- What is left of `block_calls::reply_block`.
-- Assumes nothing.
use mathlib.Core.Path.{◌∙◌}
use Rattle.block_calls.proofs.reply_block.Goals as goal

pub bits_of-requires : goal.bits_of-requires
bits_of-requires c = c.take.ensures.answer.fits

pub returns : goal.returns
returns c = record { answer = c.bits_of.ensures ∙ c.take.ensures.answer.bits; left = c.take.ensures.left }
