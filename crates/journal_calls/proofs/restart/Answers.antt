-- What is left of `journal_calls::restart`.
-- Assumes nothing.
use mathlib.Core.Path.{◌∙◌}
use Rattle.journal_calls.proofs.restart.Goals as goal

pub bits_of-requires : goal.bits_of-requires
bits_of-requires c = c.restarted.ensures.answer.fits

pub returns : goal.returns
returns c = record { answer = c.bits_of.ensures ∙ c.restarted.ensures.answer.bits; left = c.restarted.ensures.left }
