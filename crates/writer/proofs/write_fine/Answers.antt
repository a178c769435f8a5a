-- What is left of `writer::write_fine`.
-- Assumes nothing.
use Rattle.writer.proofs.TextLaws.{too_short, left_alone, its-length, written}
use Rattle.writer.proofs.write_fine.Goals as goal

pub returns-then-buf-need : goal.returns-then-buf-need
returns-then-buf-need c = record { answer = search too_short; left = search left_alone }

pub returns : goal.returns
returns c = record { answer = search its-length; left = search written }
