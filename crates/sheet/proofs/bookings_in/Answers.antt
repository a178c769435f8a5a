-- What is left of `sheet::bookings_in`.
-- Assumes nothing.
use borrow.Author.Rules.{rules}
use Rattle.sheet.specs.Sheet.{bookings_in}
use Rattle.sheet.proofs.bookings_in.Goals as goal

pub returns : goal.returns
unfolding bookings_in
returns c = search rules
