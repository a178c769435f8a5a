-- What is left of `passed_ways::write_line`.
-- Assumes nothing.
use Rattle.std.proofs.Common.{refl, arith, ◌+◌, add-one}
use Rattle.decimal.specs.Decimal.{columns, columns_to}
use Rattle.decimal.proofs.Stores.{first-byte, next-byte}
use Rattle.decimal.proofs.Laws.{next-field}
use Rattle.passed_ways.specs.Listing.{line_text}
use Rattle.passed_ways.proofs.write_line.Goals as goal

pub returns : goal.returns
unfolding line_text columns columns_to
returns c =
    let d = c.args.line.now in
    let x = next-field d _ _ _ 1 4 c.args.x (first-byte d 86) refl (omega arith) c.write_number.ensures in
    let l = next-byte d _ _ 5 c.letter.result x refl in
    let b = next-field d _ _ _ 6 4 (c.booking.result + 1) l refl (omega arith) c.write_number-2.ensures in
    rw (← c.letter.ensures, ← c.booking.ensures, ← add-one c.booking.result) (next-byte d _ _ 10 10 b refl).is
