-- What is left of `line_writer::write_booking`.
-- Assumes nothing.
use mathlib.Core.Path.{refl}
use native.Mathlib.Omega.{arith}
use Rattle.decimal.specs.Decimal.{columns, columns_to}
use Rattle.decimal.proofs.Stores.{first-byte, next-byte}
use Rattle.decimal.proofs.Laws.{next-field}
use Rattle.lines.specs.Booking.{booking_text}
use Rattle.line_writer.proofs.write_booking.Goals as goal

pub returns : goal.returns
unfolding booking_text columns columns_to
returns c =
    let d = c.args.line.now in
    let x = next-field d _ _ _ 1 4 c.args.x (first-byte d 66) refl (omega arith) c.write_field.ensures in
    let k = next-byte d _ _ 6 c.args.k (next-byte d _ _ 5 32 x refl) refl in
    let desk = next-field d _ _ _ 7 4 c.args.d k refl (omega arith) c.write_field-2.ensures in
    (next-byte d _ _ 11 10 desk refl).is
