-- What is left of `drill_lines::write_refusal`.
-- Assumes nothing.
use Rattle.std.proofs.Common.{refl, arith}
use Rattle.decimal.specs.Decimal.{columns, columns_to}
use Rattle.decimal.proofs.Stores.{first-byte, next-byte}
use Rattle.decimal.proofs.Laws.{next-field}
use Rattle.drill_lines.specs.Printed.{refusal_text}
use Rattle.drill_lines.proofs.write_refusal.Goals as goal

pub returns : goal.returns
unfolding refusal_text columns columns_to
returns c =
    let d = c.args.buf.now in
    let x = next-field d _ _ _ 1 4 c.args.refusal (first-byte d 88) refl (omega arith) c.write_field.ensures in
    let y = next-field d _ _ _ 5 6 c.args.place x refl (omega arith) c.write_field-2.ensures in
    record { size = refl; text = (next-byte d _ _ 11 10 y refl).is }
