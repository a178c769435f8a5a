-- What is left of `line_writer::write_link`.
-- Assumes nothing.
use mathlib.Core.Path.{refl}
use native.Mathlib.Omega.{arith}
use Rattle.decimal.specs.Decimal.{columns, columns_to}
use Rattle.decimal.proofs.Stores.{first-byte, next-byte}
use Rattle.decimal.proofs.Laws.{next-field}
use Rattle.lines.specs.Link.{link_text}
use Rattle.line_writer.proofs.write_link.Goals as goal

pub returns : goal.returns
unfolding link_text columns columns_to
returns c =
    let d = c.args.line.now in
    let u = next-field d _ _ _ 1 4 c.args.u (first-byte d 76) refl (omega arith) c.write_field.ensures in
    let v = next-field d _ _ _ 5 4 c.args.v u refl (omega arith) c.write_field-2.ensures in
    (next-byte d _ _ 9 10 v refl).is
