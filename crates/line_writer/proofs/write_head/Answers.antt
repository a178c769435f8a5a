-- What is left of `line_writer::write_head`.
-- Assumes nothing.
use mathlib.Core.Path.{refl}
use native.Mathlib.Omega.{arith}
use Rattle.decimal.specs.Decimal.{columns, columns_to}
use Rattle.decimal.proofs.Stores.{first-byte, next-byte}
use Rattle.decimal.proofs.Laws.{next-field}
use Rattle.lines.specs.Head.{head_text}
use Rattle.line_writer.proofs.write_head.Goals as goal

pub returns : goal.returns
unfolding head_text columns columns_to
returns c =
    let d = c.args.line.now in
    let n = next-field d _ _ _ 1 4 c.args.n (first-byte d 80) refl (omega arith) c.write_field.ensures in
    let m = next-field d _ _ _ 5 4 c.args.m n refl (omega arith) c.write_field-2.ensures in
    let a = next-field d _ _ _ 9 4 c.args.a m refl (omega arith) c.write_field-3.ensures in
    let limit = next-field d _ _ _ 13 4 c.args.limit a refl (omega arith) c.write_field-4.ensures in
    (next-byte d _ _ 17 10 limit refl).is
