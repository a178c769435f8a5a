-- What is left of `event_lines::write_line`.
-- Assumes nothing.
use mathlib.Core.Path.{refl}
use native.Mathlib.Omega.{arith}
use Rattle.decimal.specs.Decimal.{columns, columns_to}
use Rattle.decimal.proofs.Stores.{first-byte, next-byte}
use Rattle.decimal.proofs.Laws.{next-field}
use Rattle.event_lines.specs.Line.{line_text}
use Rattle.event_lines.proofs.write_line.Goals as goal

pub returns : goal.returns
unfolding line_text columns columns_to
returns c =
    let d = c.args.buf.now in
    let x = next-field d _ _ _ 1 4 c.args.x (first-byte d c.args.letter) refl (omega arith) c.write_field.ensures in
    record { size = refl; text = (next-byte d _ _ 5 10 x refl).is }
