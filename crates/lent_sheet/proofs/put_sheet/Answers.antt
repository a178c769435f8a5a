-- What is left of `lent_sheet::put_sheet`.
-- Assumes nothing.
use mathlib.Core.Path.{sym, ◌∙◌}
use native.Mathlib.Omega.{arith}
use Rattle.sheet.specs.Text.{sheet_text}
use Rattle.sheet.proofs.ReadSheet.{sheet-length, size-bound, longest-is}
use Rattle.calls.specs.Refusals.{refusal_bits, refusal_place}
use Rattle.lent_text.proofs.Room.{no_room, room}
use Rattle.lent_sheet.proofs.put_sheet.Goals as goal

pub bits-requires : goal.bits-requires
unfolding refusal_place
bits-requires c = omega arith

pub returns-then-buf-size : goal.returns-then-buf-size
unfolding refusal_bits refusal_place
returns-then-buf-size c =
    let a = c.args in
    let o = no_room (sheet_text a.p.now) a.buf.now _ (sheet-length a.p.now ∙ sym c.sheet_size-size.ensures) c.if-buf-size.true _ c.bits.ensures in
    record { answer = o.0; left = o.1 }

pub pack-requires : goal.pack-requires
pack-requires c =
    (omega arith, omega arith, omega (arith, c.sheet_size-size.ensures, longest-is, size-bound c.args.p.now c.requires.0 c.requires.1 c.requires.2))

pub returns : goal.returns
returns c =
    let a = c.args in
    let o = room (sheet_text a.p.now) a.buf.now _ (sheet-length a.p.now ∙ sym c.sheet_size-size.ensures) c.if-buf-size.false _ c.pack.ensures _ c.write_lines.ensures in
    record { answer = o.0; left = o.1 }
