-- What is left of `journal_calls::journal_line`.
-- Assumes nothing.
use native.Mathlib.Omega.{arith}
use Rattle.guarantee.proofs.Numbers.{small-9}
use Rattle.event_lines.proofs.LineLaws.{line-length}
use Rattle.calls.specs.Refusals.{refusal_bits, refusal_place}
use Rattle.journal_calls.proofs.Lines.{no_line, no_room, written}
use Rattle.journal_calls.proofs.journal_line.Goals as goal

pub bits-requires : goal.bits-requires
unfolding refusal_place
bits-requires c = omega (arith, small-9 c.args.booking)

pub returns-then-not-has_line : goal.returns-then-not-has_line
unfolding refusal_bits
returns-then-not-has_line c = let o = no_line _ _ _ _ c.has_line.ensures c.if-not-has_line.true _ c.bits.ensures in record { answer = o.0; left = o.1 }

pub bits-requires-then-line-lt6 : goal.bits-requires-then-line-lt6
unfolding refusal_place
bits-requires-then-line-lt6 c = omega arith

pub returns-then-line-lt6 : goal.returns-then-line-lt6
unfolding refusal_bits
returns-then-line-lt6 c = let o = no_room _ _ _ _ c.has_line.ensures c.if-not-has_line.false c.if-line-lt6.true _ c.bits-then-line-lt6.ensures in record { answer = o.0; left = o.1 }

pub pack-requires : goal.pack-requires
pack-requires c = (omega arith, omega arith, omega (arith, c.write_line-n.ensures.size, line-length c.args.letter c.args.booking))

pub returns : goal.returns
returns c =
    let e = c.write_line-n.ensures in
    let o = written _ _ _ _ c.has_line.ensures c.if-not-has_line.false c.if-line-lt6.false _ e.size _ c.pack.ensures _ e.text in
    record { answer = o.0; left = o.1 }
