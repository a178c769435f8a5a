-- What is left of `calls::Checked::bits`.
-- Assumes nothing.
use mathlib.Core.Path.{◌≡◌, refl, sym, ◌∙◌}
use Rattle.verdict.specs.Check.{verdict_number}
use Rattle.guarantee.specs.Answers.{pack, check_bits}
use Rattle.calls.specs.Refusals.{refusal_bits, refusal_place}
use Rattle.calls.proofs.Checked.bits.Goals as goal

pub bits-requires : goal.bits-requires
unfolding refusal_place
bits-requires c = rw c.in-Err.is at c.requires

pub returns-in-Ok : goal.returns-in-Ok
unfolding check_bits verdict_number
returns-in-Ok c = let e : check_bits c.args.self.now.verdict ≡ pack 6 0 0 = rw c.in-Ok.is refl in c.pack.ensures ∙ sym e

pub returns-in-Err : goal.returns-in-Err
unfolding refusal_bits
returns-in-Err c = c.bits.ensures ∙ rw c.in-Err.is
