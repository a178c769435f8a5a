-- What is left of `decimal::write_number`.
-- Assumes nothing.
use Rattle.std.proofs.Common.{length}
use Rattle.decimal.proofs.Numbers.{all_shown, last-shown, digit-shown}
use Rattle.decimal.proofs.write_number.Goals as goal

pub loop-rest-init : goal.loop-rest-init
loop-rest-init c = last-shown (length c.args.field.now) c.args.x c.requires.1 c.requires.0 _ c.write_spaces.ensures

pub loop-rest-preserved : goal.loop-rest-preserved
loop-rest-preserved c = let l = c.loop-rest in digit-shown _ _ l.i l.rest _ l.invariant c.loop-rest-test.true

pub returns : goal.returns
returns c = all_shown _ _ _ _ _ c.loop-rest.invariant c.loop-rest-test.false
