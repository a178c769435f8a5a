-- What is left of `decimal::write_field`.
-- Assumes nothing.
use mathlib.Core.Path.{refl}
use borrow.Author.Rules.{rules}
use Rattle.decimal.proofs.Laws.{column-written, all-written, from_last}
use Rattle.decimal.proofs.write_field.Goals as goal

pub loop-i-init : goal.loop-i-init
loop-i-init c = (search rules, search rules, from_last _ _ _)

pub loop-i-preserved : goal.loop-i-preserved
loop-i-preserved c = let l = c.loop-i in (search rules, search rules, column-written _ l.i _ _ _ _ l.invariant.0 c.loop-i-test.true c.shown.ensures l.invariant.2)

pub returns : goal.returns
returns c = all-written _ _ _ _ _ _ refl c.loop-i-test.false c.loop-i.invariant.2
