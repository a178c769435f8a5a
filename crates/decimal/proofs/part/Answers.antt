-- What is left of `decimal::part`.
-- Assumes nothing.
use Rattle.decimal.proofs.Bytes.{part-whole, part-rest, part_none}
use Rattle.decimal.proofs.part.Goals as goal

pub returns-then-w-s : goal.returns-then-w-s
returns-then-w-s c = let a = c.args in part-whole a.s.now a.at a.w

pub returns-else-w-s : goal.returns-else-w-s
returns-else-w-s c = let a = c.args in part-rest a.s.now a.at a.w c.if-w-s.false

pub returns-else-at-s : goal.returns-else-at-s
returns-else-at-s c = let a = c.args in part_none a.s.now a.at a.w c.if-at-s.false
