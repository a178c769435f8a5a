-- What is left of `ways::write_ways`.
-- Assumes nothing.
use Rattle.std.proofs.Common.{arith}
use native.Mathlib.Nat.{sub-zero}
use Rattle.ways.proofs.TextLaws.{none_yet, room-way, ways_next, ways_on, ways-all}
use Rattle.ways.proofs.write_ways.Goals as goal

pub loop-way-init : goal.loop-way-init
loop-way-init c = (omega (arith, none_yet c.args.ways.now), simp sub-zero)

pub write_way-next-requires : goal.write_way-next-requires
write_way-next-requires c = search room-way

pub loop-way-preserved : goal.loop-way-preserved
loop-way-preserved c = (search ways_next, search ways_on)

pub returns-clause-text : goal.returns-clause-text
returns-clause-text c = search ways-all
