-- What the loop of `verdict::Spans::lowest_stranding` keeps.
-- Assumes nothing.
use Prim.Native.Nat.{suc}
use lib.Bits.{bit_and}
use lib.ListN.{get_or}
use Rattle.sets.specs.Sets.{all_below}
use Rattle.sets.proofs.Walk.{Walked}
use Rattle.verdict.specs.Check.{stranding}
use Rattle.verdict.proofs.Spans.lowest_stranding.Given as goal

abbrev pub invariant-loop-x : goal.invariant-loop-x
invariant-loop-x l = let g = l.chart.network in Walked (stranding g (suc l.k)) (bit_and (bit_and g.exposed (get_or g.way l.k 0)) (all_below g.n)) l.x-iterator.rest
