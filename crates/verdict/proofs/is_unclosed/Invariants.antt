-- What the loop of `verdict::is_unclosed` keeps.
-- Assumes nothing.
use lib.Bits.{bit_and}
use Rattle.sets.specs.Sets.{all_below}
use Rattle.sets.proofs.Walk.{Walked}
use Rattle.verdict.proofs.Parts.{gap_in}
use Rattle.verdict.proofs.is_unclosed.Given as goal

abbrev pub invariant-loop-v : goal.invariant-loop-v
invariant-loop-v l = let g = l.chart.network in Walked (gap_in g.before l.here) (bit_and l.here (all_below g.n)) l.v-iterator.rest
