-- A way line is refused with 1, 2 or 3, and none past the last one.
-- Assumes nothing.
use mathlib.Core.List.{List}
use Prim.Native.Nat.{ℕ, zero, suc, ◌+◌, ◌≤◌}
use native.Mathlib.Omega.{arith}
use lib.ListN.{drop, set}
use Rattle.plan.proofs.RecordLaws.{Upto, further}
use Rattle.ways.specs.WayText.{way_bytes}
use Rattle.ways.specs.Way.{way_line_of}
use Rattle.ways.specs.Ways.{after_way, ways_of}
use Rattle.std.specs.Prelude.{Result, Ok, Err}
use Rattle.ways.specs.declared.WayFault.{WayFault}
use Rattle.ways.specs.declared.WayFault.TheVariants.{Malformed, OutOfLimits, OutOfSequence}
use Rattle.ways.specs.declared.Ways.{Ways}

ways_next : (b : Result (ℕ × ℕ) WayFault) (l at m : ℕ) (ws : List ℕ) (f : ℕ → ℕ → Ways) → l ≤ m → ((k s : ℕ) → Upto m (f k s).judged) → Upto m (after_way b l at ws f).judged
ways_next (Ok way) l at m ws f h n = n way.0 way.1
ways_next (Err Malformed) l at m ws f h n = record { place = h; few = omega arith }
ways_next (Err OutOfLimits) l at m ws f h n = record { place = h; few = omega arith }
ways_next (Err OutOfSequence) l at m ws f h n = record { place = h; few = omega arith }

pub ways-small : (n line more i at : ℕ) (rest ws : List ℕ) → Upto (line + i + more) (ways_of n line more i at rest ws).judged
unfolding ways_of
ways-small n line zero i at rest ws = record { place = omega arith; few = omega arith }
ways-small n line (suc more) i at rest ws =
    ways_next (way_line_of n rest) (line + i) at (line + i + suc more) ws _ (omega arith)
    (λ k s. further (line + i + suc more) (omega arith) (ways-small n line more (i + 1) (at + way_bytes k) (drop (way_bytes k) rest) (set ws i s)))
