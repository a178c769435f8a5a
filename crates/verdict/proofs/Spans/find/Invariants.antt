-- What the loop of `verdict::Spans::find` keeps.
-- Assumes nothing.
use mathlib.Core.Path.{◌≡◌}
use Prim.Native.Nat.{ℕ, ◌<◌, ◌^◌}
use lib.Bits.{bit_or}
use lib.ListN.{length, get_or}
use Rattle.network.specs.Network as Net
use Rattle.verdict.proofs.Parts.{Thinned}
use Rattle.verdict.proofs.Spans.find.Given as goal

abbrev pub invariant-loop-s : goal.invariant-loop-s
invariant-loop-s l = let g = l.chart.network in
    (length l.self.upto ≡ 64) × (length l.self.stay ≡ 64) × ((i : ℕ) → i < l.s → get_or l.self.upto i 0 ≡ bit_or (Net.before g i) (2 ^ i)) × Thinned g l.s l.self.stay
