-- What the loop of `ways::gather` keeps.
-- Assumes nothing.
use Rattle.std.proofs.Common.{◌≡◌, ◌+◌, ◌*◌, ◌-◌, ◌≤◌, drop}
use Rattle.ways.specs.Way.{gather_of}
use Rattle.ways.proofs.gather.Given as goal

abbrev pub invariant-loop-j : goal.invariant-loop-j
invariant-loop-j l = (l.last ≤ l.n) × (gather_of l.n l.last l.set (l.k - l.j) (drop (l.at + 4 * l.j) l.s) ≡ gather_of l.n 0 0 l.k (drop l.at l.s))
