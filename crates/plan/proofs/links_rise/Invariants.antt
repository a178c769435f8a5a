-- What the loop of `plan::links_rise` keeps.
-- Assumes nothing.
use lib.ListN.{get_or}
use mathlib.Core.List.{◌∷◌}
use mathlib.Core.Path.{◌≡◌}
use Rattle.bounded.proofs.Loops.{AllFar}
use Rattle.plan.specs.Record.{link_at}
use Rattle.plan.proofs.links_rise.Given as goal

abbrev pub invariant-loop-i : goal.invariant-loop-i
invariant-loop-i l = (l.last.from ≡ get_or (0 ∷ l.from) l.i 0) × (l.last.to ≡ get_or (0 ∷ l.to) l.i 0) × AllFar (link_at l.n l.from l.to) l.i
