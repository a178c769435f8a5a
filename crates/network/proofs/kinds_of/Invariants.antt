-- What the loop of `network::kinds_of` keeps.
-- Assumes nothing.
use mathlib.Core.Path.{◌≡◌}
use Rattle.sets.specs.Sets.{gather}
use Rattle.network.specs.FromPlan.{is_firm, is_exposed, of_kind}
use Rattle.network.proofs.kinds_of.Given as goal

abbrev pub invariant-loop-b : goal.invariant-loop-b
invariant-loop-b l = (l.kinds.firm ≡ gather (of_kind is_firm l.kind) l.b) × (l.kinds.exposed ≡ gather (of_kind is_exposed l.kind) l.b)
