-- What is left of `soundness::desks_kept`.
-- Assumes nothing.
use mathlib.Core.Path.{ap, ◌∙◌}
use Prim.Native.Nat.{ℕ}
use Rattle.desks.specs.Desks.{all_in_limit}
use Rattle.run.specs.Sound.{desks_kept}
use Rattle.soundness.proofs.desks_kept.Goals as goal

pub returns : goal.returns
unfolding desks_kept
returns c = let g = c.args.g.now in c.all_in_limit.ensures ∙ ap (λ (m : ℕ). all_in_limit g.limit g.desk m) c.matters.ensures
