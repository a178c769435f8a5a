-- What is left of `soundness::all_founded`.
-- Assumes nothing.
use mathlib.Core.Path.{ap, ◌∙◌}
use Prim.Native.Nat.{ℕ}
use Rattle.sets.specs.Sets.{subset_of}
use Rattle.run.specs.Sound.{all_founded}
use Rattle.soundness.proofs.all_founded.Goals as goal

pub returns : goal.returns
unfolding all_founded
returns c = c.subset.ensures ∙ ap (λ (x : ℕ). subset_of x c.args.s.held) c.preceding.ensures
