-- What is left of `soundness::is_sound`.
-- Assumes nothing.
use mathlib.Core.Path.{sym, ap, ◌∙◌}
use Rattle.run.proofs.SoundTest.{way-few}
use Rattle.soundness.specs.Parts.{stands_soundly}
use Rattle.soundness.proofs.Tests.{unformed, formed-sound}
use Rattle.soundness.proofs.is_sound.Goals as goal

pub stands_soundly-requires : goal.stands_soundly-requires
stands_soundly-requires c = way-few _ _ _ (sym c.is_formed.ensures ∙ c.if-is_formed.true) c.args.chart.now.few_ways

pub returns-then-is_formed : goal.returns-then-is_formed
returns-then-is_formed c =
    let g = c.args.chart.now.network in
    let r = c.args.r.now in
    c.stands_soundly.ensures ∙ ap (λ s. stands_soundly g s r.way) c.requires ∙ formed-sound g r (sym c.is_formed.ensures ∙ c.if-is_formed.true)

pub returns-else-is_formed : goal.returns-else-is_formed
returns-else-is_formed c = c.if-is_formed.false ∙ unformed _ _ (sym c.is_formed.ensures ∙ c.if-is_formed.false)
