-- What is left of `story_run::write_story`.
-- Assumes nothing.
use Rattle.std.proofs.Common.{refl}
use Rattle.drill_lines.proofs.Refusals.{refused_kind, other_kind}
use Rattle.story_run.proofs.ToldLaws.{printed, told}
use Rattle.story_run.proofs.write_story.Goals as goal

pub returns-in-Refused : goal.returns-in-Refused
returns-in-Refused c =
    let is = printed _ _ _ c.requires _ c.resume-bits.ensures.answer (refused_kind _ _ c.from.ensures c.in-Refused.is)
    _ c.write_answer.ensures.size _ c.write_answer.ensures.text in
    record { size = is.0; text = is.1 }

pub returns-in_default : goal.returns-in_default
returns-in_default c =
    let listed = c.campaign_passed_ways.ensures in
    let is = told _ _ _ c.requires _ c.resume-bits.ensures.answer (other_kind _ _ c.from.ensures c.in_default.not-Refused) _ _ refl
    c.resume-bits.ensures.left _ listed.answer _ listed.left _ c.place.ensures in
    record { size = is.0; text = is.1 }
