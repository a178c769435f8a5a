-- What is left of `story_run::resume`.
-- Assumes nothing.
use Rattle.drill_lines.proofs.Refusals.{refused_kind, other_kind}
use Rattle.story_run.proofs.ToldLaws.{sheet-refused, too_long, restarted}
use Rattle.story_run.proofs.resume.Goals as goal

pub returns-in-Refused : goal.returns-in-Refused
returns-in-Refused c =
    let ends = sheet-refused _ _ _ c.if-journal-gt-MOST_LINES.true _ c.campaign_check-bits.ensures (refused_kind _ _ c.from.ensures c.in-Refused.is) in
    record { answer = ends.0; left = ends.1 }

pub returns-in_default : goal.returns-in_default
returns-in_default c =
    let ends = too_long _ _ _ c.if-journal-gt-MOST_LINES.true _ c.campaign_check-bits.ensures (other_kind _ _ c.from.ensures c.in_default.not-Refused) _ c.pack.ensures in
    record { answer = ends.0; left = ends.1 }

pub returns : goal.returns
returns c =
    let called = c.campaign_restart.ensures in
    let ends = restarted _ _ _ c.requires c.if-journal-gt-MOST_LINES.false _ called.answer _ called.left in
    record { answer = ends.0; left = ends.1 }
