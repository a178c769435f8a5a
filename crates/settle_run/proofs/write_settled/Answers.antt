-- What is left of `settle_run::write_settled`.
-- Assumes nothing.
use Rattle.drill_lines.proofs.Refusals.{refused_kind, other_kind}
use Rattle.settle_run.proofs.SettledLaws.{printed, billed}
use Rattle.settle_run.proofs.write_settled.Goals as goal

pub returns-in-Refused : goal.returns-in-Refused
returns-in-Refused c =
    let called = c.campaign_settle-bits.ensures in
    let is = printed _ _ _ _ c.requires _ called.answer _ called.left (refused_kind _ _ c.from.ensures c.in-Refused.is)
    _ c.write_answer.ensures.size _ c.write_answer.ensures.text in
    record { size = is.0; text = is.1 }

pub returns-in_default : goal.returns-in_default
returns-in_default c =
    let called = c.campaign_settle-bits.ensures in
    let is = billed _ _ _ _ c.requires _ called.answer _ called.left (other_kind _ _ c.from.ensures c.in_default.not-Refused) _ c.place.ensures in
    record { size = is.0; text = is.1 }
