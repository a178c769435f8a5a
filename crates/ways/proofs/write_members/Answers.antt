-- What is left of `ways::write_members`.
-- Assumes nothing.
use Rattle.std.proofs.Common.{arith, refl}
use Rattle.decimal.proofs.Laws.{put-field}
use Rattle.ways.proofs.TextLaws.{one-less, members-on, none-left, members-done}
use Rattle.ways.proofs.write_members.Goals as goal

pub loop-b-init : goal.loop-b-init
loop-b-init c = (refl, refl)

pub loop-b-preserved : goal.loop-b-preserved
loop-b-preserved c =
    let i = c.loop-b.invariant in
    let begun = rw (c.into_iter-b-iterator.ensures.into_iter_gives, c.members_of-b-items.ensures) at i in
    let less = one-less _ _ _ c.in-Some.ensures.steps in
    let f = put-field _ _ _ _ 4 _ (omega arith) (omega (arith, less, begun.0)) c.write_field.ensures in
    (omega (arith, less), members-on _ _ _ c.in-Some.ensures.steps _ _ _ _ i.1 f)

pub returns : goal.returns
returns c =
    let i = rw (c.into_iter-b-iterator.ensures.into_iter_gives, c.members_of-b-items.ensures) at c.loop-b.invariant in
    let n = c.in-None.ensures.steps.0 in
    record { next = omega (arith, none-left _ n, i.0); text = members-done _ _ _ _ n i.1 }
