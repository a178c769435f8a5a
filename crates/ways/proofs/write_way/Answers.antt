-- What is left of `ways::write_way`.
-- Assumes nothing.
use Rattle.std.proofs.Common.{ℕ, refl, arith, rules}
use Rattle.std.proofs.lemmas.List.{length-set}
use Rattle.decimal.proofs.Laws.{put-field}
use Rattle.ways.proofs.TextLaws.{way-sets}
use Rattle.ways.proofs.write_way.Goals as goal

pub returns : goal.returns
returns c =
    let f = put-field _ _ _ _ 4 _ (omega arith) (omega (arith, length-set {A = ℕ})) c.write_field.ensures in
    record { next = search rules; text = way-sets c.args.at c.args.s _ _ c.args.buf.now _ _ _ _ c.size.ensures refl f c.write_members-next.ensures.text c.write_members-next.ensures.next refl }
