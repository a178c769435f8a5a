-- What is left of `sheet::read_outline`.
-- Assumes nothing.
use Rattle.std.proofs.lemmas.Result.{err_from_is_err_and}
use Rattle.lines.proofs.RoundTrip.{head-limits}
use Rattle.sheet.proofs.SheetLaws.{head-refused, head-right}
use Rattle.sheet.proofs.read_outline.Goals as goal

pub read_body-requires : goal.read_body-requires
read_body-requires c =
    let l = head-limits _ _ _ _ _ _ _ c.read_head.ensures c.in_ok-counts.was in
    (l.bookings, l.links, l.ways, c.requires)

pub returns : goal.returns
returns c =
    let b = c.read_body.ensures in
    let o = head-right _ c.args.s.now _ (rw c.part.ensures at c.in_ok-counts.ensures) _ _ _ (b.told, b.left) in
    record { told = o.0; left = o.1 }

pub returns-in_err-counts : goal.returns-in_err-counts
returns-in_err-counts c =
    let p = err_from_is_err_and c.from_residual.result c.from_residual.ensures.1 in
    let o = head-refused _ c.args.s.now _ (rw c.part.ensures at c.in_err-counts.ensures) in
    record { told = rw (p.1, p.2) o.0; left = rw c.requires o.1 }
