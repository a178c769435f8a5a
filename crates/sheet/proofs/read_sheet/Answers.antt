-- What is left of `sheet::read_sheet`.
-- Assumes nothing.
use Rattle.sheet.proofs.SheetLaws.{read-fine}
use Rattle.sheet.proofs.read_sheet.Goals as goal

pub returns : goal.returns
returns c =
    let l = c.read_outline.ensures.left in
    rw (c.with_links.ensures, l.0, l.1, c.ours.ensures) (read-fine _ _ _ (rw c.ours.ensures at c.in_ok-outline.ensures.told))
