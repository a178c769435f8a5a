-- What is left of `settle_run::print_settled`.
-- Assumes nothing.
use Rattle.std.proofs.Common.{refl}
use Rattle.settle_run.proofs.SettledLaws.{settled-counts}
use Rattle.settle_run.proofs.print_settled.Goals as goal

pub slice_bounds-text-end : goal.slice_bounds-text-end
slice_bounds-text-end c = (settled-counts _ _ _ _ _ _ refl c.write_settled-n.ensures.size c.write_settled-n.ensures.text).0

pub slice_bounds-print-end-2 : goal.slice_bounds-print-end-2
slice_bounds-print-end-2 c = (settled-counts _ _ _ _ _ _ refl c.write_settled-n.ensures.size c.write_settled-n.ensures.text).1
