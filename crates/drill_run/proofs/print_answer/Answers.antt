-- What is left of `drill_run::print_answer`.
-- Assumes nothing.
use Rattle.std.proofs.Common.{refl}
use Rattle.drill_lines.proofs.PrintLaws.{answer-counts}
use Rattle.drill_run.proofs.print_answer.Goals as goal

pub slice_bounds-line-end : goal.slice_bounds-line-end
slice_bounds-line-end c = (answer-counts _ _ _ _ refl c.write_answer-n.ensures.size c.write_answer-n.ensures.text).0

pub slice_bounds-print-end-2 : goal.slice_bounds-print-end-2
slice_bounds-print-end-2 c = (answer-counts _ _ _ _ refl c.write_answer-n.ensures.size c.write_answer-n.ensures.text).1
