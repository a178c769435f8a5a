-- What is left of `story_run::print_story`.
-- Assumes nothing.
use Rattle.std.proofs.Common.{refl}
use Rattle.story_run.proofs.ToldLaws.{story-counts}
use Rattle.story_run.proofs.print_story.Goals as goal

pub slice_bounds-text-end : goal.slice_bounds-text-end
slice_bounds-text-end c = (story-counts _ _ _ _ _ refl c.write_story-n.ensures.size c.write_story-n.ensures.text).0

pub slice_bounds-print-end-2 : goal.slice_bounds-print-end-2
slice_bounds-print-end-2 c = (story-counts _ _ _ _ _ refl c.write_story-n.ensures.size c.write_story-n.ensures.text).1
