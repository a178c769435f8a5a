-- What planners' program prints of a plan sheet and a journal: the listing of the state that follows the journal, or the refusal as the drill
-- prints it.
-- Assumes nothing.
use Rattle.std.specs.Prelude.{ℕ, ◌*◌, ◌/◌, ◌≡◌, cond, List, eqb, leb, length}
use Rattle.run.specs.State.{start}
use Rattle.guarantee.specs.Answers.{pack, kind_of}
use Rattle.guarantee.specs.Machine.{final}
use Rattle.calls.specs.Calls.{network_in, sheet_passes, check_call}
use Rattle.journal_calls.specs.Journal.{calls_of}
use Rattle.journal_calls.specs.Restart.{replay, replay_bits}
use Rattle.charges.specs.Charges.{most_lines}
use Rattle.drill_lines.specs.Printed.{printed_text}
use Rattle.passed_ways.specs.Listing.{line_bytes, listing}
use Rattle.passed_ways.specs.Story.{Story}

-- no listing is longer than that of 16 ways
abbrev pub longest_listing : ℕ
longest_listing = line_bytes * 16

-- the sheet's refusals, 14 for a journal above 10,000 lines, then 12; or accepted
unfoldable pub resume_bits : List ℕ → List ℕ → ℕ
resume_bits s journal =
    cond (sheet_passes s) (cond (leb (length journal / 6) most_lines) (replay_bits (replay (network_in s) journal).wrong) (pack 0 14 0)) (check_call s)

unfoldable pub story_text : List ℕ → List ℕ → List ℕ
story_text s journal =
    cond (eqb (kind_of (resume_bits s journal)) 0) (printed_text (resume_bits s journal)) (listing (network_in s) (replay (network_in s) journal).run)

-- A JOURNAL THAT IS TAKEN TO ITS END: what is printed tells the story of the state after the calls of its lines
pub record Retold (s journal : List ℕ) : Type 0 where
  pub state : (replay (network_in s) journal).run ≡ final (network_in s) start (calls_of journal)
  pub story : Story (network_in s) (replay (network_in s) journal).run (story_text s journal)
