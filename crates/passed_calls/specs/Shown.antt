-- What the call tells, by its own answer and the bytes that it leaves in the buffer d.
-- Assumes nothing.
use Rattle.std.specs.Prelude.{ℕ, List, length, take}
use Rattle.run.specs.Bytes.{run_of}
use Rattle.guarantee.specs.Answers.{place_of}
use Rattle.calls.specs.Calls.{network_in}
use Rattle.passed_ways.specs.Story.{Story}
use Rattle.passed_calls.specs.Passed.{passed_call, passed_leaves}

module _ (s bs d : List ℕ) where
  unfoldable pub answer : ℕ
  answer = passed_call s bs (length d)

  -- as many bytes as the answer's place says, from the front
  unfoldable pub shown : List ℕ
  shown = take (place_of answer) (passed_leaves s bs d)

  -- THE CALL WAS ANSWERED WITH KIND 6: these bytes tell the story of the state
  abbrev pub Tells : Type 0
  Tells = Story (network_in s) (run_of bs) shown
