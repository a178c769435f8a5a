-- A block is its lines given singly, up to the first bad one: for every sheet that passes and every sound state, one that a campaign reaches or not.
-- Assumes nothing.
use Rattle.std.specs.Prelude.{◌≡◌, false, List, ℕ, ◌*◌, ◌<◌, length, take, drop}
use Rattle.event_lines.specs.Line.{line_of}
use Rattle.std.specs.Prelude.{Some}
use Rattle.guarantee.specs.Machine.{replied}
use Rattle.guarantee.specs.Counted.{accepts}
use Rattle.calls.specs.Calls.{asked_call}
use Rattle.whole_campaign.specs.Calls.{block, singles, gives, leaves}
use Rattle.whole_campaign.specs.Lists.{answers_on, left_on}
use Rattle.whole_campaign.specs.Singly.{kept_by, calls_in, answers_in}

pub record GivenSingly (s bs lines : List ℕ) : Type 0 where
  -- the replies that it keeps, by its answer, are accepted one after the other when they are given singly
  pub accepted : answers_on s bs (singles (calls_in (block lines) (gives s bs (block lines)))) ≡ answers_in (block lines) (gives s bs (block lines))
  -- and leave the state that the block leaves
  pub state : left_on s bs (singles (calls_in (block lines) (gives s bs (block lines)))) ≡ leaves s bs (block lines)
  -- the reply on the next line, if there is one, is not accepted after them
  pub next : 6 * kept_by (gives s bs (block lines)) < length lines → (l b : ℕ) → line_of (take 6 (drop (6 * kept_by (gives s bs (block lines))) lines)) ≡ Some (record { letter = l; booking = b })
      → accepts (asked_call s (leaves s bs (block lines)) (replied l b)) ≡ false
