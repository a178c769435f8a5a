-- The story of a whole campaign, by the code's own calls. The sheet s passes, start has been accepted with it and left the state bs; then the list
-- cs of next orders, replies and blocks of replies is made, and the listing is asked for with a buffer d.
-- Assumes nothing.
use Rattle.std.specs.Prelude.{◌≡◌, ◌&&◌, List, ℕ, suc, ◌*◌, ◌≤◌, eqb, length}
use Rattle.bounded.specs.Bounded.{one}
use Rattle.run.specs.Replies.{N}
use Rattle.run.specs.Bytes.{run_of}
use Rattle.guarantee.specs.Answers.{kind_of}
use Rattle.guarantee.specs.Machine.{Asked, next_order, replied}
use Rattle.guarantee.specs.Counted.{accepts, confirmed, returned, tally}
use Rattle.calls.specs.Calls.{network_in}
use Rattle.passed_ways.specs.declared.Reason.{Reason}
use Rattle.passed_ways.specs.declared.Reason.TheVariants.{Lost, Lacks}
use Rattle.passed_ways.specs.Listing.{line_bytes}
use Rattle.passed_ways.specs.Story.{Because}
use Rattle.passed_calls.specs.Shown.{answer, Tells}
use Rattle.whole_campaign.specs.Calls.{Call}
use Rattle.whole_campaign.specs.Lists.{left_on}
use Rattle.whole_campaign.specs.Singly.{singly_on, told_on}

-- an N to booking b was accepted; a number for a call and its answer
unfoldable pub declined : ℕ → Asked → ℕ → ℕ
declined b next_order x = 0
declined b (replied l n) x = one (accepts x && (eqb n b && eqb l N))

module _ (s bs : List ℕ) (cs : List Call) where
  -- a counter over the calls and their answers, each block as the replies that it keeps
  unfoldable pub counted : (Asked → ℕ → ℕ) → ℕ
  counted f = tally f (singly_on s bs cs) (told_on s bs cs)

  -- IT HAPPENED: of a lost booking, that its desk refused it, once; of one that is held and firm, that its desk confirmed it, once, and that it was
  -- never given back
  pub data Happened : Reason → Type 0 where
    was_refused : {b : ℕ} → counted (declined (suc b)) ≡ 1 → Happened (Lost b)
    was_confirmed : {b : ℕ} → counted (confirmed (suc b)) ≡ 1 → counted (returned (suc b)) ≡ 0 → Happened (Lacks b)

  pub record ToldCampaign (d : List ℕ) : Type 0 where
    -- a buffer for 16 lines is always long enough, and nothing else is ever wrong
    pub accepted : line_bytes * 16 ≤ length d → kind_of (answer s (left_on s bs cs) d) ≡ 6
    -- an accepted listing tells the story of the state
    pub tells : kind_of (answer s (left_on s bs cs) d) ≡ 6 → Tells s (left_on s bs cs) d
    -- and every reason that is true of the state happened
    pub happened : (w : ℕ) (y : Reason) → Because (network_in s) (run_of (left_on s bs cs)) w y → Happened y
