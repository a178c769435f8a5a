-- What the campaign guarantees, on the code's own calls: what holds of a whole campaign, which never strands, and that it is semi-atomic.
-- The sheet s passes, start has been accepted with it and left the state bs; then the list cs of next orders, replies and blocks of replies is
-- made, in any mixture, the replies with any letter and any booking, the blocks with any bytes. In the count a block is the replies that it
-- keeps, given singly. The lists are by what the contracts of the calls for C say.
-- Assumes nothing.
use Rattle.std.specs.Prelude.{◌≡◌, true, List, map, ℕ, suc, ◌<◌, eqb, drop}
use Rattle.sets.specs.Sets.{member}
use Rattle.plan.specs.Limits.{most_desks}
use Rattle.ways.specs.Ways.{counts_listed, listed_on}
use Rattle.lines.specs.Form.{ways_place}
use Rattle.lines.specs.Head.{limit_in}
use Rattle.lines.specs.Bookings.{letter_on, desk_on}
use Rattle.sheet.specs.Sheet.{sheet_of}
use Rattle.network.specs.FromPlan.{is_firm, is_repeating}
use Rattle.network.specs.Network.{in_way, desk_of, firm, repeats}
use Rattle.run.specs.State.{start}
use Rattle.run.specs.Bytes.{bytes_of}
use Rattle.guarantee.specs.Machine.{next_order}
use Rattle.guarantee.specs.Counted.{ends, way_sizes}
use Rattle.guarantee.specs.Demand.{Demand3, SemiAtomic}
use Rattle.calls.specs.Calls.{network_in, asked_call}
use Rattle.whole_campaign.specs.Calls.{Call, singles}
use Rattle.whole_campaign.specs.Lists.{answers_on, states_on, left_on, answers_by, states_by}
use Rattle.whole_campaign.specs.Singly.{singly_on, told_on}

pub record WholeCampaign (s bs : List ℕ) (cs : List Call) : Type 0 where
  -- each call's 32 bits are the plain machine's, which is fed with the sheet and the list's calls alone
  pub bits : answers_on s bs cs ≡ answers_by (network_in s) start cs
  -- and so are the state's 65 bytes after each call
  pub bytes : states_on s bs cs ≡ map bytes_of (states_by (network_in s) start cs)
  -- the list with the kept replies given singly, if its calls are made instead, gets these answers and leaves the same state
  pub same_answers : answers_on s bs (singles (singly_on s bs cs)) ≡ told_on s bs cs
  pub same_state : left_on s bs (singles (singly_on s bs cs)) ≡ left_on s bs cs
  -- progress, flown, called off, the bound 4s + 2q and the desks' limit, counted from the calls and their 32 bits
  pub demand_3 : Demand3 (network_in s) (singly_on s bs cs) (told_on s bs cs) (asked_call s (left_on s bs cs) next_order)
  -- s in that bound is the sum of the counts that the sheet's way lines list
  pub sizes : way_sizes (network_in s) ≡ counts_listed (sheet_of s).plan.a (drop (ways_place (sheet_of s).plan.n (sheet_of s).plan.m) s)
  -- as many ways as the sheet has, and by the numbers on their lines these are their bookings
  pub ways : ((network_in s).a ≡ (sheet_of s).plan.a) × ((w b : ℕ) → w < (sheet_of s).plan.a → in_way (network_in s) (suc w) b ≡ listed_on w b (drop (ways_place (sheet_of s).plan.n (sheet_of s).plan.m) s))
  -- by the letters on the sheet's booking lines, the firm ones in called off are P and R, and those whose refusals q counts are R and D
  pub kinds : (b : ℕ) → b < (sheet_of s).plan.n → (firm (network_in s) b ≡ is_firm (letter_on s b)) × (repeats (network_in s) b ≡ is_repeating (letter_on s b))
  -- by the numbers on the sheet's lines, these are the desks' bookings, and this is the limit of their open matters
  pub desks : (d b : ℕ) → d < most_desks → b < (sheet_of s).plan.n → member (desk_of (network_in s) d) b ≡ eqb (desk_on s b) (suc d)
  pub limit : (network_in s).limit ≡ limit_in s
  -- a list after which next order gives the end is semi-atomic
  pub semi_atomic : ends (asked_call s (left_on s bs cs) next_order) ≡ true → SemiAtomic (network_in s) (singly_on s bs cs) (told_on s bs cs)
