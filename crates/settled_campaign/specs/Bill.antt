-- The bill of a campaign. The sheet s passes, start has been accepted with it and left the state `begun`. What the report counts, from the
-- journal's lines, is what the campaign's calls and their answers say: a confirmation is an accepted Y, a return an accepted G.
-- Assumes nothing.
use Rattle.std.specs.Prelude.{◌≡◌, true, List, ℕ, suc, ◌+◌, ◌*◌, ◌/◌, ◌≤◌, length}
use Rattle.guarantee.specs.Machine.{Asked}
use Rattle.guarantee.specs.Counted.{confirmed, returned, tally}
use Rattle.journal_calls.specs.Journal.{calls_of}
use Rattle.charges.specs.Charges.{most_lines}
use Rattle.report.specs.Report.{confirmed_in, returned_in, amount_in}
use Rattle.settle_calls.specs.Settle.{wrong_charge, settles}
use Rattle.whole_campaign.specs.Calls.{Call, singles}
use Rattle.whole_campaign.specs.Lists.{answers_on}
use Rattle.whole_campaign.specs.Singly.{singly_on, told_on}
use Rattle.whole_campaign.specs.Whole.{WholeCampaign}
use Rattle.stopped_campaign.specs.Stopped.{journal_on, whole_lines}

-- the report on a journal counts these calls and their answers
pub record Counts (journal : List ℕ) (qs : List Asked) (xs : List ℕ) : Type 0 where
  pub confirmations : (b : ℕ) → confirmed_in journal b ≡ tally (confirmed (suc b)) qs xs
  pub returns : (b : ℕ) → returned_in journal b ≡ tally (returned (suc b)) qs xs
  -- at any fees, those of the report's two columns among them
  pub amounts : (cs rs : ℕ → ℕ) (b : ℕ) → amount_in journal cs rs b ≡ tally (confirmed (suc b)) qs xs * cs b + tally (returned (suc b)) qs xs * rs b

-- BILLED. The calls cs were made and their lines stored.
pub record Billed (s begun fees : List ℕ) (cs : List Call) : Type 0 where
  -- with a fee sheet that is right the journal is settled, unless it is too long
  pub settled : length (journal_on s begun cs) / 6 ≤ most_lines → wrong_charge s fees ≡ 0 → settles s fees (journal_on s begun cs) ≡ true
  -- and the report counts the calls, of a block the replies that it keeps
  pub counted : Counts (journal_on s begun cs) (singly_on s begun cs) (told_on s begun cs)

-- NOTHING ELSE IS BILLED. A journal is settled, whoever stored it.
pub record BilledAlone (s begun journal : List ℕ) : Type 0 where
  -- but for its tail it is the journal of its own calls, which are a whole campaign
  pub exact : whole_lines journal ≡ journal_on s begun (singles (calls_of journal))
  pub whole : WholeCampaign s begun (singles (calls_of journal))
  -- and the report counts these
  pub counted : Counts journal (calls_of journal) (answers_on s begun (singles (calls_of journal)))
