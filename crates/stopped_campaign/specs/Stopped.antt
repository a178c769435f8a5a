-- The whole campaign across a stop, on the code's own calls. The sheet s passes, start has been accepted with it and left the state `begun`;
-- then calls of next order, reply and block were made and their lines stored. restart_call and restart_leaves are what the contract of restart
-- says; it was lent the 65 bytes `lent`.
-- Assumes nothing.
use Rattle.std.specs.Prelude.{◌≡◌, Bool, true, ◌&&◌, ◌||◌, List, [], ◌∷◌, ◌++◌, ℕ, suc, ◌+◌, ◌*◌, ◌/◌, ◌≤◌, eqb, length, get_or, take}
use Rattle.bounded.specs.Bounded.{one}
use Rattle.standing.specs.Standing.{requested, returning}
use Rattle.run.specs.Replies.{Y, N, G, K}
use Rattle.event_lines.specs.Line.{Q, U}
use Rattle.guarantee.specs.Answers.{pack, kind_of, place_of}
use Rattle.guarantee.specs.Machine.{Asked, next_order, replied}
use Rattle.guarantee.specs.Counted.{accepts, tally}
use Rattle.calls.specs.Calls.{asked_call}
use Rattle.journal_calls.specs.Journal.{journal_of, calls_of, has_line}
use Rattle.journal_calls.specs.Restart.{restart_call, restart_leaves}
use Rattle.whole_campaign.specs.Calls.{Call, block, singles, gives, leaves}
use Rattle.whole_campaign.specs.Lists.{answers_on, states_on, left_on}
use Rattle.whole_campaign.specs.Singly.{kept_by, singly_on, told_on}
use Rattle.whole_campaign.specs.Whole.{WholeCampaign}

-- the journal that was stored: the lines of the calls and their answers, of a block those of the replies that it keeps
unfoldable pub journal_on : List ℕ → List ℕ → List Call → List ℕ
journal_on s begun cs = journal_of (singly_on s begun cs) (told_on s begun cs)

-- its whole lines, without a tail shorter than six bytes
unfoldable pub whole_lines : List ℕ → List ℕ
whole_lines journal = take (6 * (length journal / 6)) journal

-- WRITABLE. After the calls cs: the call that writes a line takes the letter and the booking of each order, and of each accepted reply.
pub record Writable (s begun : List ℕ) (cs : List Call) : Type 0 where
  pub of_request : kind_of (asked_call s (left_on s begun cs) next_order) ≡ 1 → has_line Q (place_of (asked_call s (left_on s begun cs) next_order)) ≡ true
  pub of_return : kind_of (asked_call s (left_on s begun cs) next_order) ≡ 2 → has_line U (place_of (asked_call s (left_on s begun cs) next_order)) ≡ true
  pub of_reply : (l b : ℕ) → accepts (asked_call s (left_on s begun cs) (replied l b)) ≡ true → has_line l b ≡ true

-- OF A BLOCK. After the calls cs the block `lines` is given.
pub record OfABlock (s begun lent : List ℕ) (cs : List Call) (lines : List ℕ) : Type 0 where
  -- what is to be stored are the block's own first lines, as many as its answer says that it keeps
  pub stored : journal_on s begun (cs ++ (block lines ∷ [])) ≡ journal_on s begun cs ++ take (6 * kept_by (gives s (left_on s begun cs) (block lines))) lines
  -- with them restart is accepted and gives the state after the block
  pub accepted : restart_call s (journal_on s begun cs ++ take (6 * kept_by (gives s (left_on s begun cs) (block lines))) lines) lent ≡ pack 6 0 0
  pub follows : restart_leaves s (journal_on s begun cs ++ take (6 * kept_by (gives s (left_on s begun cs) (block lines))) lines) lent ≡ leaves s (left_on s begun cs) (block lines)

-- FAITHFUL. A stop leaves the first c bytes of the journal of the calls cs.
pub record Faithful (s begun lent : List ℕ) (cs : List Call) (c : ℕ) : Type 0 where
  -- restart accepts them
  pub accepted : restart_call s (take c (journal_on s begun cs)) lent ≡ pack 6 0 0
  -- and gives the state after exactly the calls of the whole lines
  pub follows : restart_leaves s (take c (journal_on s begun cs)) lent ≡ left_on s begun (singles (calls_of (take c (journal_on s begun cs))))
  -- which the campaign, its replies given singly, had at a moment before the stop: whatever came later, without its whole line, counts as not made
  pub moment : (before later : List Asked) × (singly_on s begun cs ≡ before ++ later) × (whole_lines (take c (journal_on s begun cs)) ≡ journal_on s begun (singles before))
      × (restart_leaves s (take c (journal_on s begun cs)) lent ≡ left_on s begun (singles before))
  -- with the whole journal it is the state after all the calls
  pub whole : length (journal_on s begun cs) ≤ c → restart_leaves s (take c (journal_on s begun cs)) lent ≡ left_on s begun cs

-- ---- the open orders, counted from the calls and their 32 bits alone

-- an order of a kind, 1 a request and 2 a return, names booking b
unfoldable pub ordered_as : ℕ → ℕ → Asked → ℕ → ℕ
ordered_as kind b next_order x = one (eqb (place_of x) b && eqb (kind_of x) kind)
ordered_as kind b (replied l n) x = 0

-- an accepted reply with one of the letters names booking b
unfoldable pub answered_by : (ℕ → Bool) → ℕ → Asked → ℕ → ℕ
answered_by letters b next_order x = 0
answered_by letters b (replied l n) x = one (accepts x && (eqb n b && letters l))

-- the letters that answer a request, and those that answer a return
unfoldable pub answers_request : ℕ → Bool
answers_request l = eqb l Y || eqb l N

unfoldable pub answers_return : ℕ → Bool
answers_return l = eqb l G || eqb l K

-- OPEN. Of a booking whose byte is the code one order of the kind more was taken than replies with the letters accepted, of any other as many.
abbrev pub Open : List ℕ → List ℕ → List ℕ → List ℕ → ℕ → (ℕ → Bool) → ℕ → Type 0
Open s begun lent journal kind letters code = (b : ℕ) → tally (ordered_as kind (suc b)) (calls_of journal) (answers_on s begun (singles (calls_of journal)))
    ≡ tally (answered_by letters (suc b)) (calls_of journal) (answers_on s begun (singles (calls_of journal))) + one (eqb (get_or (restart_leaves s journal lent) (suc b) 0) code)

-- ACROSS THE STOP. Restart accepts a journal, and the calls cs are made after it.
pub record AcrossTheStop (s begun lent journal : List ℕ) (cs : List Call) : Type 0 where
  -- restart leaves the state that the calls of the journal leave, made from the start
  pub left : restart_leaves s journal lent ≡ left_on s begun (singles (calls_of journal))
  -- so the answers and the states after it are the second part of those of both lists as one
  pub answers : answers_on s begun (singles (calls_of journal) ++ cs) ≡ answers_on s begun (singles (calls_of journal)) ++ answers_on s (restart_leaves s journal lent) cs
  pub states : states_on s begun (singles (calls_of journal) ++ cs) ≡ states_on s begun (singles (calls_of journal)) ++ states_on s (restart_leaves s journal lent) cs
  -- the journal's whole lines, and after them the lines of the calls after the restart, are the journal of both: the next stop is as the first
  pub stored : whole_lines journal ++ journal_on s (restart_leaves s journal lent) cs ≡ journal_on s begun (singles (calls_of journal) ++ cs)
  -- and both as one are a whole campaign, with all that is claimed of one
  pub whole : WholeCampaign s begun (singles (calls_of journal) ++ cs)
  -- the orders to send again: a request of each booking whose byte is 1, a return of each whose byte is 4, and no other
  pub open_requests : Open s begun lent journal 1 answers_request requested
  pub open_returns : Open s begun lent journal 2 answers_return returning

-- EXACT. A journal that restart accepts is, but for its tail, the journal of its calls; nothing else is accepted.
abbrev pub Exact : List ℕ → List ℕ → List ℕ → Type 0
Exact s begun journal = whole_lines journal ≡ journal_on s begun (singles (calls_of journal))
