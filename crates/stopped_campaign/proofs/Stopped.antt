-- A campaign that is stopped and restarted: the theorems, for every sheet that passes and every list of calls, on bytes and in 32 bits.
-- Assumes nothing.
use mathlib.Core.Path.{◌≡◌, refl, sym, ap, ◌∙◌}
use mathlib.Core.Logic.{inl, inr}
use mathlib.Core.Bool.{Bool, true}
use mathlib.Core.List.{List, [], ◌∷◌, ◌++◌, map, append_assoc, append-nil}
use Prim.Native.Nat.{ℕ, ◌+◌, ◌*◌, ◌/◌, ◌≤◌}
use native.Mathlib.Omega.{arith}
use lib.Dec.{eqb}
use native.Mathlib.Nat.{le_refl}
use lib.ListN.{length, take}
use lib.Seq.{take-length}
use borrow.Author.Tests.{eqb-true, eq-eqb}
use Rattle.bounded.proofs.Bools.{which}
use Rattle.run.specs.State.{code, start}
use Rattle.run.specs.Bytes.{bytes_of}
use Rattle.guarantee.specs.Answers.{pack, unsound}
use Rattle.guarantee.specs.Machine.{Asked, next_order, replied, final}
use Rattle.guarantee.proofs.Start.{start-sound}
use Rattle.guarantee.proofs.Whole.{travel}
use Rattle.calls.specs.Calls.{network_in, sheet_passes, check_call, start_leaves}
use Rattle.calls.proofs.FirstAnswer.{refused-low}
use Rattle.journal_calls.specs.Journal.{entry_of, journal_of, calls_from, calls_of}
use Rattle.journal_calls.specs.Restart.{Replayed, replay, line_place, replay_bits, restart_call, restarts, restart_leaves}
use Rattle.journal_calls.proofs.Exits.{place-small}
use Rattle.block_calls.specs.Block.{lines_of}
use Rattle.whole_campaign.specs.Calls.{Call, single, block, singles, gives, leaves, gives_by}
use Rattle.whole_campaign.specs.Lists.{answers_on, left_on}
use Rattle.whole_campaign.specs.Singly.{kept_by, calls_in, kept_as, answers_in, singly, singly_told, singly_on, told_on}
use Rattle.whole_campaign.proofs.Lists.{answers-append, states-append, left-append, singles-calls}
use Rattle.whole_campaign.proofs.Parts.{parts, told-kept, calls-told}
use Rattle.calls.proofs.InOrder.{passing}
use Rattle.whole_campaign.proofs.Whole.{gives-is, left-final, singles-left, singles-bits, answer-is, started, from_start}
use Rattle.stopped_campaign.specs.Stopped.{journal_on, whole_lines, Writable, OfABlock, Faithful, Open, AcrossTheStop, Exact}
use Rattle.stopped_campaign.proofs.OneLine.{next-has, reply-has}
use Rattle.stopped_campaign.proofs.Blocks.{kept-lines}
use Rattle.stopped_campaign.proofs.Replays.{machine_journal, Cut, cut, Replays, replayed}
use Rattle.stopped_campaign.proofs.OpenOrders.{Matched, of-requests, of-returns, open-orders}

-- ---- what restart's answer says

-- it is accepted where the sheet passes, the state has 65 bytes and no line is wrong
pub record Accepted (s journal lent : List ℕ) : Type 0 where
  pub passes : sheet_passes s ≡ true
  pub size : length lent ≡ 65
  pub right : (replay (network_in s) journal).wrong ≡ 0

bits-right : (wrong : ℕ) → replay_bits wrong ≡ pack 6 0 0 → wrong ≡ 0
unfolding replay_bits pack
bits-right wrong e = elim (which (eqb wrong 0)) [
  | inl z ↦ eqb-true wrong 0 z
  | inr z ↦ absurd (let y : 0 * 16777216 + 12 * 65536 + line_place wrong ≡ 6 * 16777216 + 0 * 65536 + 0 = rw z at e in omega (arith, place-small wrong))
]

pub accepted-e : (s journal lent : List ℕ) → restart_call s journal lent ≡ pack 6 0 0 → Accepted s journal lent
unfolding restart_call unsound pack
accepted-e s journal lent e = elim (which (sheet_passes s)) [
  | inl p ↦ elim (which (eqb (length lent) 65)) [
    | inl h ↦ record { passes = p; size = eqb-true (length lent) 65 h; right = bits-right _ (rw (p, h) at e) }
    | inr h ↦ absurd (let y : 0 * 16777216 + 11 * 65536 + 0 ≡ 6 * 16777216 + 0 * 65536 + 0 = rw (p, h) at e in omega arith)
  ]
  | inr p ↦ absurd (let y : check_call s ≡ 6 * 16777216 + 0 * 65536 + 0 = rw p at e in omega (arith, refused-low s p))
]

module _ (s journal lent : List ℕ) (a : Accepted s journal lent) where
  pub accepted-i : restart_call s journal lent ≡ pack 6 0 0
  unfolding restart_call replay_bits
  accepted-i = rw (a.passes, eq-eqb (length lent) 65 a.size, a.right)

  pub leaves-is : restart_leaves s journal lent ≡ bytes_of (replay (network_in s) journal).run
  unfolding restart_leaves restarts
  leaves-is = rw (a.passes, eq-eqb (length lent) 65 a.size, a.right)

-- two lists of calls as one have the journals of both
kept_append : (ps qs : List Asked) (ys : List ℕ) → journal_of (ps ++ qs) (map kept_as ps ++ ys) ≡ journal_of ps (map kept_as ps) ++ journal_of qs ys
unfolding journal_of
kept_append [] qs ys = refl
kept_append (p ∷ ps) qs ys =
    ap (λ (t : List ℕ). entry_of p (kept_as p) ++ t) (kept_append ps qs ys) ∙ sym (append_assoc (entry_of p (kept_as p)) (journal_of ps (map kept_as ps)) (journal_of qs ys))

call-append : (c : Call) (x : ℕ) (qs : List Asked) (ys : List ℕ) → journal_of (calls_in c x ++ qs) (answers_in c x ++ ys) ≡ journal_of (calls_in c x) (answers_in c x) ++ journal_of qs ys
unfolding calls_in answers_in journal_of
call-append (single q) x qs ys = sym (append_assoc (entry_of q x) [] (journal_of qs ys))
call-append (block lines) x qs ys = kept_append (calls_from (kept_by x) lines) qs ys

-- the lines of one call
abbrev entries_of : Call → ℕ → List ℕ
entries_of c x = journal_of (calls_in c x) (answers_in c x)

journal-on : (s bs : List ℕ) (c : Call) (cs : List Call) → journal_on s bs (c ∷ cs) ≡ entries_of c (gives s bs c) ++ journal_on s (leaves s bs c) cs
unfolding journal_on singly_on told_on singly singly_told answers_on
journal-on s bs c cs = call-append c (gives s bs c) _ _

journal-none : (s bs : List ℕ) → journal_on s bs [] ≡ []
unfolding journal_on singly_on told_on singly singly_told journal_of
journal-none s bs = refl

journal-append : (s bs : List ℕ) (cs ds : List Call) → journal_on s bs (cs ++ ds) ≡ journal_on s bs cs ++ journal_on s (left_on s bs cs) ds
unfolding left_on
journal-append s bs [] ds = rw (journal-none s bs)
journal-append s bs (c ∷ cs) ds =
    journal-on s bs c (cs ++ ds) ∙ ap (λ (t : List ℕ). entries_of c (gives s bs c) ++ t) (journal-append s (leaves s bs c) cs ds)
    ∙ sym (append_assoc (entries_of c (gives s bs c)) (journal_on s (leaves s bs c) cs) (journal_on s (left_on s (leaves s bs c) cs) ds))
    ∙ ap (λ (t : List ℕ). t ++ journal_on s (left_on s (leaves s bs c) cs) ds) (sym (journal-on s bs c cs))

module _ (s : List ℕ) (e : sheet_passes s ≡ true) where
  bookings : (network_in s).n ≤ 64
  bookings = (passing s e).shape.bookings

  ways : (network_in s).a ≤ 16
  ways = (passing s e).shape.few

  -- the stored journal is the plain machine's
  pub journal-is : (cs : List Call) → journal_on s (bytes_of start) cs ≡ machine_journal (network_in s) start (singly_on s (bytes_of start) cs)
  unfolding journal_on
  journal-is cs = let qs : List Asked = singly_on s (bytes_of start) cs in ap (journal_of qs) (sym (from_start s e cs).same_answers ∙ singles-bits s e qs)

  pub journal-singles : (qs : List Asked) → journal_on s (bytes_of start) (singles qs) ≡ machine_journal (network_in s) start qs
  journal-singles qs = journal-is (singles qs) ∙ ap (machine_journal (network_in s) start) (singles-calls s (bytes_of start) qs)

  -- ---- writable

  writable-start : (cs : List Call) → Writable s (bytes_of start) cs
  writable-start cs =
      let ok = passing s e in
      let qs : List Asked = singly_on s (bytes_of start) cs in
      let t = final (network_in s) start qs in
      let k = (travel (network_in s) ok start (start-sound (network_in s) ok) qs).sound in
      let h = next-has (network_in s) bookings t (omega (arith, k.core.way, ways)) in
      record {
        of_request = rw (answer-is s e cs next_order) h.0;
        of_return = rw (answer-is s e cs next_order) h.1;
        of_reply = λ l b. rw (answer-is s e cs (replied l b)) (reply-has (network_in s) bookings t l b);
      }

  -- ---- what restart gives of a journal that it accepts

  module _ (journal lent : List ℕ) (a : Accepted s journal lent) where
    replays : Replays (network_in s) bookings ways start 1 (length journal / 6) journal
    unfolding replay
    replays = replayed (network_in s) bookings ways start 1 (length journal / 6) journal (omega arith) a.right

    left-calls : restart_leaves s journal lent ≡ left_on s (bytes_of start) (singles (calls_of journal))
    unfolding replay calls_of
    left-calls = leaves-is s journal lent a ∙ ap (λ (t : Replayed). bytes_of t.run) replays.state ∙ sym (singles-left s e (calls_of journal))

    pub exact-start : Exact s (bytes_of start) journal
    unfolding whole_lines calls_of
    exact-start = replays.lines ∙ sym (journal-singles (calls_of journal))

  -- ---- faithful

  module _ (lent : List ℕ) (h : length lent ≡ 65) (cs : List Call) (c : ℕ) where
    qs : List Asked
    qs = singly_on s (bytes_of start) cs

    J : List ℕ
    J = take c (machine_journal (network_in s) start qs)

    stop : Cut (network_in s) start 1 qs c
    unfolding start
    stop = cut (network_in s) bookings ways start (omega arith) 1 qs c

    stop-right : Accepted s J lent
    unfolding J replay
    stop-right = record { passes = e; size = h; right = ap (λ (t : Replayed). t.wrong) stop.replays }

    stop-left : restart_leaves s J lent ≡ left_on s (bytes_of start) (singles stop.before)
    unfolding J replay
    stop-left = leaves-is s J lent stop-right ∙ ap (λ (t : Replayed). bytes_of t.run) stop.replays ∙ sym (singles-left s e stop.before)

    pub faithful-start : Faithful s (bytes_of start) lent cs c
    unfolding J qs
    faithful-start =
        let j = journal-is cs in
        record {
          accepted = rw j (accepted-i s J lent stop-right);
          follows = rw j (left-calls J lent stop-right);
          moment = (stop.before, stop.later, stop.parts, rw (j, journal-singles stop.before) stop.lines, rw j stop-left);
          whole = λ k. rw j (stop-left ∙ singles-left s e stop.before ∙ ap bytes_of (stop.all (rw j at k)) ∙ sym (left-final s e cs));
        }

  -- ---- of a block

  module _ (cs : List Call) (lines : List ℕ) where
    kept : ℕ
    kept = kept_by (gives s (left_on s (bytes_of start) cs) (block lines))

    -- the lines of the block, from the state that the calls before it left
    block-lines : entries_of (block lines) (gives s (left_on s (bytes_of start) cs) (block lines)) ≡ take (6 * kept) lines
    unfolding kept calls_in answers_in gives_by parts lines_of
    block-lines =
        let ok = passing s e in
        let qs : List Asked = singly_on s (bytes_of start) cs in
        let t = final (network_in s) start qs in
        let k = (travel (network_in s) ok start (start-sound (network_in s) ok) qs).sound in
        let c = calls-told (network_in s) ok t k (block lines) in
        let n = told-kept (network_in s) ok t k lines in
        rw (left-final s e cs, gives-is s e t k (block lines), c, n) (kept-lines (network_in s) bookings ((length lines + 5) / 6) t lines)

    block-stored : journal_on s (bytes_of start) (cs ++ (block lines ∷ [])) ≡ journal_on s (bytes_of start) cs ++ take (6 * kept) lines
    block-stored =
        let bs : List ℕ = left_on s (bytes_of start) cs in
        journal-append s (bytes_of start) cs (block lines ∷ [])
        ∙ ap (λ (t : List ℕ). journal_on s (bytes_of start) cs ++ t) (journal-on s bs (block lines) [] ∙ rw (journal-none s (leaves s bs (block lines)), block-lines) (append-nil (take (6 * kept) lines)))

    block_start : (lent : List ℕ) → length lent ≡ 65 → OfABlock s (bytes_of start) lent cs lines
    unfolding kept left_on
    block_start lent h =
        let all : List Call = cs ++ (block lines ∷ []) in
        let J : List ℕ = journal_on s (bytes_of start) all in
        let f = faithful-start lent h all (length J) in
        record {
          stored = block-stored;
          accepted = rw (← block-stored) (rw (take-length J) at f.accepted);
          follows = rw (← block-stored) ((rw (take-length J) at (f.whole (le_refl (length J)))) ∙ left-append s (bytes_of start) cs (block lines ∷ []));
        }

  -- ---- across the stop

  -- the open orders of a journal that restart accepts, by the bytes that it leaves
  open-start : (journal lent : List ℕ) → Accepted s journal lent → {kind c : ℕ} {letters : ℕ → Bool} → Matched kind letters c → Open s (bytes_of start) lent journal kind letters c
  unfolding bytes_of code
  open-start journal lent a k b =
      let qs : List Asked = calls_of journal in
      rw (left-calls journal lent a, singles-bits s e qs, singles-left s e qs) (open-orders (network_in s) (passing s e) k qs b)

  across-start : (journal lent : List ℕ) → Accepted s journal lent → (cs : List Call) → AcrossTheStop s (bytes_of start) lent journal cs
  across-start journal lent a cs =
      let l = left-calls journal lent a in
      record {
        left = l;
        answers = answers-append s (bytes_of start) (singles (calls_of journal)) cs ∙ rw l;
        states = states-append s (bytes_of start) (singles (calls_of journal)) cs ∙ rw l;
        stored = rw l (ap (λ (t : List ℕ). t ++ journal_on s (left_on s (bytes_of start) (singles (calls_of journal))) cs) (exact-start journal lent a) ∙ sym (journal-append s (bytes_of start) (singles (calls_of journal)) cs));
        whole = from_start s e (singles (calls_of journal) ++ cs);
        open_requests = open-start journal lent a of-requests;
        open_returns = open-start journal lent a of-returns;
      }

-- ---- the theorems, from the state that start leaves, whatever its 65 bytes were before

module _ (s old : List ℕ) (size : length old ≡ 65) where
  -- for a sheet that passes and every list of calls
  pub writable : sheet_passes s ≡ true → (cs : List Call) → Writable s (start_leaves s old) cs
  writable e cs = rw (started s e old size) (writable-start s e cs)

  -- for a sheet that passes, every list of calls and every cut of its journal
  pub faithful : sheet_passes s ≡ true → (lent : List ℕ) → length lent ≡ 65 → (cs : List Call) (c : ℕ) → Faithful s (start_leaves s old) lent cs c
  faithful e lent h cs c = rw (started s e old size) (faithful-start s e lent h cs c)

  -- for a sheet that passes, every list of calls and every block after it
  pub of-a-block : sheet_passes s ≡ true → (lent : List ℕ) → length lent ≡ 65 → (cs : List Call) (lines : List ℕ) → OfABlock s (start_leaves s old) lent cs lines
  of-a-block e lent h cs lines = rw (started s e old size) (block_start s e cs lines lent h)

  -- for everything that restart accepts, and every list of calls after it
  pub across-the-stop : (journal lent : List ℕ) → restart_call s journal lent ≡ pack 6 0 0 → (cs : List Call) → AcrossTheStop s (start_leaves s old) lent journal cs
  across-the-stop journal lent e cs =
      let a = accepted-e s journal lent e in
      rw (started s a.passes old size) (across-start s a.passes journal lent a cs)

  -- for everything that restart accepts
  pub exact : (journal lent : List ℕ) → restart_call s journal lent ≡ pack 6 0 0 → Exact s (start_leaves s old) journal
  exact journal lent e =
      let a = accepted-e s journal lent e in
      rw (started s a.passes old size) (exact-start s a.passes journal lent a)
