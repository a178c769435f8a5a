-- The bill of a campaign, on the calls' own bytes.
-- Assumes nothing.
use mathlib.Core.Path.{◌≡◌, refl, sym, ap, ◌∙◌}
use mathlib.Core.Bool.{true}
use mathlib.Core.List.{List}
use Prim.Native.Nat.{ℕ, zero, suc, ◌+◌, ◌*◌, ◌/◌, ◌≤◌}
use native.Mathlib.Omega.{arith}
use lib.ListN.{length, take, drop, length-drop}
use lib.Seq.{take-length, take-add, take_at, drop_at, length-take-le}
use borrow.Author.Tests.{eq-eqb, le-leb}
use Rattle.bounded.proofs.Bools.{◌&◌}
use Rattle.network.specs.declared.Network.{Network}
use Rattle.run.specs.State.{start}
use Rattle.run.specs.Bytes.{bytes_of}
use Rattle.run.specs.Replies.{Y, G}
use Rattle.event_lines.specs.Line.{lines_from}
use Rattle.journal.specs.Reading.{journal_lines}
use Rattle.guarantee.specs.Machine.{Asked, machine_answers}
use Rattle.guarantee.specs.Counted.{confirmed, returned, tally}
use Rattle.calls.specs.Calls.{network_in, sheet_passes, start_leaves}
use Rattle.journal_calls.specs.Journal.{calls_of}
use Rattle.charges.specs.Charges.{most_lines, naming, confirmations, returns}
use Rattle.report.specs.Report.{confirmed_in, returned_in}
use Rattle.report.proofs.Counted.{amount-counts}
use Rattle.settle_calls.specs.Settle.{wrong_entry, settles}
use Rattle.settle_calls.proofs.Accepted.{settled-e}
use Rattle.whole_campaign.specs.Calls.{Call, singles}
use Rattle.whole_campaign.specs.Singly.{singly_on, told_on}
use Rattle.calls.proofs.InOrder.{passing}
use Rattle.whole_campaign.proofs.Whole.{singles-bits, started, from_start}
use Rattle.stopped_campaign.specs.Stopped.{journal_on, whole_lines}
use Rattle.stopped_campaign.proofs.Replays.{machine_journal}
use Rattle.stopped_campaign.proofs.Stopped.{Accepted, accepted-e, journal-is, journal-singles, faithful-start, exact-start}
use Rattle.settled_campaign.specs.Bill.{Counts, Billed, BilledAlone}
use Rattle.settled_campaign.proofs.Lines.{machine-counts}

-- ---- what is counted

-- a journal that has the lines of the machine's calls counts them
module _ (g : Network) (few : g.n ≤ 64) (journal : List ℕ) (qs : List Asked) (e : journal_lines journal ≡ journal_lines (machine_journal g start qs)) where
  abbrev xs : List ℕ
  xs = machine_answers g start qs

  confirmed-is : (b : ℕ) → confirmed_in journal b ≡ tally (confirmed (suc b)) qs xs
  unfolding confirmed_in confirmations confirmed
  confirmed-is b = ap (naming Y (suc b)) e ∙ machine-counts Y (suc b) (λ q. omega arith) (λ q. omega arith) (confirmed (suc b)) (λ x. refl) (λ l n x. refl) g few start qs

  returned-is : (b : ℕ) → returned_in journal b ≡ tally (returned (suc b)) qs xs
  unfolding returned_in returns returned
  returned-is b = ap (naming G (suc b)) e ∙ machine-counts G (suc b) (λ q. omega arith) (λ q. omega arith) (returned (suc b)) (λ x. refl) (λ l n x. refl) g few start qs

  counts : Counts journal qs xs
  counts = record {
    confirmations = confirmed-is;
    returns = returned-is;
    amounts = λ cs rs b. amount-counts journal cs rs b ∙ rw (confirmed-is b, returned-is b);
  }

-- a tail is no line
lines-taken : (n : ℕ) (j : List ℕ) → 6 * n ≤ length j → lines_from n (take (6 * n) j) ≡ lines_from n j
unfolding lines_from
lines-taken zero j h = refl
lines-taken (suc n) j h =
    let m : 6 * suc n ≡ 6 + 6 * n = omega arith in
    let k : length (take 6 j) ≡ 6 = length-take-le 6 j (omega arith) in
    rw (m, take-add 6 (6 * n) j, take_at (take 6 j) (take (6 * n) (drop 6 j)) 6 k, drop_at (take 6 j) (take (6 * n) (drop 6 j)) 6 k, lines-taken n (drop 6 j) (omega (arith, length-drop 6 j)))

whole-lines : (journal : List ℕ) → journal_lines (whole_lines journal) ≡ journal_lines journal
unfolding journal_lines whole_lines
whole-lines journal =
    let n : ℕ = length journal / 6 in
    let k : length (take (6 * n) journal) / 6 ≡ n = omega (arith, length-take-le (6 * n) journal (omega arith)) in
    rw k (lines-taken n journal (omega arith))

module _ (s : List ℕ) (e : sheet_passes s ≡ true) where
  few : (network_in s).n ≤ 64
  few = (passing s e).shape.bookings

  told_is : (cs : List Call) → told_on s (bytes_of start) cs ≡ machine_answers (network_in s) start (singly_on s (bytes_of start) cs)
  told_is cs = sym (from_start s e cs).same_answers ∙ singles-bits s e (singly_on s (bytes_of start) cs)

  -- no line of the journal is wrong
  taken : (cs : List Call) → wrong_entry s (journal_on s (bytes_of start) cs) ≡ 0
  unfolding wrong_entry bytes_of start
  taken cs =
      let J : List ℕ = journal_on s (bytes_of start) cs in
      let f = (faithful-start s e (bytes_of start) refl cs (length J)).accepted in
      (accepted-e s J (bytes_of start) (rw (take-length J) at f)).right

  billed-start : (fees : List ℕ) (cs : List Call) → Billed s (bytes_of start) fees cs
  unfolding settles
  billed-start fees cs = record {
    settled = λ h w. e & (le-leb _ most_lines h & (eq-eqb _ 0 (taken cs) & eq-eqb _ 0 w));
    counted = rw (told_is cs) (counts (network_in s) few (journal_on s (bytes_of start) cs) (singly_on s (bytes_of start) cs) (ap journal_lines (journal-is s e cs)));
  }

  alone-start : (old journal : List ℕ) → Accepted s journal old → BilledAlone s (bytes_of start) journal
  alone-start old journal a =
      let qs : List Asked = calls_of journal in
      let x = exact-start s e journal old a in
      record {
        exact = x;
        whole = from_start s e (singles qs);
        counted = rw (singles-bits s e qs) (counts (network_in s) few journal qs (sym (whole-lines journal) ∙ ap journal_lines (x ∙ journal-singles s e qs)));
      }

-- ---- the theorems, from the state that start leaves, whatever its 65 bytes were before

module _ (s old : List ℕ) (size : length old ≡ 65) where
  -- for a sheet that passes, every fee sheet and every list of calls
  pub billed : sheet_passes s ≡ true → (fees : List ℕ) (cs : List Call) → Billed s (start_leaves s old) fees cs
  billed e fees cs = rw (started s e old size) (billed-start s e fees cs)

  -- for everything that is settled
  pub billed-alone : (fees journal : List ℕ) → settles s fees journal ≡ true → BilledAlone s (start_leaves s old) journal
  billed-alone fees journal e =
      let a = settled-e s fees journal e in
      rw (started s a.passes old size) (alone-start s a.passes old journal (record { passes = a.passes; size = size; right = a.entries }))
