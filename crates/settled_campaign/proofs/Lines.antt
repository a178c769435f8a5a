-- One call, its line and what is counted of it; and so for a list of calls, on the plain machine.
-- Assumes nothing.
use mathlib.Core.Path.{◌≡◌, refl, ap, ◌∙◌}
use mathlib.Core.Logic.{inl, inr}
use mathlib.Core.Bool.{true, ◌&&◌}
use mathlib.Core.List.{List, [], ◌∷◌, ◌++◌}
use Prim.Native.Nat.{ℕ, suc, ◌+◌, ◌/◌, ◌^◌, ◌≤◌, ◌<◌}
use native.Mathlib.Omega.{arith}
use lib.Dec.{eqb, leb}
use lib.ListN.{length, length-append}
use lib.Seq.{take_at, drop_at}
use borrow.Author.Tests.{leb-true}
use Rattle.bounded.specs.Bounded.{one}
use Rattle.bounded.proofs.Bools.{which, and_r, and-swap}
use Rattle.network.specs.declared.Network.{Network}
use Rattle.run.specs.declared.Run.{Run}
use Rattle.event_lines.specs.Line.{Q, U, line_text, line_of, lines_from}
use Rattle.event_lines.proofs.LineLaws.{line-length, line_read}
use Rattle.journal.specs.Reading.{journal_lines}
use Rattle.guarantee.specs.Answers.{kind_of, place_of}
use Rattle.guarantee.specs.Machine.{Asked, next_order, replied, answer, after, machine_answers}
use Rattle.guarantee.specs.Counted.{accepts, tally}
use Rattle.journal_calls.specs.Journal.{entry_of, journal_of, is_letter, has_line}
use Rattle.charges.specs.Charges.{names, naming}
use Rattle.charges.proofs.Counting.{begins-other}
use Rattle.stopped_campaign.proofs.OneLine.{reply-has}
use Rattle.stopped_campaign.proofs.Replays.{machine_journal}

-- a line in front of others
pub line_first : (l x : ℕ) (rest : List ℕ) → journal_lines (line_text l x ++ rest) ≡ line_of (line_text l x) ∷ journal_lines rest
unfolding journal_lines lines_from
line_first l x rest =
    let n = line-length l x in
    let p : length (line_text l x ++ rest) / 6 ≡ suc (length rest / 6) = omega (arith, length-append (line_text l x) rest) in
    rw (p, take_at (line_text l x) rest 6 n, drop_at (line_text l x) rest 6 n)

-- lines with letter m, which is no order's, for booking b; and a counter of the accepted replies with this letter
module _ (m b : ℕ) (not-Q : Q ≡ m → ⊥) (not-U : U ≡ m → ⊥) (counter : Asked → ℕ → ℕ) (none : (x : ℕ) → counter next_order x ≡ 0)
    (some : (l n x : ℕ) → counter (replied l n) x ≡ one (accepts x && (eqb n b && eqb l m))) where
  -- an order's line is not counted
  order-line : (l : ℕ) → (l ≡ m → ⊥) → (x : ℕ) (rest : List ℕ) → naming m b (journal_lines (line_text l x ++ rest)) ≡ naming m b (journal_lines rest)
  unfolding naming line_text
  order-line l h x rest = rw (line_first l x rest, begins-other (line_text l x) m h b) (omega arith)

  -- a reply's is, where it has the letter and the booking
  reply-line : (l n : ℕ) → n < 10 ^ 4 → (rest : List ℕ) → naming m b (journal_lines (line_text l n ++ rest)) ≡ one (eqb n b && eqb l m) + naming m b (journal_lines rest)
  unfolding naming names
  reply-line l n h rest = rw (line_first l n rest, line_read l n h, and-swap (eqb l m) (eqb n b))

  entry-counts : (q : Asked) (x : ℕ) (rest : List ℕ) → ((l n : ℕ) → q ≡ replied l n → accepts x ≡ true → n < 10 ^ 4)
      → naming m b (journal_lines (entry_of q x ++ rest)) ≡ counter q x + naming m b (journal_lines rest)
  unfolding entry_of
  entry-counts next_order x rest small = elim (which (eqb (kind_of x) 1)) [
    | inl e ↦ rw (e, none x, order-line Q not-Q (place_of x) rest) (omega arith)
    | inr e ↦ elim (which (eqb (kind_of x) 2)) [
      | inl f ↦ rw (e, f, none x, order-line U not-U (place_of x) rest) (omega arith)
      | inr f ↦ rw (e, f, none x) (omega arith)
    ]
  ]
  entry-counts (replied l n) x rest small = elim (which (accepts x)) [
    | inl a ↦ rw (some l n x, a) (reply-line l n (small l n refl a) rest)
    | inr a ↦ rw (some l n x, a) (omega arith)
  ]

  -- the journal of a list of calls, from any state on
  module _ (g : Network) (few : g.n ≤ 64) where
    small-reply : (r : Run) (q : Asked) (l n : ℕ) → q ≡ replied l n → accepts (answer g r q) ≡ true → n < 10 ^ 4
    unfolding has_line
    small-reply r q l n e a =
        let h : has_line l n ≡ true = reply-has g few r l n (rw e at a) in
        omega (arith, leb-true n 64 (and_r (leb 1 n) _ (and_r (is_letter l) _ h)))

    pub machine-counts : (r : Run) (qs : List Asked) → naming m b (journal_lines (machine_journal g r qs)) ≡ tally counter qs (machine_answers g r qs)
    unfolding journal_of machine_answers tally naming journal_lines lines_from
    machine-counts r [] = refl
    machine-counts r (q ∷ qs) =
        entry-counts q (answer g r q) (machine_journal g (after g r q) qs) (small-reply r q) ∙ ap (λ (k : ℕ). counter q (answer g r q) + k) (machine-counts (after g r q) qs)
