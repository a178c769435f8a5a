-- Lists of calls and their journals, on the plain machine: the journal of a list of calls, cut at any byte, is replayed to a state that
-- the machine had; and what is replayed to its end is the journal of its calls.
-- Assumes nothing.
use mathlib.Core.Path.{◌≡◌, refl, ap, ◌∙◌}
use mathlib.Core.Logic.{inl, inr}
use mathlib.Core.Bool.{true, false}
use mathlib.Core.List.{List, [], ◌∷◌, ◌++◌}
use Prim.Native.Nat.{ℕ, zero, suc, ◌+◌, ◌-◌, ◌*◌, ◌/◌, ◌≤◌, ◌<◌}
use native.Mathlib.Omega.{arith}
use lib.ListN.{length, take, drop, length-append}
use lib.Seq.{take_at, drop_at, take-append-add, take-add, take-nil, length-take-le}
use Rattle.bounded.proofs.Bools.{which, split?}
use Rattle.network.specs.declared.Network.{Network}
use Rattle.run.specs.declared.Run.{Run}
use Rattle.guarantee.specs.Machine.{Asked, answer, after, machine_answers, final}
use Rattle.journal_calls.specs.Journal.{entry_of, journal_of, call_on, calls_from}
use Rattle.journal_calls.specs.Restart.{line_taken, Replayed, replay_from}
use Rattle.journal_calls.proofs.Lines.{line-few}
use Rattle.event_lines.specs.Line.{line_text, line_of}
use Rattle.std.specs.Prelude.{Option, Some, None}
use Rattle.event_lines.specs.declared.Event.{Event}
use Rattle.event_lines.proofs.LineLaws.{line-length, line_read, read-text}
use Rattle.stopped_campaign.specs.Stopped.{whole_lines}
use Rattle.stopped_campaign.proofs.OneLine.{lined, unlined, line-case, taken-line}

-- the journal of a list of calls from a state on
abbrev pub machine_journal : Network → Run → List Asked → List ℕ
machine_journal g r qs = journal_of qs (machine_answers g r qs)

-- nothing is wrong, and this is the state
abbrev pub fine : Run → Replayed
fine r = record { wrong = 0; run = r }

journal-more : (g : Network) (r : Run) (q : Asked) (qs : List Asked) → machine_journal g r (q ∷ qs) ≡ entry_of q (answer g r q) ++ machine_journal g (after g r q) qs
unfolding journal_of machine_answers
journal-more g r q qs = refl

-- the first of several lines
replay-one : (g : Network) (r : Run) (more i l b : ℕ) (rest : List ℕ) → b ≤ 64 → (line_taken g r (Some (record { letter = l; booking = b }))).taken ≡ true
    → replay_from (suc more) i g r (line_text l b ++ rest) ≡ replay_from more (i + 1) g (line_taken g r (Some (record { letter = l; booking = b }))).run rest
unfolding replay_from
replay-one g r more i l b rest h t =
    let n = line-length l b in
    rw (take_at (line_text l b) rest 6 n, drop_at (line_text l b) rest 6 n, line_read l b (omega arith), t)

misformed-line : (g : Network) (r : Run) → (line_taken g r None).taken ≡ false
unfolding line_taken
misformed-line g r = refl

-- ---- the journal of calls, cut at a byte

pub record Cut (g : Network) (r : Run) (i : ℕ) (qs : List Asked) (c : ℕ) : Type 0 where
  pub before : List Asked
  pub later : List Asked
  pub parts : qs ≡ before ++ later
  pub lines : whole_lines (take c (machine_journal g r qs)) ≡ machine_journal g r before
  pub replays : replay_from (length (take c (machine_journal g r qs)) / 6) i g r (take c (machine_journal g r qs)) ≡ fine (final g r before)
  pub all : length (machine_journal g r qs) ≤ c → final g r before ≡ final g r qs

module _ (g : Network) (few : g.n ≤ 64) (ways : g.a ≤ 16) where
  -- fewer than six bytes are no line
  cut_short : (r : Run) (i : ℕ) (qs : List Asked) (c : ℕ) → c < 6 → c < length (machine_journal g r qs) → Cut g r i qs c
  unfolding replay_from whole_lines final journal_of
  cut_short r i qs c h k =
      let z : length (take c (machine_journal g r qs)) / 6 ≡ 0 = omega (arith, length-take-le c (machine_journal g r qs) (omega arith)) in
      record { before = []; later = qs; parts = refl; lines = rw z; replays = rw z; all = λ a. absurd (omega arith) }

  -- a call without a line
  cut-none : (r : Run) (i : ℕ) (q : Asked) (qs : List Asked) (c : ℕ) → entry_of q (answer g r q) ≡ [] → after g r q ≡ r → Cut g r i qs c → Cut g r i (q ∷ qs) c
  unfolding final
  cut-none r i q qs c e s k =
      let j : (ps : List Asked) → machine_journal g r (q ∷ ps) ≡ machine_journal g r ps = λ ps. journal-more g r q ps ∙ rw (e, s) in
      record {
        before = q ∷ k.before;
        later = k.later;
        parts = ap (λ (ps : List Asked). q ∷ ps) k.parts;
        lines = rw (j qs, j k.before) k.lines;
        replays = rw (j qs, s) k.replays;
        all = λ a. rw s (k.all (rw (j qs) at a));
      }

  -- a call with its whole line
  cut-one : (r : Run) (i : ℕ) (q : Asked) (qs : List Asked) (c l b : ℕ) → 6 ≤ c → b ≤ 64 → entry_of q (answer g r q) ≡ line_text l b
      → (line_taken g r (Some (record { letter = l; booking = b }))).taken ≡ true → (line_taken g r (Some (record { letter = l; booking = b }))).run ≡ after g r q → Cut g (after g r q) (i + 1) qs (c - 6) → Cut g r i (q ∷ qs) c
  unfolding final whole_lines
  cut-one r i q qs c l b h few-b e t s k =
      let rest : List ℕ = machine_journal g (after g r q) qs in
      let n = line-length l b in
      let j : (ps : List Asked) → machine_journal g r (q ∷ ps) ≡ line_text l b ++ machine_journal g (after g r q) ps = λ ps. journal-more g r q ps ∙ rw e in
      let y : c ≡ length (line_text l b) + (c - 6) = omega arith in
      let x : take c (line_text l b ++ rest) ≡ line_text l b ++ take (c - 6) rest = ap (λ (m : ℕ). take m (line_text l b ++ rest)) y ∙ take-append-add (line_text l b) rest (c - 6) in
      let p : length (line_text l b ++ take (c - 6) rest) / 6 ≡ suc (length (take (c - 6) rest) / 6) = omega (arith, length-append (line_text l b) (take (c - 6) rest)) in
      let w : 6 * suc (length (take (c - 6) rest) / 6) ≡ length (line_text l b) + 6 * (length (take (c - 6) rest) / 6) = omega arith in
      record {
        before = q ∷ k.before;
        later = k.later;
        parts = ap (λ (ps : List Asked). q ∷ ps) k.parts;
        lines = rw (j qs, j k.before, x, p, w) (take-append-add (line_text l b) (take (c - 6) rest) (6 * (length (take (c - 6) rest) / 6)) ∙ ap (λ (z : List ℕ). line_text l b ++ z) k.lines);
        replays = rw (j qs, x, p) (replay-one g r (length (take (c - 6) rest) / 6) i l b (take (c - 6) rest) few-b t ∙ rw s k.replays);
        all = λ a. k.all (let z : length (line_text l b ++ rest) ≤ c = rw (j qs) at a in omega (arith, length-append (line_text l b) rest));
      }

  pub cut : (r : Run) → r.way ≤ 16 → (i : ℕ) (qs : List Asked) (c : ℕ) → Cut g r i qs c
  unfolding replay_from whole_lines journal_of machine_answers final
  cut r w i [] c = record { before = []; later = []; parts = refl; lines = rw take-nil; replays = rw take-nil; all = λ a. refl }
  cut r w i (q ∷ qs) c = elim (line-case g few r (omega arith) q) [
    | lined l b has few-b e t s ↦ elim (split? c 6) [
      | inl h ↦ cut_short r i (q ∷ qs) c h (rw e (omega (arith, line-length l b, length-append (line_text l b) (machine_journal g (after g r q) qs))))
      | inr h ↦ cut-one r i q qs c l b h few-b e t s (cut (after g r q) (rw (← s) (line-few g ways r w (Some (record { letter = l; booking = b })))) (i + 1) qs (c - 6))
    ]
    | unlined e s ↦ cut-none r i q qs c e s (cut r w i qs c)
  ]

  -- ---- what is replayed to its end

  pub record Replays (r : Run) (i n : ℕ) (journal : List ℕ) : Type 0 where
    pub state : replay_from n i g r journal ≡ fine (final g r (calls_from n journal))
    pub lines : take (6 * n) journal ≡ machine_journal g r (calls_from n journal)

  -- one more line in front
  one_more : (r : Run) (i n : ℕ) (journal : List ℕ) (l b : ℕ) → 1 ≤ i → line_of (take 6 journal) ≡ Some (record { letter = l; booking = b }) → (line_taken g r (Some (record { letter = l; booking = b }))).taken ≡ true
      → Replays (after g r (call_on (Some (record { letter = l; booking = b })))) (i + 1) n (drop 6 journal) → Replays r i (suc n) journal
  unfolding replay_from calls_from final
  one_more r i n journal l b h e t k =
      let f = taken-line g few r l b t in
      let w : 6 * suc n ≡ 6 + 6 * n = omega arith in
      record {
        state = rw (e, t, f.1) k.state;
        lines = rw (w, take-add 6 (6 * n) journal, k.lines, e, journal-more g r (call_on (Some (record { letter = l; booking = b }))) (calls_from n (drop 6 journal)), f.0, read-text (take 6 journal) l b e);
      }

  by-line : (r : Run) (i n : ℕ) (journal : List ℕ) → 1 ≤ i
      → ((s : Run) → (replay_from n (i + 1) g s (drop 6 journal)).wrong ≡ 0 → Replays s (i + 1) n (drop 6 journal))
      → (line : Option Event) → line_of (take 6 journal) ≡ line → (replay_from (suc n) i g r journal).wrong ≡ 0 → Replays r i (suc n) journal
  unfolding replay_from
  by-line r i n journal h k (Some v) e z = elim (which (line_taken g r (Some v)).taken) [
    | inl t ↦ (let f = taken-line g few r v.letter v.booking t in one_more r i n journal v.letter v.booking h e t (k (after g r (call_on (Some v))) (rw (e, t, f.1) at z)))
    | inr t ↦ absurd (let y : i ≡ 0 = rw (e, t) at z in omega arith)
  ]
  by-line r i n journal h k None e z = absurd (let y : i ≡ 0 = rw (e, misformed-line g r) at z in omega arith)

  -- a replay that finds nothing wrong
  pub replayed : (r : Run) (i n : ℕ) (journal : List ℕ) → 1 ≤ i → (replay_from n i g r journal).wrong ≡ 0 → Replays r i n journal
  unfolding replay_from calls_from final journal_of machine_answers
  replayed r i zero journal h z = record { state = refl; lines = refl }
  replayed r i (suc n) journal h z = by-line r i n journal h (λ s y. replayed s (i + 1) n (drop 6 journal) (omega arith) y) (line_of (take 6 journal)) refl z
