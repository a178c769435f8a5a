-- A journal's lines are lines of which orders are taken too, so that the loop that takes lines replays it.
-- Assumes nothing.
use mathlib.Core.Path.{◌≡◌, refl, sym, ap, ◌∙◌}
use mathlib.Core.Logic.{inl, inr}
use mathlib.Core.Bool.{true}
use mathlib.Core.List.{List, [], ◌∷◌}
use Prim.Native.Nat.{ℕ, zero, suc, ◌+◌, ◌/◌, ◌≤◌}
use native.Mathlib.Omega.{arith}
use native.Mathlib.Numerals.{add-one}
use lib.ListN.{length, take, drop}
use Rattle.bounded.proofs.Bools.{which}
use Rattle.network.specs.declared.Network.{Network}
use Rattle.run.specs.State.{start}
use Rattle.run.specs.Bytes.{bytes_of}
use Rattle.run.specs.Replies.{misfits}
use Rattle.run.specs.declared.Run.{Run}
use Rattle.std.specs.Prelude.{Option, Some, None, Ok, Err}
use Rattle.event_lines.specs.Line.{is_order, line_of, lines_from}
use Rattle.event_lines.specs.declared.Event.{Event}
use Rattle.journal.specs.Reading.{journal_lines}
use Rattle.journal.proofs.LineLaws.{journal-length}
use Rattle.lent_state.specs.declared.LineFault.{LineFault}
use Rattle.lent_state.specs.Due.{took, order_line}
use Rattle.lent_state.specs.Lines.{line_by, Lines, taken_from, taken_of}
use Rattle.lent_state.proofs.Limits.{took-on, took-off, took-reply}
use Rattle.journal_calls.specs.Restart.{line_taken, Replayed, replay_from, replay, wrong_line}

-- the number of the first wrong line among lines that were taken, and those lines as a replay
abbrev wrong_of : Option LineFault → ℕ → ℕ
wrong_of None k = 0
wrong_of (Some f) k = k + 1

abbrev replayed_by : Lines → Replayed
replayed_by t = record { wrong = wrong_of t.fault t.kept; run = t.run }

-- a line with orders taken too is the journal's, but that it leaves the state where it is not taken
line_same : (g : Network) (r : Run) (line : Option Event) → line_by true g r line ≡ took r (line_taken g r line)
unfolding line_by line_taken order_line took
line_same g r (Some v) = elim (which (is_order v.letter)) [
  | inl e ↦ rw e
  | inr e ↦ rw e (sym (took-reply g r v.letter v.booking))
]
line_same g r None = refl

replay-from : (more k : ℕ) (g : Network) (r : Run) (rest : List ℕ) → replayed_by (taken_from true k g r (lines_from more rest)) ≡ replay_from more (k + 1) g r rest
unfolding taken_from replay_from lines_from
replay-from zero k g r rest = refl
replay-from (suc more) k g r rest =
    let line : Option Event = line_of (take 6 rest) in
    elim (which (line_taken g r line).taken) [
      | inl e ↦ (let z : line_by true g r line ≡ line_taken g r line = line_same g r line ∙ took-on r (line_taken g r line) e in
          rw (z, e) (replay-from more (k + 1) g (line_taken g r line).run (drop 6 rest)))
      | inr e ↦ (let z : line_by true g r line ≡ misfits r = line_same g r line ∙ took-off r (line_taken g r line) e in rw (z, e))
    ]

pub replay-is : (g : Network) (j : List ℕ) → replayed_by (taken_of true g start j) ≡ replay g j
unfolding taken_of replay journal_lines
replay-is g j = replay-from (length j / 6) 0 g start j

-- the kept lines are among all
kept_from : (k : ℕ) (g : Network) (r : Run) (lines : List (Option Event)) → (taken_from true k g r lines).kept ≤ k + length lines
unfolding taken_from
kept_from k g r [] = omega arith
kept_from k g r (line ∷ rest) = elim (which (line_by true g r line).taken) [
  | inl e ↦ rw e (omega (arith, kept_from (k + 1) g (line_by true g r line).run rest))
  | inr e ↦ rw e (omega arith)
]

pub kept-all : (g : Network) (j : List ℕ) → (taken_of true g start j).kept ≤ length j / 6
unfolding taken_of
kept-all g j = omega (arith, kept_from 0 g start (journal_lines j), journal-length j)

-- ---- what is told of a replay, and the state's bytes

module _ (g : Network) (j : List ℕ) (k : ℕ) (f : Option LineFault) (ek : k ≡ (taken_of true g start j).kept) (ef : f ≡ (taken_of true g start j).fault)
    (state : List ℕ) (es : state ≡ bytes_of (taken_of true g start j).run) where
  pub replay-left : state ≡ bytes_of (replay g j).run
  replay-left = es ∙ ap (λ (t : Replayed). bytes_of t.run) (replay-is g j)

  wrong : wrong_of f k ≡ (replay g j).wrong
  wrong = rw (ek, ef) (ap (λ (t : Replayed). t.wrong) (replay-is g j))

  pub none-wrong : f ≡ None → Ok tt ≡ wrong_line (replay g j).wrong
  unfolding wrong_line
  none-wrong z = rw (← wrong, z)

  pub one-wrong : (x : LineFault) → f ≡ Some x → Err (k + 1) ≡ wrong_line (replay g j).wrong
  unfolding wrong_line
  one-wrong x z = rw (← wrong, z, add-one)
