-- The lines of the replies that a block keeps are the block's own first bytes.
-- Assumes nothing.
use mathlib.Core.Path.{◌≡◌, refl}
use mathlib.Core.Logic.{inl, inr}
use mathlib.Core.List.{List, ◌∷◌, map}
use Prim.Native.Nat.{ℕ, zero, suc, ◌+◌, ◌*◌, ◌≤◌}
use native.Mathlib.Omega.{arith}
use lib.ListN.{length, take, drop}
use lib.Seq.{take-add}
use Rattle.bounded.proofs.Bools.{which}
use Rattle.network.specs.declared.Network.{Network}
use Rattle.run.specs.declared.Run.{Run}
use Rattle.event_lines.specs.Line.{line_of, lines_from}
use Rattle.std.specs.Prelude.{Option, Some, None}
use Rattle.event_lines.specs.declared.Event.{Event}
use Rattle.event_lines.proofs.LineLaws.{read-text}
use Rattle.guarantee.specs.Machine.{Asked, reply_to}
use Rattle.guarantee.proofs.Numbers.{taken-small}
use Rattle.journal_calls.specs.Journal.{journal_of}
use Rattle.block_calls.specs.Block.{kept_of}
use Rattle.whole_campaign.specs.Singly.{kept_as}
use Rattle.stopped_campaign.proofs.OneLine.{reply-line}

-- the lines of replies that were kept
abbrev pub kept_lines : List Asked → List ℕ
kept_lines qs = journal_of qs (map kept_as qs)

module _ (g : Network) (few : g.n ≤ 64) where
  -- one more line in front
  by-line : (n : ℕ) (r : Run) (t : List ℕ)
      → ((s : Run) → kept_lines (kept_of g s (lines_from n (drop 6 t))) ≡ take (6 * length (kept_of g s (lines_from n (drop 6 t)))) (drop 6 t))
      → (line : Option Event) → line_of (take 6 t) ≡ line
      → kept_lines (kept_of g r (line ∷ lines_from n (drop 6 t))) ≡ take (6 * length (kept_of g r (line ∷ lines_from n (drop 6 t)))) t
  unfolding kept_of journal_of kept_as
  by-line n r t rest (Some v) e = elim (which (reply_to g r v.letter v.booking).taken) [
    | inl k ↦ (let m : ℕ = length (kept_of g (reply_to g r v.letter v.booking).run (lines_from n (drop 6 t))) in
        let w : 6 * suc m ≡ 6 + 6 * m = omega arith in
        rw (k, w, take-add 6 (6 * m) t, ← rest (reply_to g r v.letter v.booking).run, read-text (take 6 t) v.letter v.booking e, reply-line v.letter v.booking (taken-small g r v.letter v.booking (reply_to g r v.letter v.booking) few refl k)))
    | inr k ↦ rw k
  ]
  by-line n r t rest None e = refl

  pub kept-lines : (n : ℕ) (r : Run) (t : List ℕ) → kept_lines (kept_of g r (lines_from n t)) ≡ take (6 * length (kept_of g r (lines_from n t))) t
  unfolding kept_of journal_of lines_from
  kept-lines zero r t = refl
  kept-lines (suc n) r t = by-line n r t (λ s. kept-lines n s (drop 6 t)) (line_of (take 6 t)) refl
