-- A block from a place on: what its next line is, what comes of it, and that the loop that takes whole lines gives what the rules say of it.
-- Assumes nothing.
use mathlib.Core.Path.{◌≡◌, refl, sym, ap, ◌∙◌}
use mathlib.Core.Logic.{inl, inr}
use mathlib.Core.Bool.{true, false}
use mathlib.Core.List.{List, [], ◌∷◌}
use Prim.Native.Nat.{ℕ, zero, suc, ◌+◌, ◌-◌, ◌/◌, ◌%◌, ◌≤◌, ◌<◌}
use native.Mathlib.Nat.{sub-zero}
use native.Mathlib.Omega.{arith}
use lib.ListN.{length, take, drop, length-drop}
use lib.Seq.{take_all, drop-drop}
use borrow.Author.Tests.{eq-eqb, ne_eqb}
use Rattle.bounded.proofs.Bools.{clash, same?, which}
use Rattle.network.specs.declared.Network.{Network}
use Rattle.run.specs.Bytes.{bytes_of}
use Rattle.run.specs.Replies.{misfits, Replied}
use Rattle.run.specs.declared.Run.{Run}
use Rattle.run.proofs.Cases.{ReplyCase, misfit, confirmed, refused, again, returned, kept, reply-case}
use Rattle.guarantee.specs.Machine.{reply_to, after, final}
use Rattle.event_lines.specs.Line.{line_of, is_order, lines_from}
use Rattle.std.specs.Prelude.{Option, Some, None}
use Rattle.event_lines.specs.declared.Event.{Event}
use Rattle.journal.specs.Reading.{journal_lines}
use Rattle.lent_state.specs.declared.LineFault.{LineFault}
use Rattle.event_lines.proofs.LineLaws.{other-size}
use Rattle.lent_state.specs.Lines.{line_by, line_fault, fault_number, number_of, Lines, taken_from, taken_of}
use Rattle.block_calls.specs.Block.{lines_of, kept_of, fault_of, Block, block_of, with_tail}

-- ---- the lines from a place on

module _ (block : List ℕ) where
  abbrev pub lines_at : ℕ → List (Option Event)
  lines_at at = lines_from ((length block - at + 5) / 6) (drop at block)

  pub lines_none : (at : ℕ) → at ≡ length block → lines_at at ≡ []
  unfolding lines_from
  lines_none at h = let z : (length block - at + 5) / 6 ≡ 0 = omega arith in rw z

  -- the block ends within a line
  pub lines-tail : (at : ℕ) → at < length block → length block < at + 6 → lines_at at ≡ None ∷ []
  unfolding lines_from
  lines-tail at h k =
      let z : (length block - at + 5) / 6 ≡ 1 = omega arith in
      let n = length-drop at block in
      let e : take 6 (drop at block) ≡ drop at block = take_all 6 (drop at block) (omega arith) in
      let m : None ≡ line_of (drop at block) = other-size (drop at block) (λ q. omega arith) in
      rw (z, e, ← m)

  pub lines_more : (at : ℕ) → at + 6 ≤ length block → lines_at at ≡ line_of (take 6 (drop at block)) ∷ lines_at (at + 6)
  unfolding lines_from
  lines_more at h =
      let z : (length block - at + 5) / 6 ≡ suc ((length block - (at + 6) + 5) / 6) = omega arith in
      rw (z, drop-drop 6 at block)

-- ---- a line's reply

-- what comes of a line's reply; a misformed line has none
unfoldable pub reply_on : Network → Run → Option Event → Replied
reply_on g r (Some e) = reply_to g r e.letter e.booking
reply_on g r None = misfits r

-- an order's letter is no reply's
no-order : (g : Network) (r : Run) (l x : ℕ) {t : Replied} → ReplyCase g r l x t → is_order l ≡ true → t.taken ≡ false
unfolding is_order
no-order g r l x misfit o = refl
no-order g r l x (confirmed h m e) o = clash (is_order l) o (rw e)
no-order g r l x (refused h m e z) o = clash (is_order l) o (rw e)
no-order g r l x (again h m e z) o = clash (is_order l) o (rw e)
no-order g r l x (returned h m e) o = clash (is_order l) o (rw e)
no-order g r l x (kept h m e) o = clash (is_order l) o (rw e)

pub order-misfits : (g : Network) (r : Run) (l b : ℕ) → is_order l ≡ true → (reply_to g r l b).taken ≡ false
unfolding reply_to
order-misfits g r l zero o = refl
order-misfits g r l (suc x) o = no-order g r l x (reply-case g r l x) o

pub misformed-misfits : (g : Network) (r : Run) → (reply_on g r None).taken ≡ false
unfolding reply_on
misformed-misfits g r = refl

-- ---- a block from its first line on

-- k replies before it
abbrev pub more : ℕ → Block → Block
more k t = record { kept = t.kept + k; fault = t.fault; run = t.run }

with-kept : (t : Block) (k : ℕ) → t.kept ≡ k → t ≡ record { kept = k; fault = t.fault; run = t.run }
with-kept t k e = ap (λ (m : ℕ). record { kept = m; fault = t.fault; run = t.run }) e

module _ (g : Network) (r : Run) where
  block_none : block_of g r [] ≡ record { kept = 0; fault = 0; run = r }
  unfolding block_of kept_of fault_of final
  block_none = refl

  block-bad : (line : Option Event) (lines : List (Option Event)) → (reply_on g r line).taken ≡ false → block_of g r (line ∷ lines) ≡ record { kept = 0; fault = fault_of (line ∷ []); run = r }
  unfolding block_of kept_of fault_of final reply_on
  block-bad (Some e) lines n = rw n
  block-bad None lines n = refl

  pub block_on : (line : Option Event) (lines : List (Option Event)) → (reply_on g r line).taken ≡ true → block_of g r (line ∷ lines) ≡ more 1 (block_of g (reply_on g r line).run lines)
  unfolding block_of kept_of final reply_on after
  block_on (Some e) lines n =
      let rest : Block = block_of g (reply_to g r e.letter e.booking).run lines in
      rw n (with-kept (record { kept = suc rest.kept; fault = rest.fault; run = rest.run }) (rest.kept + 1) (omega arith))
  block_on None lines n = clash true refl (sym n)

-- ---- one turn, at a place of the block with k replies before it

module _ (g : Network) (block : List ℕ) where
  abbrev pub rest : ℕ → ℕ → Run → Block
  rest at k r = more k (block_of g r (lines_at block at))

  pub all_left : (r : Run) → rest 0 0 r ≡ block_of g r (lines_of block)
  unfolding lines_of
  all_left r = simp sub-zero (sym (with-kept (block_of g r (lines_from ((length block + 5) / 6) block)) _ (omega arith)))

  module _ (at k : ℕ) (r : Run) where
    pub none_after : at ≡ length block → record { kept = k; fault = 0; run = r } ≡ rest at k r
    none_after h = rw (lines_none block at h, block_none g r) (with-kept _ (0 + k) (omega arith))

    pub tail-after : at ≤ length block → (at ≡ length block → ⊥) → length block < at + 6 → record { kept = k; fault = 1; run = r } ≡ rest at k r
    unfolding fault_of
    tail-after h n m = rw (lines-tail block at (omega arith) m, block-bad g r None [] (misformed-misfits g r)) (with-kept _ (0 + k) (omega arith))

    module _ (room : at + 6 ≤ length block) (line : Option Event) (el : line ≡ line_of (take 6 (drop at block))) where
      pub bad-line : (reply_on g r line).taken ≡ false → record { kept = k; fault = fault_of (line ∷ []); run = r } ≡ rest at k r
      bad-line n = rw (lines_more block at room, ← el, block-bad g r line (lines_at block (at + 6)) n) (with-kept _ (0 + k) (omega arith))

      pub one_kept : (reply_on g r line).taken ≡ true → rest (at + 6) (k + 1) (reply_on g r line).run ≡ rest at k r
      one_kept n = rw (lines_more block at room, ← el, block_on g r line (lines_at block (at + 6)) n) (with-kept _ _ (omega arith))

-- ---- the whole lines, by the loop that takes lines

-- a line of which no order is taken is a reply's
line_reply : (g : Network) (r : Run) (line : Option Event) → line_by false g r line ≡ reply_on g r line
unfolding line_by reply_on
line_reply g r (Some e) = refl
line_reply g r None = refl

-- what is wrong with one is what the rules say
fault-same : (line : Option Event) → fault_number (line_fault line) ≡ fault_of (line ∷ [])
unfolding line_fault fault_number fault_of
fault-same (Some e) = refl
fault-same None = refl

module _ (g : Network) (block : List ℕ) where
  -- the whole lines taken, with what is left after them
  abbrev finished : Lines → Block
  finished t = record { kept = t.kept; fault = number_of (with_tail t.fault (length block)); run = t.run }

  block-from : (more at k : ℕ) (r : Run) → more ≡ (length block - at) / 6 → at ≤ length block → at % 6 ≡ 0
      → finished (taken_from false k g r (lines_from more (drop at block))) ≡ rest g block at k r
  unfolding taken_from lines_from with_tail number_of fault_number
  block-from zero at k r e h m = elim (same? at (length block)) [
    | inl z ↦ rw (eq-eqb (length block % 6) 0 (omega arith)) (none_after g block at k r z)
    | inr z ↦ rw (ne_eqb (length block % 6) 0 (λ q. z (omega arith))) (tail-after g block at k r h z (omega arith))
  ]
  block-from (suc more) at k r e h m =
      let line : Option Event = line_of (take 6 (drop at block)) in
      let room : at + 6 ≤ length block = omega arith in
      elim (which (reply_on g r line).taken) [
        | inl z ↦ (rw (line_reply g r line, z, drop-drop 6 at block)
            (block-from more (at + 6) (k + 1) (reply_on g r line).run (omega arith) room (omega arith)
            ∙ one_kept g block at k r room line refl z))
        | inr z ↦ (rw (line_reply g r line, z) (ap (λ (f : ℕ). record { kept = k; fault = f; run = r }) (fault-same line) ∙ bad-line g block at k r room line refl z))
      ]

  pub block-is : (r : Run) → finished (taken_of false g r block) ≡ block_of g r (lines_of block)
  unfolding taken_of journal_lines
  block-is r = block-from (length block / 6) 0 0 r (simp sub-zero refl) (omega arith) refl ∙ all_left g block r

-- what is told of a block, and the state's bytes
pub told : (g : Network) (block : List ℕ) (r : Run) (k : ℕ) (f : Option LineFault) → k ≡ (taken_of false g r block).kept → f ≡ with_tail (taken_of false g r block).fault (length block)
    → (state : List ℕ) → state ≡ bytes_of (taken_of false g r block).run
    → ((k ≡ (block_of g r (lines_of block)).kept) × (number_of f ≡ (block_of g r (lines_of block)).fault)) × (state ≡ bytes_of (block_of g r (lines_of block)).run)
told g block r k f ek ef state w =
    let e = block-is g block r in
    ((ek ∙ ap (λ (x : Block). x.kept) e, ap number_of ef ∙ ap (λ (x : Block). x.fault) e), w ∙ ap (λ (x : Block). bytes_of x.run) e)
