-- A block is its lines given singly, up to the first bad one.
-- Assumes nothing.
use mathlib.Core.Path.{◌≡◌, refl, sym, ap, ◌∙◌}
use mathlib.Core.Logic.{inl, inr}
use mathlib.Core.Bool.{true, false}
use mathlib.Core.List.{List, ◌∷◌}
use Prim.Native.Nat.{ℕ, zero, suc, ◌+◌, ◌*◌, ◌/◌, ◌<◌}
use native.Mathlib.Omega.{arith}
use lib.ListN.{length, take, drop}
use lib.Seq.{drop-drop}
use Rattle.bounded.proofs.Bools.{which}
use Rattle.network.specs.declared.Network.{Network}
use Rattle.run.specs.Bytes.{bytes_of, run_of}
use Rattle.run.specs.declared.Run.{Run}
use Rattle.run.proofs.Facts.{Sound}
use Rattle.event_lines.specs.Line.{line_of, lines_from}
use Rattle.std.specs.Prelude.{Option, Some, None}
use Rattle.event_lines.specs.declared.Event.{Event}
use Rattle.guarantee.specs.Answers.{place9, reply_bits}
use Rattle.guarantee.specs.Machine.{Asked, replied, reply_to, answer, after, machine_answers, final}
use Rattle.guarantee.specs.Counted.{accepts}
use Rattle.guarantee.proofs.Moved.{kind-pack}
use Rattle.guarantee.proofs.Numbers.{small-9}
use Rattle.calls.specs.Calls.{network_in, sheet_passes, in_order, asked_call}
use Rattle.calls.proofs.InOrder.{passing, sheet-passes, state-size, state-holds}
use Rattle.block_calls.specs.Block.{lines_of, kept_of, block_of}
use Rattle.lent_state.proofs.Bytes.{bytes_run}
use Rattle.whole_campaign.specs.Calls.{single, block, singles, gives, leaves, gives_by, leaves_by}
use Rattle.whole_campaign.specs.Lists.{answers_on, left_on}
use Rattle.whole_campaign.specs.Singly.{kept_by, calls_in, answers_in}
use Rattle.whole_campaign.specs.Given.{GivenSingly}
use Rattle.whole_campaign.proofs.Parts.{parts, parts-final, singles-final, singles-answers, sound-after, told-kept, calls-told, answers-told}
use Rattle.whole_campaign.proofs.Whole.{gives-is, leaves-is, answers-is, left_is}

-- the line after the kept ones: its reply does not fit
module _ (g : Network) where
  by-line : (n : ℕ) (r : Run) (t : List ℕ) (l b : ℕ)
      → ((s : Run) → length (kept_of g s (lines_from n (drop 6 t))) < n → line_of (take 6 (drop (6 * length (kept_of g s (lines_from n (drop 6 t)))) (drop 6 t))) ≡ Some (record { letter = l; booking = b })
      → (reply_to g (final g s (kept_of g s (lines_from n (drop 6 t)))) l b).taken ≡ false)
      → (line : Option Event) → line_of (take 6 t) ≡ line → length (kept_of g r (line ∷ lines_from n (drop 6 t))) < suc n
      → line_of (take 6 (drop (6 * length (kept_of g r (line ∷ lines_from n (drop 6 t)))) t)) ≡ Some (record { letter = l; booking = b })
      → (reply_to g (final g r (kept_of g r (line ∷ lines_from n (drop 6 t)))) l b).taken ≡ false
  unfolding kept_of final after
  by-line n r t l b rest (Some v) e h q = elim (which (reply_to g r v.letter v.booking).taken) [
    | inl k ↦ (let m' : ℕ = length (kept_of g (reply_to g r v.letter v.booking).run (lines_from n (drop 6 t))) in
        let w : 6 * suc m' ≡ 6 + 6 * m' = omega arith in
        let h' : suc m' < suc n = rw k at h in
        let q' : line_of (take 6 (drop (6 * suc m') t)) ≡ Some (record { letter = l; booking = b }) = rw k at q in
        rw k (rest (reply_to g r v.letter v.booking).run (omega arith) (rw (drop-drop (6 * m') 6 t, ← w) q')))
    | inr k ↦ (let q' : line_of (take 6 t) ≡ Some (record { letter = l; booking = b }) = rw k at q in
        let x : v ≡ record { letter = l; booking = b } = cc in
        let y : v.letter ≡ l = ap (λ (x : Event). x.letter) x in
        let z : v.booking ≡ b = ap (λ (x : Event). x.booking) x in
        rw k (rw (← y, ← z) k))
  ]
  by-line n r t l b rest None e h q = let z : ◌≡◌ {A = ℕ} 0 1 = cc in absurd (omega arith)

  next-bad : (n : ℕ) (r : Run) (t : List ℕ) (l b : ℕ) → length (kept_of g r (lines_from n t)) < n → line_of (take 6 (drop (6 * length (kept_of g r (lines_from n t))) t)) ≡ Some (record { letter = l; booking = b })
      → (reply_to g (final g r (kept_of g r (lines_from n t))) l b).taken ≡ false
  unfolding lines_from
  next-bad zero r t l b h q = absurd (omega arith)
  next-bad (suc n) r t l b h q = by-line n r t l b (λ s. next-bad n s (drop 6 t) l b) (line_of (take 6 t)) refl h q

module _ (s bs : List ℕ) (o : in_order s bs ≡ true) where
  abbrev passes : sheet_passes s ≡ true
  passes = sheet-passes s bs o

  -- the state that the bytes hold
  abbrev old : Run
  old = run_of bs

  abbrev old-sound : Sound (network_in s) (run_of bs)
  old-sound = state-holds s bs o

  pub bytes : bytes_of (run_of bs) ≡ bs
  bytes = bytes_run bs (state-size s bs o)

  module _ (lines : List ℕ) where
    abbrev kept : List Asked
    kept = parts (network_in s) old (block lines)

    bits : gives s bs (block lines) ≡ gives_by (network_in s) old (block lines)
    bits = ap (λ (xs : List ℕ). gives s xs (block lines)) (sym bytes) ∙ gives-is s passes old old-sound (block lines)

    left : leaves s bs (block lines) ≡ bytes_of (leaves_by (network_in s) old (block lines))
    left = ap (λ (xs : List ℕ). leaves s xs (block lines)) (sym bytes) ∙ leaves-is s passes old old-sound (block lines)

    calls : calls_in (block lines) (gives s bs (block lines)) ≡ kept
    calls = rw bits (calls-told (network_in s) (passing s passes) old old-sound (block lines))

    answers : answers_in (block lines) (gives s bs (block lines)) ≡ machine_answers (network_in s) old kept
    answers = rw bits (answers-told (network_in s) (passing s passes) old old-sound (block lines))

    -- the state after the block
    abbrev new : Run
    new = leaves_by (network_in s) old (block lines)

    told : kept_by (gives s bs (block lines)) ≡ length kept
    unfolding gives_by parts
    told = rw bits (told-kept (network_in s) (passing s passes) old old-sound lines)

    next-refused : 6 * length kept < length lines → (l b : ℕ) → line_of (take 6 (drop (6 * length kept) lines)) ≡ Some (record { letter = l; booking = b }) → accepts (asked_call s (bytes_of new) (replied l b)) ≡ false
    unfolding parts lines_of gives gives_by leaves_by block_of answer reply_bits accepts
    next-refused h l b q =
        let n : (reply_to (network_in s) new l b).taken ≡ false = next-bad (network_in s) ((length lines + 5) / 6) old lines l b (omega arith) q in
        let k = sound-after (network_in s) (passing s passes) old old-sound (block lines) in
        rw (gives-is s passes new k (single (replied l b)), n, kind-pack 0 9 (place9 b) (omega arith) (omega (arith, small-9 b)))

    pub given-singly : GivenSingly s bs lines
    given-singly =
        let g : Network = network_in s in
        record {
          accepted = rw (calls, answers) (ap (λ (xs : List ℕ). answers_on s xs (singles kept)) (sym bytes) ∙ answers-is s passes old old-sound (singles kept) ∙ singles-answers g old kept);
          state = rw (calls, left) (ap (λ (xs : List ℕ). left_on s xs (singles kept)) (sym bytes) ∙ left_is s passes old old-sound (singles kept) ∙ ap bytes_of (singles-final g old kept ∙ parts-final g old (block lines)));
          next = rw (told, left) next-refused;
        }
