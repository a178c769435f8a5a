-- A list of calls as the single calls that it stands for, on the plain machine: a block is the replies that it keeps. Their states and answers are
-- the machine's, and they are told from the calls and their answers alone.
-- Assumes nothing.
use mathlib.Core.Path.{◌≡◌, refl, sym, ap, ap₂, ◌∙◌}
use mathlib.Core.Logic.{inl, inr}
use mathlib.Core.Bool.{false}
use mathlib.Core.List.{List, [], ◌∷◌, ◌++◌, map}
use Prim.Native.Nat.{ℕ, zero, suc, ◌+◌, ◌/◌, ◌≤◌}
use native.Mathlib.Omega.{arith}
use lib.Dec.{eqb}
use lib.ListN.{length, take, drop}
use Rattle.bounded.proofs.Bools.{which, clash, off}
use Rattle.network.specs.declared.Network.{Network}
use Rattle.verdict.proofs.Facts.{Passes}
use Rattle.run.specs.declared.Run.{Run}
use Rattle.run.proofs.Facts.{Sound}
use Rattle.event_lines.specs.Line.{line_of, is_order, lines_from}
use Rattle.std.specs.Prelude.{Option, Some, None}
use Rattle.event_lines.specs.declared.Event.{Event}
use Rattle.guarantee.specs.Answers.{pack, reply_bits}
use Rattle.guarantee.specs.Machine.{Asked, replied, reply_to, answer, after, machine_answers, final}
use Rattle.guarantee.specs.Counted.{accepts}
use Rattle.guarantee.proofs.Moved.{kind-pack, place-pack}
use Rattle.guarantee.proofs.Whole.{travel}
use Rattle.journal_calls.specs.Journal.{call_on, calls_from}
use Rattle.block_calls.specs.Block.{lines_of, kept_of, Block, block_of, bits_of, block_bits}
use Rattle.block_calls.proofs.Taking.{reply_on, order-misfits}
use Rattle.block_calls.proofs.Few.{kept-few, fault-few}
use Rattle.whole_campaign.specs.Calls.{Call, single, block, singles, gives_by, leaves_by}
use Rattle.whole_campaign.specs.Lists.{answers_by}
use Rattle.whole_campaign.specs.Singly.{kept_by, calls_in, kept_as, answers_in, singly, singly_told}

-- ---- two lists of single calls as one

module _ (g : Network) where
  final-append : (r : Run) (ps qs : List Asked) → final g r (ps ++ qs) ≡ final g (final g r ps) qs
  unfolding final
  final-append r [] qs = refl
  final-append r (p ∷ ps) qs = final-append (after g r p) ps qs

  machine-append : (r : Run) (ps qs : List Asked) → machine_answers g r (ps ++ qs) ≡ machine_answers g r ps ++ machine_answers g (final g r ps) qs
  unfolding machine_answers final
  machine-append r [] qs = refl
  machine-append r (p ∷ ps) qs = ap (λ (xs : List ℕ). answer g r p ∷ xs) (machine-append (after g r p) ps qs)

  -- ---- the replies that a block keeps

  -- they are its first lines
  by-line : (n : ℕ) (r : Run) (t : List ℕ) → ((s : Run) → calls_from (length (kept_of g s (lines_from n (drop 6 t)))) (drop 6 t) ≡ kept_of g s (lines_from n (drop 6 t)))
      → (line : Option Event) → line_of (take 6 t) ≡ line → calls_from (length (kept_of g r (line ∷ lines_from n (drop 6 t)))) t ≡ kept_of g r (line ∷ lines_from n (drop 6 t))
  unfolding calls_from kept_of call_on reply_on
  by-line n r t rest (Some v) e = elim (which (reply_to g r v.letter v.booking).taken) [
    | inl k ↦ (let o : is_order v.letter ≡ false = off (is_order v.letter) (λ z. clash (reply_to g r v.letter v.booking).taken k (order-misfits g r v.letter v.booking z)) in
        rw (k, e, o) (ap (λ (qs : List Asked). replied v.letter v.booking ∷ qs) (rest (reply_to g r v.letter v.booking).run)))
    | inr k ↦ rw k
  ]
  by-line n r t rest None e = refl

  kept-calls : (n : ℕ) (r : Run) (t : List ℕ) → calls_from (length (kept_of g r (lines_from n t))) t ≡ kept_of g r (lines_from n t)
  unfolding calls_from kept_of lines_from
  kept-calls zero r t = refl
  kept-calls (suc n) r t = by-line n r t (λ s. kept-calls n s (drop 6 t)) (line_of (take 6 t)) refl

  -- each of them is accepted
  kept-answers : (r : Run) (lines : List (Option Event)) → map kept_as (kept_of g r lines) ≡ machine_answers g r (kept_of g r lines)
  unfolding kept_of machine_answers kept_as answer after reply_bits
  kept-answers r [] = refl
  kept-answers r (Some v ∷ lines) = elim (which (reply_to g r v.letter v.booking).taken) [
    | inl k ↦ rw (k, k) (ap (λ (xs : List ℕ). pack 6 0 v.booking ∷ xs) (kept-answers (reply_to g r v.letter v.booking).run lines))
    | inr k ↦ rw k
  ]
  kept-answers r (None ∷ lines) = refl

-- and the answer tells how many there are
kept-told : (t : Block) → t.kept ≤ 64 → t.fault ≤ 9 → kept_by (block_bits t) ≡ t.kept
unfolding kept_by block_bits bits_of accepts
kept-told t h f = elim (which (eqb t.fault 0)) [
  | inl e ↦ rw (e, kind-pack 6 0 t.kept (omega arith) (omega arith), place-pack 6 0 t.kept (omega arith))
  | inr e ↦ rw (e, kind-pack 0 t.fault (t.kept + 1) (omega arith) (omega arith), place-pack 0 t.fault (t.kept + 1) (omega arith)) (omega arith)
]

-- ---- a list as single calls

module _ (g : Network) where
  -- what a call stands for
  unfoldable pub parts : Run → Call → List Asked
  parts r (single q) = q ∷ []
  parts r (block lines) = kept_of g r (lines_of lines)

  pub flat : Run → List Call → List Asked
  flat r [] = []
  flat r (c ∷ cs) = parts r c ++ flat (leaves_by g r c) cs

  unfoldable pub final_by : Run → List Call → Run
  final_by r [] = r
  final_by r (c ∷ cs) = final_by (leaves_by g r c) cs

  pub parts-final : (r : Run) (c : Call) → final g r (parts r c) ≡ leaves_by g r c
  unfolding parts leaves_by block_of final
  parts-final r (single q) = refl
  parts-final r (block lines) = refl

  pub flat-final : (r : Run) (cs : List Call) → final g r (flat r cs) ≡ final_by r cs
  unfolding flat final_by final
  flat-final r [] = refl
  flat-final r (c ∷ cs) = final-append g r (parts r c) (flat (leaves_by g r c) cs) ∙ rw (parts-final r c) (flat-final (leaves_by g r c) cs)

  -- a list without blocks stands for itself
  pub singles-final : (r : Run) (qs : List Asked) → final_by r (singles qs) ≡ final g r qs
  unfolding final_by final leaves_by
  singles-final r [] = refl
  singles-final r (q ∷ qs) = singles-final (after g r q) qs

  pub singles-answers : (r : Run) (qs : List Asked) → answers_by g r (singles qs) ≡ machine_answers g r qs
  unfolding answers_by machine_answers gives_by leaves_by
  singles-answers r [] = refl
  singles-answers r (q ∷ qs) = ap (λ (xs : List ℕ). answer g r q ∷ xs) (singles-answers (after g r q) qs)

module _ (g : Network) (ok : Passes g) where
  pub sound-after : (r : Run) → Sound g r → (c : Call) → Sound g (leaves_by g r c)
  sound-after r s c = rw (← parts-final g r c) (travel g ok r s (parts g r c)).sound

  module _ (r : Run) (s : Sound g r) where
    pub told-kept : (lines : List ℕ) → kept_by (block_bits (block_of g r (lines_of lines))) ≡ length (kept_of g r (lines_of lines))
    unfolding block_of
    told-kept lines = kept-told (block_of g r (lines_of lines)) (kept-few g ok.shape.bookings r s.core.size (lines_of lines)) (fault-few g r (lines_of lines))

    pub calls-told : (c : Call) → calls_in c (gives_by g r c) ≡ parts g r c
    unfolding calls_in gives_by parts lines_of
    calls-told (single q) = refl
    calls-told (block lines) = rw (told-kept lines) (kept-calls g ((length lines + 5) / 6) r lines)

    pub answers-told : (c : Call) → answers_in c (gives_by g r c) ≡ machine_answers g r (parts g r c)
    unfolding answers_in gives_by parts machine_answers lines_of
    answers-told (single q) = refl
    answers-told (block lines) = rw (told-kept lines, kept-calls g ((length lines + 5) / 6) r lines) (kept-answers g r (lines_of lines))

  pub told-calls : (r : Run) → Sound g r → (cs : List Call) → singly cs (answers_by g r cs) ≡ flat g r cs
  unfolding singly answers_by flat
  told-calls r s [] = refl
  told-calls r s (c ∷ cs) = ap₂ ◌++◌ (calls-told r s c) (told-calls (leaves_by g r c) (sound-after r s c) cs)

  pub told-answers : (r : Run) → Sound g r → (cs : List Call) → singly_told cs (answers_by g r cs) ≡ machine_answers g r (flat g r cs)
  unfolding singly_told answers_by flat machine_answers
  told-answers r s [] = refl
  told-answers r s (c ∷ cs) =
      ap₂ ◌++◌ (answers-told r s c) (told-answers (leaves_by g r c) (sound-after r s c) cs)
      ∙ rw (← parts-final g r c) (sym (machine-append g r (parts g r c) (flat g (final g r (parts g r c)) cs)))
