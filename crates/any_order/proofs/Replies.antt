-- Lists of replies alone, and blocks, in any order: for all bytes of a sheet and of a state.
-- Assumes nothing.
use mathlib.Core.Path.{◌≡◌, refl, sym, ap, ap₂, subst, ◌∙◌}
use mathlib.Core.Logic.{inl, inr}
use mathlib.Core.Bool.{true, false}
use mathlib.Core.List.{List, [], ◌∷◌, map}
use Prim.Native.Nat.{ℕ, ◌+◌, ◌/◌, ◌≤◌}
use native.Mathlib.Omega.{arith}
use lib.Dec.{eqb}
use lib.ListN.{length}
use borrow.Author.Tests.{eqb-true, ne_eqb}
use Rattle.bounded.proofs.Bools.{which, clash}
use Rattle.network.specs.declared.Network.{Network}
use Rattle.verdict.proofs.Facts.{Passes}
use Rattle.run.specs.Bytes.{bytes_of, run_of}
use Rattle.run.specs.declared.Run.{Run}
use Rattle.run.proofs.Facts.{Sound}
use Rattle.event_lines.specs.Line.{line_of}
use Rattle.std.specs.Prelude.{Option}
use Rattle.event_lines.specs.declared.Event.{Event}
use Rattle.guarantee.specs.Answers.{pack, unsound, kind_of}
use Rattle.guarantee.specs.Machine.{Asked, answer, after, final}
use Rattle.guarantee.specs.Counted.{accepts}
use Rattle.guarantee.specs.AnyOrder.{Rearranged, every, no_order, different, is_reply}
use Rattle.guarantee.proofs.Moved.{kind-pack}
use Rattle.guarantee.proofs.Rearranged.{every-rearranged, different-rearranged, length-rearranged, map-rearranged}
use Rattle.guarantee.proofs.AnyOrder.{each-alone, same-final}
use Rattle.calls.specs.Calls.{network_in, sheet_passes, check_call, asked_call, asked_leaves, in_order, refused_with}
use Rattle.calls.proofs.Exits.{refused-asked}
use Rattle.calls.proofs.FirstAnswer.{refused-low}
use Rattle.block_calls.specs.Block.{lines_of, Block, block_of, bits_of, block_bits, block_call, block_leaves}
use Rattle.block_calls.proofs.Few.{kept-few, fault-few}
use Rattle.whole_campaign.specs.Calls.{single, block as call, singles, gives, leaves, gives_by, leaves_by}
use Rattle.whole_campaign.specs.Lists.{answers_on, left_on}
use Rattle.whole_campaign.proofs.Parts.{singles-final, singles-answers}
use Rattle.calls.proofs.InOrder.{passing, sheet-passes, state-holds}
use Rattle.whole_campaign.proofs.Whole.{gives-is, leaves-is, answers-is, left_is}
use Rattle.whole_campaign.proofs.Given.{bytes}
use Rattle.any_order.specs.Lines.{rows_of, joined, reply_on, replies_on, is_given, well_formed, all_fit, all_differ}
use Rattle.any_order.specs.AnyOrder.{BlockInAnyOrder}
use Rattle.any_order.proofs.Blocks.{lines_rows, rows_stay, only-replies, block-whole, whole-told}

-- what is shown here: as the claim has it, but that no next order stands in the lists
pub record Replies (s bs : List ℕ) : Type 0 where
  pub alone : (qs : List Asked) → no_order qs ≡ true → different qs ≡ true → answers_on s bs (singles qs) ≡ map (asked_call s bs) qs
  pub state : (qs ps : List Asked) → no_order qs ≡ true → different qs ≡ true → Rearranged qs ps → left_on s bs (singles ps) ≡ left_on s bs (singles qs)
  pub blocks : (block : List ℕ) (rows : List (List ℕ)) → well_formed block ≡ true → all_fit s bs block ≡ true → all_differ block ≡ true → Rearranged (rows_of block) rows → BlockInAnyOrder s bs block (joined rows)
  pub told : (block : List ℕ) → accepts (block_call s block bs) ≡ true → (well_formed block ≡ true) × (all_fit s bs block ≡ true) × (all_differ block ≡ true)

-- a rearranged block is read as the lines rearranged
rows-lines : (block other : List ℕ) → Rearranged (rows_of block) (rows_of other) → Rearranged (lines_of block) (lines_of other)
unfolding rows_of lines_of
rows-lines block other p =
    rw (lines_rows ((length block + 5) / 6) block, lines_rows ((length other + 5) / 6) other) (map-rearranged line_of (rows_of block) (rows_of other) p)

map-ext : (f h : Asked → ℕ) → ((q : Asked) → f q ≡ h q) → (qs : List Asked) → map f qs ≡ map h qs
map-ext f h e [] = refl
map-ext f h e (q ∷ qs) = ap₂ ◌∷◌ (e q) (map-ext f h e qs)

-- an accepted block has no fault
no-fault : (t : Block) → t.kept ≤ 64 → t.fault ≤ 9 → accepts (block_bits t) ≡ true → t.fault ≡ 0
unfolding accepts block_bits bits_of
no-fault t h f a = elim (which (eqb t.fault 0)) [
  | inl z ↦ eqb-true t.fault 0 z
  | inr z ↦ clash (accepts (bits_of t.kept t.fault)) a (rw (z, kind-pack 0 t.fault (t.kept + 1) (omega arith) (omega arith)))
]

-- ---- from a sound state, on a sheet that passes

module _ (s : List ℕ) (e : sheet_passes s ≡ true) (r : Run) (k : Sound (network_in s) r) where
  abbrev g : Network
  g = network_in s

  abbrev ok : Passes g
  ok = passing s e

  asked : (q : Asked) → asked_call s (bytes_of r) q ≡ answer g r q
  unfolding gives gives_by
  asked q = gives-is s e r k (single q)

  left : (q : Asked) → asked_leaves s (bytes_of r) q ≡ bytes_of (after g r q)
  unfolding leaves leaves_by
  left q = leaves-is s e r k (single q)

  asked-list : (qs : List Asked) → no_order qs ≡ true → different qs ≡ true → answers_on s (bytes_of r) (singles qs) ≡ map (asked_call s (bytes_of r)) qs
  asked-list qs o d = answers-is s e r k (singles qs) ∙ singles-answers g r qs ∙ each-alone g r qs o d ∙ sym (map-ext (asked_call s (bytes_of r)) (answer g r) asked qs)

  left-list : (qs : List Asked) → left_on s (bytes_of r) (singles qs) ≡ bytes_of (final g r qs)
  left-list qs = left_is s e r k (singles qs) ∙ ap bytes_of (singles-final g r qs)

  no-order-late : (qs ps : List Asked) → no_order qs ≡ true → Rearranged qs ps → no_order ps ≡ true
  unfolding no_order
  no-order-late qs ps o p = every-rearranged is_reply qs ps p o

  -- ---- blocks

  fit_is : (lines : List (Option Event)) → every accepts (map (asked_call s (bytes_of r)) (map reply_on lines)) ≡ every accepts (map (answer g r) (map reply_on lines))
  fit_is lines = ap (every accepts) (map-ext (asked_call s (bytes_of r)) (answer g r) asked (map reply_on lines))

  -- a block that is taken whole
  module _ (block : List ℕ) (w : well_formed block ≡ true) (f : all_fit s (bytes_of r) block ≡ true) (d : all_differ block ≡ true) where
    block-is : block_of g r (lines_of block) ≡ record { kept = length (lines_of block); fault = 0; run = final g r (replies_on block) }
    unfolding well_formed all_fit all_differ replies_on
    block-is = block-whole g ok.shape.bookings r (lines_of block) w (sym (fit_is (lines_of block)) ∙ f) d

    block-answer : block_call s block (bytes_of r) ≡ pack 6 0 (length (lines_of block))
    unfolding gives gives_by block_bits bits_of
    block-answer = gives-is s e r k (call block) ∙ ap block_bits block-is

    block-left : block_leaves s block (bytes_of r) ≡ bytes_of (final g r (replies_on block))
    unfolding leaves leaves_by
    block-left = leaves-is s e r k (call block) ∙ ap (λ (t : Block). bytes_of t.run) block-is

  -- and the same lines in another order
  module _ (block : List ℕ) (rows : List (List ℕ)) (w : well_formed block ≡ true) (f : all_fit s (bytes_of r) block ≡ true) (d : all_differ block ≡ true) (p : Rearranged (rows_of block) rows) where
    abbrev other : List ℕ
    other = joined rows

    lines-p : Rearranged (lines_of block) (lines_of other)
    lines-p = rows-lines block other (rw (rows_stay block rows w p) p)

    replies-p : Rearranged (replies_on block) (replies_on other)
    unfolding replies_on
    replies-p = map-rearranged reply_on (lines_of block) (lines_of other) lines-p

    no-order : no_order (replies_on block) ≡ true
    unfolding replies_on
    no-order = only-replies (lines_of block)

    other-formed : well_formed other ≡ true
    unfolding well_formed
    other-formed = every-rearranged is_given (lines_of block) (lines_of other) lines-p w

    other_fits : all_fit s (bytes_of r) other ≡ true
    unfolding all_fit
    other_fits =
        every-rearranged accepts (map (asked_call s (bytes_of r)) (replies_on block)) (map (asked_call s (bytes_of r)) (replies_on other))
        (map-rearranged (asked_call s (bytes_of r)) (replies_on block) (replies_on other) replies-p) f

    other_differs : all_differ other ≡ true
    unfolding all_differ
    other_differs = different-rearranged (replies_on block) (replies_on other) replies-p no-order d

    other-left : block_leaves s other (bytes_of r) ≡ bytes_of (final g r (replies_on block))
    unfolding all_differ
    other-left = block-left other other-formed other_fits other_differs ∙ ap bytes_of (same-final g ok r k (replies_on block) (replies_on other) no-order d replies-p)

    other-answer : block_call s other (bytes_of r) ≡ pack 6 0 (length (lines_of other))
    other-answer = block-answer other other-formed other_fits other_differs

  -- what an accepted block tells
  sound-told : (block : List ℕ) → accepts (block_call s block (bytes_of r)) ≡ true → (well_formed block ≡ true) × (all_fit s (bytes_of r) block ≡ true) × (all_differ block ≡ true)
  unfolding well_formed all_fit all_differ replies_on gives gives_by
  sound-told block a =
      let t : Block = block_of g r (lines_of block) in
      let few = kept-few g ok.shape.bookings r k.core.size (lines_of block) in
      let z = no-fault t few (fault-few g r (lines_of block)) (ap accepts (sym (gives-is s e r k (call block))) ∙ a) in
      let (w, f, d) = whole-told g ok r k (lines_of block) z in
      (w, fit_is (lines_of block) ∙ f, d)

  -- ---- all of it

  pub from-sound : Replies s (bytes_of r)
  from-sound =
      record {
        alone = asked-list;
        state = λ qs ps o d p. left-list ps ∙ ap bytes_of (same-final g ok r k qs ps o d p) ∙ sym (left-list qs);
        blocks = λ block rows w f d p. record {
          answer = other-answer block rows w f d p ∙ ap (pack 6 0) (length-rearranged (lines_of block) (lines_of (joined rows)) (lines-p block rows w f d p)) ∙ sym (block-answer block w f d);
          state = other-left block rows w f d p ∙ sym (block-left block w f d);
          whole = λ o. other-answer block rows w f d p;
          singly = other-left block rows w f d p ∙ sym (left-list (replies_on block));
        };
        told = sound-told;
      }

-- ---- where the sheet is refused or the state is not sound

module _ (s bs : List ℕ) (o : in_order s bs ≡ false) where
  refused : (q : Asked) → asked_call s bs q ≡ refused_with s
  refused q = sym (refused-asked s bs o q).0

  unchanged : (q : Asked) → asked_leaves s bs q ≡ bs
  unchanged q = sym (refused-asked s bs o q).1

  refused-list : (qs : List Asked) → answers_on s bs (singles qs) ≡ map (asked_call s bs) qs
  unfolding answers_on gives leaves
  refused-list [] = refl
  refused-list (q ∷ qs) = ap (λ (xs : List ℕ). asked_call s bs q ∷ xs) (ap (λ (t : List ℕ). answers_on s t (singles qs)) (unchanged q) ∙ refused-list qs)

  unchanged-list : (qs : List Asked) → left_on s bs (singles qs) ≡ bs
  unfolding left_on leaves
  unchanged-list [] = refl
  unchanged-list (q ∷ qs) = ap (λ (t : List ℕ). left_on s t (singles qs)) (unchanged q) ∙ unchanged-list qs

  block_refused : (block : List ℕ) → block_call s block bs ≡ refused_with s
  unfolding block_call
  block_refused block = rw o refl

  block-unchanged : (block : List ℕ) → block_leaves s block bs ≡ bs
  unfolding block_leaves
  block-unchanged block = rw o refl

  not-accepted : accepts (refused_with s) ≡ false
  unfolding accepts kind_of refused_with unsound pack
  not-accepted = elim (which (sheet_passes s)) [ inl p ↦ rw p refl | inr p ↦ rw p (ne_eqb (check_call s / 16777216) 6 (λ z. omega (arith, refused-low s p))) ]

  from-refused : Replies s bs
  from-refused =
      record {
        alone = λ qs n d. refused-list qs;
        state = λ qs ps n d p. unchanged-list ps ∙ sym (unchanged-list qs);
        blocks = λ block rows w f d p. record {
          answer = block_refused (joined rows) ∙ sym (block_refused block);
          state = block-unchanged (joined rows) ∙ sym (block-unchanged block);
          whole = λ z. clash (in_order s bs) z o;
          singly = block-unchanged (joined rows) ∙ sym (unchanged-list (replies_on block));
        };
        told = λ block a. clash (accepts (refused_with s)) (ap accepts (sym (block_refused block)) ∙ a) not-accepted;
      }

-- for all bytes
pub replies : (s bs : List ℕ) → Replies s bs
replies s bs = elim (which (in_order s bs)) [
  | inl o ↦ subst (Replies s) (bytes s bs o) (from-sound s (sheet-passes s bs o) (run_of bs) (state-holds s bs o))
  | inr o ↦ from-refused s bs o
]
