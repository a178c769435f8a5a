-- A block whose lines are well formed, all fit and name different bookings, on the plain machine: it is taken whole.
-- Assumes nothing.
use mathlib.Core.Path.{◌≡◌, refl, sym, ap, ◌∙◌}
use mathlib.Core.Logic.{◌≢◌, inl, inr}
use mathlib.Core.Bool.{true, false}
use mathlib.Core.List.{List, [], ◌∷◌, map}
use Prim.Native.Nat.{ℕ, zero, suc, ◌+◌, ◌*◌, ◌/◌, ◌≤◌}
use native.Mathlib.Nat.{le_refl}
use native.Mathlib.Omega.{arith}
use lib.Dec.{eqb}
use lib.ListN.{length, take, drop, drop_of_length-le, length-append}
use lib.Seq.{take_at, drop_at}
use borrow.Author.Tests.{eqb-true, ne_eqb}
use Rattle.bounded.proofs.Bools.{◌&◌, and_l, and_r, not-i, which, clash}
use Rattle.network.specs.declared.Network.{Network}
use Rattle.verdict.proofs.Facts.{Passes}
use Rattle.run.specs.declared.Run.{Run}
use Rattle.run.proofs.Facts.{Sound}
use Rattle.event_lines.specs.Line.{line_of, lines_from}
use Rattle.std.specs.Prelude.{Option, Some, None}
use Rattle.event_lines.specs.declared.Event.{Event}
use Rattle.event_lines.proofs.LineLaws.{read-text, line-length}
use Rattle.guarantee.specs.Answers.{kind_of, place9, reply_bits}
use Rattle.guarantee.specs.Machine.{Asked, replied, reply_to, answer, after, final}
use Rattle.guarantee.specs.Counted.{accepts}
use Rattle.guarantee.specs.AnyOrder.{Rearranged, every, is_reply, no_order, not_to, different}
use Rattle.guarantee.proofs.Numbers.{small-9, taken-small}
use Rattle.guarantee.proofs.Moved.{kind-pack, moved}
use Rattle.guarantee.proofs.Rearranged.{every-rearranged}
use Rattle.guarantee.proofs.AnyOrder.{fits-same, others-alike, once}
use Rattle.block_calls.specs.Block.{lines_of, kept_of, fault_of, block_of}
use Rattle.any_order.specs.Lines.{rows_from, rows_of, joined, has_six, reply_on, is_given, well_formed}

-- the lines are read from the bytes of each
pub lines_rows : (n : ℕ) (t : List ℕ) → lines_from n t ≡ map line_of (rows_from n t)
unfolding lines_from rows_from
lines_rows zero t = refl
lines_rows (suc n) t = ap (λ (ls : List (Option Event)). line_of (take 6 t) ∷ ls) (lines_rows n (drop 6 t))

-- lines of six bytes, put one after the other, are the lines of that block
joined_length : (rows : List (List ℕ)) → every has_six rows ≡ true → length (joined rows) ≡ 6 * length rows
unfolding every has_six joined
joined_length [] h = refl
joined_length (row ∷ rows) h =
    let six = eqb-true (length row) 6 (and_l (has_six row) _ h) in
    length-append row (joined rows) ∙ omega (arith, joined_length rows (and_r (has_six row) _ h))

rows-from : (rows : List (List ℕ)) → every has_six rows ≡ true → rows_from (length rows) (joined rows) ≡ rows
unfolding every has_six joined rows_from
rows-from [] h = refl
rows-from (row ∷ rows) h =
    let six = eqb-true (length row) 6 (and_l (has_six row) _ h) in
    rw (take_at row (joined rows) 6 six, drop_at row (joined rows) 6 six) (ap (λ (rs : List (List ℕ)). row ∷ rs) (rows-from rows (and_r (has_six row) _ h)))

rows-joined : (rows : List (List ℕ)) → every has_six rows ≡ true → rows_of (joined rows) ≡ rows
unfolding rows_of
rows-joined rows h =
    let n : (length (joined rows) + 5) / 6 ≡ length rows = omega (arith, joined_length rows h) in
    rw n (rows-from rows h)

-- the lines of a block have six bytes if they are well formed
six-bytes : (row : List ℕ) (line : Option Event) → line_of row ≡ line → is_given line ≡ true → has_six row ≡ true
unfolding has_six is_given
six-bytes row (Some v) e g = rw (read-text row v.letter v.booking e, line-length v.letter v.booking) refl
six-bytes row None e g = clash false g refl

rows-six : (rows : List (List ℕ)) → every is_given (map line_of rows) ≡ true → every has_six rows ≡ true
unfolding every
rows-six [] g = refl
rows-six (row ∷ rows) g = six-bytes row (line_of row) refl (and_l (is_given (line_of row)) _ g) & rows-six rows (and_r (is_given (line_of row)) _ g)

-- so a block's lines in any order, put one after the other, are those of that block
pub rows_stay : (block : List ℕ) (rows : List (List ℕ)) → well_formed block ≡ true → Rearranged (rows_of block) rows → rows_of (joined rows) ≡ rows
unfolding well_formed lines_of rows_of
rows_stay block rows w p =
    let n : ℕ = (length block + 5) / 6 in
    let w' : every is_given (map line_of (rows_from n block)) ≡ true = rw (← lines_rows n block) w in
    rows-joined rows (every-rearranged has_six (rows_from n block) rows p (rows-six (rows_from n block) w'))

-- no order stands on a block's lines
pub only-replies : (lines : List (Option Event)) → no_order (map reply_on lines) ≡ true
unfolding no_order every is_reply reply_on
only-replies [] = refl
only-replies (Some v ∷ lines) = only-replies lines
only-replies (None ∷ lines) = only-replies lines

map-length : (lines : List (Option Event)) → length (map reply_on lines) ≡ length lines
map-length [] = refl
map-length (line ∷ lines) = ap suc (map-length lines)

module _ (g : Network) (few : g.n ≤ 64) where
  -- a reply fits where its answer accepts it
  fits-e : (r : Run) (l b : ℕ) → accepts (answer g r (replied l b)) ≡ true → (reply_to g r l b).taken ≡ true
  unfolding answer reply_bits accepts
  fits-e r l b e = elim (which (reply_to g r l b).taken) [
    | inl t ↦ t
    | inr n ↦ clash (eqb (kind_of (reply_bits b (reply_to g r l b).taken)) 6) e (rw (n, kind-pack 0 9 (place9 b) (omega arith) (omega (arith, small-9 b))))
  ]

  fits-i : (r : Run) (l b : ℕ) → (reply_to g r l b).taken ≡ true → accepts (answer g r (replied l b)) ≡ true
  unfolding answer reply_bits accepts
  fits-i r l b t = rw (t, kind-pack 6 0 b (omega arith) (taken-small g r l b (reply_to g r l b) few refl t))

  -- all replies are accepted, each if it comes alone
  abbrev pub AllFit : Run → List (Option Event) → Type 0
  AllFit r lines = every accepts (map (answer g r) (map reply_on lines)) ≡ true

  -- after the first of them the others fit as before
  others-fit : (r : Run) (l b : ℕ) (lines : List (Option Event)) → every (not_to b) (map reply_on lines) ≡ true
      → every accepts (map (answer g (after g r (replied l b))) (map reply_on lines)) ≡ every accepts (map (answer g r) (map reply_on lines))
  others-fit r l b lines n = ap (every accepts) (others-alike g r l b (map reply_on lines) (only-replies lines) n)

  kept_whole : (r : Run) (lines : List (Option Event)) → every is_given lines ≡ true → AllFit r lines → different (map reply_on lines) ≡ true → kept_of g r lines ≡ map reply_on lines
  unfolding every is_given different reply_on kept_of after
  kept_whole r [] w f d = refl
  kept_whole r (Some v ∷ lines) w f d =
      let t = fits-e r v.letter v.booking (and_l (accepts (answer g r (replied v.letter v.booking))) _ f) in
      let n = and_l (every (not_to v.booking) (map reply_on lines)) _ d in
      rw t (ap (λ (qs : List Asked). replied v.letter v.booking ∷ qs)
      (kept_whole (reply_to g r v.letter v.booking).run lines w (others-fit r v.letter v.booking lines n ∙ and_r (accepts (answer g r (replied v.letter v.booking))) _ f) (and_r (every (not_to v.booking) (map reply_on lines)) _ d)))
  kept_whole r (None ∷ lines) w f d = clash false w refl

  -- all its replies are kept, and nothing is wrong
  pub block-whole : (r : Run) (lines : List (Option Event)) → every is_given lines ≡ true → AllFit r lines → different (map reply_on lines) ≡ true
      → block_of g r lines ≡ record { kept = length lines; fault = 0; run = final g r (map reply_on lines) }
  unfolding block_of fault_of
  block-whole r lines w f d = rw (kept_whole r lines w f d, map-length lines, drop_of_length-le lines {i = length lines} (le_refl (length lines)))

-- ---- a block with which nothing is wrong

module _ (g : Network) (ok : Passes g) where
  -- no line of it is to a booking that has no reply that fits
  none-to : (r : Run) (b : ℕ) → ((m : ℕ) → (reply_to g r m b).taken ≡ false) → (lines : List (Option Event)) → (block_of g r lines).fault ≡ 0 → every (not_to b) (map reply_on lines) ≡ true
  unfolding every not_to reply_on block_of kept_of fault_of after
  none-to r b c [] z = refl
  none-to r b c (Some v ∷ lines) z = elim (which (reply_to g r v.letter v.booking).taken) [
    | inl t ↦ (let d : v.booking ≢ b = λ e. clash (reply_to g r v.letter b).taken (rw e at t) (c v.letter) in
        not-i _ (ne_eqb v.booking b d) & none-to (reply_to g r v.letter v.booking).run b (λ m. fits-same g r m b v.letter v.booking (λ e. d (sym e)) ∙ c m) lines (rw t at z))
    | inr n ↦ absurd (let y : ◌≡◌ {A = ℕ} 9 0 = rw n at z in omega arith)
  ]
  none-to r b c (None ∷ lines) z = absurd (omega arith)

  -- its lines are well formed, all fit and name different bookings
  pub whole-told : (r : Run) → Sound g r → (lines : List (Option Event)) → (block_of g r lines).fault ≡ 0
      → (every is_given lines ≡ true) × (every accepts (map (answer g r) (map reply_on lines)) ≡ true) × (different (map reply_on lines) ≡ true)
  unfolding every is_given different reply_on block_of kept_of fault_of after
  whole-told r s [] z = (refl, refl, refl)
  whole-told r s (Some v ∷ lines) z = elim (which (reply_to g r v.letter v.booking).taken) [
    | inl t ↦ (let y = rw t at z in
        let n = none-to (reply_to g r v.letter v.booking).run v.booking (once g ok r s v.letter v.booking t) lines y in
        let p = whole-told (reply_to g r v.letter v.booking).run (moved g ok r s (replied v.letter v.booking)).sound lines y in
        (p.0, fits-i g ok.shape.bookings r v.letter v.booking t & (sym (others-fit g ok.shape.bookings r v.letter v.booking lines n) ∙ p.1), n & p.2))
    | inr n ↦ absurd (let y : ◌≡◌ {A = ℕ} 9 0 = rw n at z in omega arith)
  ]
  whole-told r s (None ∷ lines) z = absurd (omega arith)
