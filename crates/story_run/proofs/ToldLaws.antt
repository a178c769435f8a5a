-- What planners' program has in hand after its calls, and what that says of the text that it prints.
-- Assumes nothing.
use Prim.Native.Nat.{ℕ, ◌/◌, ◌≤◌, ◌<◌}
use mathlib.Core.Path.{◌≡◌, ap, ◌∙◌}
use mathlib.Core.Logic.{◌≢◌, inl, inr}
use mathlib.Core.Bool.{true, false, cond}
use mathlib.Core.List.{List}
use native.Mathlib.Omega.{arith}
use lib.Dec.{eqb, leb}
use lib.ListN.{length, take}
use lib.Seq.{sets}
use borrow.Author.Tests.{eq-eqb, eqb-true, eqb-false, le-leb, lt-leb}
use Rattle.bounded.proofs.Bools.{which}
use Rattle.decimal.proofs.Stores.{sets-counted}
use Rattle.network.specs.declared.Network.{Network}
use Rattle.run.specs.State.{start}
use Rattle.run.specs.Bytes.{bytes_of}
use Rattle.run.specs.declared.Run.{Run}
use Rattle.run.proofs.Facts.{Sound}
use Rattle.guarantee.specs.Answers.{pack, kind_of, place_of}
use Rattle.guarantee.specs.Machine.{final}
use Rattle.guarantee.proofs.Start.{start-sound}
use Rattle.guarantee.proofs.Whole.{travel}
use Rattle.calls.specs.Calls.{network_in, sheet_passes, check_call}
use Rattle.calls.proofs.FirstAnswer.{refused-low}
use Rattle.calls.proofs.InOrder.{passing, accepted}
use Rattle.journal_calls.specs.Journal.{calls_of}
use Rattle.journal_calls.specs.Restart.{Replayed, replay, replay_bits, restart_call, restarts, restart_leaves}
use Rattle.journal_calls.proofs.Exits.{place-small}
use Rattle.charges.specs.Charges.{most_lines}
use Rattle.drill_lines.specs.Printed.{printed_text}
use Rattle.drill_lines.proofs.PrintLaws.{printed-length}
use Rattle.passed_ways.specs.Listing.{listing}
use Rattle.passed_ways.proofs.StoryLaws.{story}
use Rattle.passed_calls.proofs.Accepted.{text-small, listed}
use Rattle.passed_calls.specs.Passed.{passed_call, passed_leaves}
use Rattle.stopped_campaign.proofs.Replays.{replayed}
use Rattle.story_run.specs.Told.{longest_listing, resume_bits, story_text, Retold}

-- ---- the restart

module _ (s j bs : List ℕ) where
  -- an answer, and what is left
  abbrev pub Ends : ℕ → List ℕ → Type 0
  Ends x after = (x ≡ resume_bits s j) × (after ≡ cond (leb (length j / 6) most_lines) (restart_leaves s j bs) bs)

  -- a journal that is too long: the sheet is judged first
  module _ (long : most_lines < length j / 6) (x : ℕ) (e : x ≡ check_call s) where
    off : leb (length j / 6) most_lines ≡ false
    off = lt-leb (length j / 6) most_lines long

    pub sheet-refused : kind_of x ≡ 0 → Ends x bs
    unfolding resume_bits kind_of pack
    sheet-refused z = elim (which (sheet_passes s)) [
      | inl p ↦ (let y = accepted s p in absurd (omega arith))
      | inr p ↦ (rw p e, rw off)
    ]

    pub too_long : kind_of x ≢ 0 → (y : ℕ) → y ≡ pack 0 14 0 → Ends y bs
    unfolding resume_bits kind_of
    too_long z y q = elim (which (sheet_passes s)) [
      | inl p ↦ (rw (p, off) q, rw off)
      | inr p ↦ (let l = refused-low s p in absurd (z (omega arith)))
    ]

  pub restarted : length bs ≡ 65 → length j / 6 ≤ most_lines → (x : ℕ) → x ≡ restart_call s j bs → (after : List ℕ) → after ≡ restart_leaves s j bs → Ends x after
  unfolding resume_bits restart_call
  restarted h l x e after w =
      let t = le-leb (length j / 6) most_lines l in
      (rw t (rw (eq-eqb (length bs) 65 h) at e), rw t w)

-- ---- a journal that was taken to its end

pub record Resumed (s j : List ℕ) : Type 0 where
  pub passes : sheet_passes s ≡ true
  pub short : leb (length j / 6) most_lines ≡ true
  pub right : (replay (network_in s) j).wrong ≡ 0

module _ (s j : List ℕ) where
  pub resumed-e : kind_of (resume_bits s j) ≢ 0 → Resumed s j
  unfolding resume_bits replay_bits kind_of pack
  resumed-e h = elim (which (sheet_passes s)) [
    | inl p ↦ elim (which (leb (length j / 6) most_lines)) [
      | inl l ↦ elim (which (eqb (replay (network_in s) j).wrong 0)) [
        | inl z ↦ record { passes = p; short = l; right = eqb-true _ 0 z }
        | inr z ↦ absurd (h (rw (p, l, z) (omega (arith, place-small (replay (network_in s) j).wrong))))
      ]
      | inr l ↦ absurd (h (rw (p, l)))
    ]
    | inr p ↦ absurd (h (rw p (omega (arith, refused-low s p))))
  ]

  module _ (r : Resumed s j) where
    abbrev g : Network
    g = network_in s

    abbrev state : Run
    state = (replay g j).run

    -- its state is that after the calls of its lines, and so sound
    state-is : state ≡ final g start (calls_of j)
    unfolding replay calls_of
    state-is =
        let h = (passing s r.passes).shape in
        ap (λ (x : Replayed). x.run) (replayed g h.bookings h.few start 1 (length j / 6) j (omega arith) r.right).state

    state-sound : Sound g state
    state-sound = let ok = passing s r.passes in rw state-is (travel g ok start (start-sound g ok) (calls_of j)).sound

    story-is : story_text s j ≡ listing g state
    unfolding story_text resume_bits replay_bits kind_of pack
    story-is = rw (r.passes, r.short, r.right)

    left_is : (bs : List ℕ) → length bs ≡ 65 → cond (leb (length j / 6) most_lines) (restart_leaves s j bs) bs ≡ bytes_of state
    unfolding restart_leaves restarts
    left_is bs h = rw (r.short, r.passes, eq-eqb (length bs) 65 h, r.right)

  pub retold : kind_of (resume_bits s j) ≢ 0 → Retold s j
  retold h =
      let r = resumed-e h in
      let p = (passing s r.passes).shape in
      record { state = state-is r; story = rw (story-is r) (story (network_in s) p.bookings p.few (state r) (state-sound r).core) }

  -- what is printed is no longer than the longest listing
  pub story-length : length (story_text s j) ≤ longest_listing
  unfolding story_text
  story-length = elim (which (eqb (kind_of (resume_bits s j)) 0)) [
    | inl z ↦ rw z (omega (arith, printed-length (resume_bits s j)))
    | inr z ↦ rw z (let r = resumed-e (eqb-false _ 0 z) in text-small s r.passes (state r) (state-sound r))
  ]

-- ---- what is printed

module _ (s j d : List ℕ) (long : longest_listing ≤ length d) (bits : ℕ) (e : bits ≡ resume_bits s j) where
  -- a refusal
  pub printed : kind_of bits ≡ 0 → (n : ℕ) → n ≡ length (printed_text bits) → (out : List ℕ) → out ≡ sets d 0 (printed_text bits)
      → (n ≡ length (story_text s j)) × (out ≡ sets d 0 (story_text s j))
  unfolding story_text
  printed z n p out q =
      let y : eqb (kind_of (resume_bits s j)) 0 ≡ true = eq-eqb (kind_of (resume_bits s j)) 0 (rw (← e) z) in
      (rw (y, ← e) p, rw (y, ← e) q)

  -- the listing, which the second call has written
  pub told : kind_of bits ≢ 0 → (lent bs : List ℕ) → length lent ≡ 65 → bs ≡ cond (leb (length j / 6) most_lines) (restart_leaves s j lent) lent
      → (x : ℕ) → x ≡ passed_call s bs (length d) → (after : List ℕ) → after ≡ passed_leaves s bs d → (n : ℕ) → n ≡ place_of x
      → (n ≡ length (story_text s j)) × (after ≡ sets d 0 (story_text s j))
  unfolding place_of pack
  told z lent bs h w x q after a n p =
      let r = resumed-e s j (rw (← e) z) in
      let b : bs ≡ bytes_of (state s j r) = w ∙ left_is s j r lent h in
      let k = state-sound s j r in
      let t = listed s r.passes (state s j r) k d long in
      let y : x ≡ pack 6 0 (length (listing (network_in s) (state s j r))) = q ∙ rw b t.0 in
      (rw (story-is s j r) (omega (arith, text-small s r.passes (state s j r) k)), rw (story-is s j r) (a ∙ rw b t.1))

-- so much of the buffer is printed
pub story-counts : (s j d b : List ℕ) (n : ℕ) → longest_listing ≡ length d → n ≡ length (story_text s j) → b ≡ sets d 0 (story_text s j)
    → (n ≤ length b) × (n ≡ length (take n b))
story-counts s j d b n h = sets-counted d b (story_text s j) n (omega (arith, story-length s j))
