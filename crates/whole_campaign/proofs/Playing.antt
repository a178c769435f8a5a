-- The laws by which a list of calls is played: bytes in, bytes out, and one turn of the loop.
-- Assumes nothing.
use mathlib.Core.Path.{◌≡◌, refl, sym, ap, ◌∙◌}
use mathlib.Core.List.{List, [], ◌∷◌, ◌++◌, append_assoc}
use Prim.Native.Nat.{ℕ, suc, ◌+◌, ◌-◌, ◌*◌, ◌/◌, ◌%◌, ◌^◌, ◌≤◌, ◌<◌}
use native.Mathlib.Omega.{arith}
use borrow.Author.Tests.{eq-eqb, ne_eqb, le-leb, lt-leb}
use lib.ListN.{length, get_or, take, drop, length-append}
use lib.Seq.{sets}
use Rattle.std.proofs.Common.{w32}
use Rattle.std.specs.Int.{to_be_bytes}
use Rattle.decimal.proofs.Stores.{sets-append}
use Rattle.run.specs.State.{start}
use Rattle.run.specs.Bytes.{bytes_of}
use Rattle.guarantee.specs.Answers.{pack}
use Rattle.guarantee.specs.Machine.{next_order, replied}
use Rattle.calls.specs.Calls.{start_call}
use Rattle.whole_campaign.specs.Calls.{Call, single, block, gives, leaves}
use Rattle.whole_campaign.specs.Lists.{answers_on, states_on}
use Rattle.whole_campaign.specs.Play.{word_at, word_text, call_at, list_from, list_in, recorded, record_of, roomy, play_call, play_leaves}
use Rattle.calls.proofs.FirstAnswer.{low-refused, high-passes, accepted-is}

-- ---- a call by its bytes

module _ (bytes blocks : List ℕ) (i : ℕ) where
  pub at_next : get_or bytes (10 * i) 0 ≡ 0 → call_at bytes blocks i ≡ single next_order
  unfolding call_at
  at_next e = rw (eq-eqb (get_or bytes (10 * i) 0) 0 e)

  module _ (n : get_or bytes (10 * i) 0 ≡ 0 → ⊥) where
    pub at_block : get_or bytes (10 * i) 0 ≡ 1 → call_at bytes blocks i ≡ block (take (word_at bytes (10 * i + 6)) (drop (word_at bytes (10 * i + 2)) blocks))
    unfolding call_at
    at_block e = rw (ne_eqb (get_or bytes (10 * i) 0) 0 n, eq-eqb (get_or bytes (10 * i) 0) 1 e)

    pub at-reply : (get_or bytes (10 * i) 0 ≡ 1 → ⊥) → call_at bytes blocks i ≡ single (replied (get_or bytes (10 * i + 1) 0) (word_at bytes (10 * i + 2)))
    unfolding call_at
    at-reply e = rw (ne_eqb (get_or bytes (10 * i) 0) 0 n, ne_eqb (get_or bytes (10 * i) 0) 1 e)

-- ---- an answer as bytes

pub word-length : (x : ℕ) → length (word_text x) ≡ 4
unfolding word_text
word-length x = refl

word-bytes : (x : ℕ) → x < 2 ^ 32 → to_be_bytes w32 x ≡ word_text x
unfolding word_text
word-bytes x h = let e : x / 16777216 % 256 ≡ x / 16777216 = omega arith in rw e

-- an answer and then the state
pub stored_answer : (d : List ℕ) (at x : ℕ) (bs : List ℕ) → x < 2 ^ 32 → sets (sets d at (to_be_bytes w32 x)) (at + 4) bs ≡ sets d at (word_text x ++ bs)
stored_answer d at x bs h =
    let n : at + 4 ≡ at + length (word_text x) = omega (arith, word-length x) in
    ap (λ (t : List ℕ). sets (sets d at t) (at + 4) bs) (word-bytes x h) ∙ ap (λ (k : ℕ). sets (sets d at (word_text x)) k bs) n ∙ sym (sets-append d at (word_text x) bs)

-- ---- one turn

module _ (s calls blocks : List ℕ) where
  more-calls : (n i : ℕ) → i < n → list_from (n - i) i calls blocks ≡ call_at calls blocks i ∷ list_from (n - (i + 1)) (i + 1) calls blocks
  unfolding list_from
  more-calls n i h = let e : n - i ≡ suc (n - (i + 1)) = omega arith in rw e

  no-calls : (n i : ℕ) → n ≤ i → list_from (n - i) i calls blocks ≡ []
  unfolding list_from
  no-calls n i h = let e : n - i ≡ 0 = omega arith in rw e

  record-more : (bs : List ℕ) (c : Call) (cs : List Call)
      → record_of s bs (c ∷ cs) ≡ (word_text (gives s bs c) ++ leaves s bs c) ++ record_of s (leaves s bs c) cs
  unfolding record_of answers_on states_on recorded
  record-more bs c cs = sym (append_assoc (word_text (gives s bs c)) (leaves s bs c) (recorded (answers_on s (leaves s bs c) cs) (states_on s (leaves s bs c) cs)))

  -- what is still to be recorded from call i on, after n calls in all
  abbrev pub rest : ℕ → ℕ → List ℕ → List ℕ
  rest n i bs = record_of s bs (list_from (n - i) i calls blocks)

  pub play-turn : (whole d e bs after : List ℕ) (n i x : ℕ) → i < n → length after ≡ 65
      → x ≡ gives s bs (call_at calls blocks i) → after ≡ leaves s bs (call_at calls blocks i) → e ≡ sets d (69 * i) (word_text x ++ after)
      → sets d (69 * i) (rest n i bs) ≡ whole → sets e (69 * (i + 1)) (rest n (i + 1) after) ≡ whole
  play-turn whole d e bs after n i x h l px pa pe inv =
      let a : List ℕ = word_text x ++ after in
      let p : 69 * (i + 1) ≡ 69 * i + length a = omega (arith, length-append (word_text x) after, word-length x) in
      let r : rest n i bs ≡ a ++ rest n (i + 1) after = rw (more-calls n i h) (record-more bs (call_at calls blocks i) (list_from (n - (i + 1)) (i + 1) calls blocks) ∙ rw (px, pa) refl) in
      ap (λ (k : ℕ). sets e k (rest n (i + 1) after)) p ∙ ap (λ (f : List ℕ). sets f (69 * i + length a) (rest n (i + 1) after)) pe
      ∙ sym (sets-append d (69 * i) a (rest n (i + 1) after)) ∙ ap (λ (t : List ℕ). sets d (69 * i) t) (sym r) ∙ inv

  pub play-end : (whole d bs : List ℕ) (n i : ℕ) → n ≤ i → sets d (69 * i) (rest n i bs) ≡ whole → d ≡ whole
  unfolding record_of answers_on recorded
  play-end whole d bs n i h inv = rw (no-calls n i h) at inv

-- ---- what the first answer tells

module _ (s bs : List ℕ) (l : length bs ≡ 65) (x : ℕ) (e : x ≡ start_call s bs) where
  pub refused-answer : x < 16777216 → (calls blocks d : List ℕ) → (x ≡ play_call s calls (length d)) × (d ≡ play_leaves s calls blocks d)
  unfolding start_call play_call play_leaves
  refused-answer h calls blocks d = let p = low-refused s bs l x e h in (rw p (rw p at e), rw p refl)

  module _ (h : 16777216 ≤ x) (calls blocks d : List ℕ) where
    pub no_room : length d / 69 < length calls / 10 → (y : ℕ) → y ≡ pack 0 10 0 → (y ≡ play_call s calls (length d)) × (d ≡ play_leaves s calls blocks d)
    unfolding play_call play_leaves roomy
    no_room r y q = let p = high-passes s bs l x e h in (rw (p, lt-leb (length calls / 10) (length d / 69) r) q, rw (p, lt-leb (length calls / 10) (length d / 69) r) refl)

    pub played : length calls / 10 ≤ length d / 69 → (f : List ℕ) → f ≡ sets d 0 (record_of s (bytes_of start) (list_in calls blocks)) → (x ≡ play_call s calls (length d)) × (f ≡ play_leaves s calls blocks d)
    unfolding play_call play_leaves roomy
    played r f q = let p = high-passes s bs l x e h in (rw (p, le-leb (length calls / 10) (length d / 69) r) (accepted-is s bs l x e h), rw (p, le-leb (length calls / 10) (length d / 69) r) q)
