-- A text of m bytes and a lent buffer d: with room and without, and that what an accepted answer counts is the text.
-- Assumes nothing.
use Prim.Native.Nat.{ℕ, ◌≤◌, ◌<◌}
use mathlib.Core.Path.{◌≡◌, refl}
use mathlib.Core.Logic.{inl, inr}
use mathlib.Core.Bool.{true, false}
use mathlib.Core.List.{List}
use native.Mathlib.Omega.{arith}
use lib.Dec.{leb}
use lib.ListN.{length, take}
use lib.Seq.{sets, sets-eq, take_at}
use borrow.Author.Tests.{le-leb, lt-leb}
use Rattle.bounded.proofs.Bools.{split?}
use Rattle.guarantee.specs.Answers.{pack, kind_of, place_of}
use Rattle.lent_text.specs.Room.{room_bits, room_leaves}

module _ (text d : List ℕ) where
  -- an answer, and what is left
  abbrev pub Ends : ℕ → List ℕ → Type 0
  Ends x after = (x ≡ room_bits text (length d)) × (after ≡ room_leaves text d)

  module _ (m : ℕ) (em : length text ≡ m) where
    pub no_room : length d < m → (x : ℕ) → x ≡ pack 0 10 0 → Ends x d
    unfolding room_bits room_leaves
    no_room l x q =
        let t : leb (length text) (length d) ≡ false = lt-leb (length text) (length d) (omega arith) in
        (rw t q, rw t)

    pub room : m ≤ length d → (x : ℕ) → x ≡ pack 6 0 m → (after : List ℕ) → after ≡ sets d 0 text → Ends x after
    unfolding room_bits room_leaves
    room l x q after w =
        let t : leb (length text) (length d) ≡ true = le-leb (length text) (length d) (omega arith) in
        (rw (t, em) q, rw t w)

  -- ---- as many bytes as the answer's place says, from the front, are the text

  module _ (k : kind_of (room_bits text (length d)) ≡ 6) (small : length text < 65536) where
    has_room : length text ≤ length d
    unfolding kind_of pack
    has_room = elim (split? (length d) (length text)) [
      | inl l ↦ (let e = (no_room (length text) refl l (pack 0 10 0) refl).0 in absurd (omega arith))
      | inr l ↦ l
    ]

    pub shown : take (place_of (room_bits text (length d))) (room_leaves text d) ≡ text
    unfolding place_of pack
    shown =
        let e = room (length text) refl has_room _ refl _ refl in
        let p : place_of (room_bits text (length d)) ≡ length text = omega (arith, e.0) in
        rw (p, ← e.1, sets-eq text d 0 (omega (arith, has_room))) (take_at text _ _ refl)
