-- The members of a set: the lowest stands first. Put in one after the other they give the set back; of a rising list, the members of its set are
-- the list.
-- Assumes nothing.
use mathlib.Core.Path.{◌≡◌, refl, sym, ap, ◌∙◌}
use mathlib.Core.Logic.{◌≢◌, inl, inr}
use mathlib.Core.Bool.{Bool, true, false, not, ◌&&◌}
use mathlib.Core.List.{List, [], ◌∷◌, ◌++◌, append-nil, append_assoc}
use Prim.Native.Nat.{ℕ, zero, suc, ◌+◌, ◌^◌, ◌≤◌, ◌<◌}
use native.Mathlib.Nat.{le_refl}
use native.Mathlib.Numerals.{add-one}
use native.Mathlib.Omega.{arith}
use lib.Dec.{eqb}
use borrow.Author.Tests.{eq-eqb, ne_eqb}
use Rattle.bounded.specs.Bounded.{listed, first}
use Rattle.bounded.proofs.Bools.{last?, or_r, or-false, and-true, and-no-l, and-no-r}
use Rattle.bounded.proofs.First.{first-least}
use Rattle.bounded.proofs.Lists.{listed-past, listed-ext, Rising, none, more}
use Rattle.sets.specs.Sets.{member, insert, but_lowest}
use Rattle.sets.proofs.Members.{member-past, fits_more}
use Rattle.sets.proofs.Gather.{gather-member}
use Rattle.sets.proofs.Operations.{member-insert}
use Rattle.sets.proofs.Insert.{insert_all, insert-listed, insert-lt}
use Rattle.sets.proofs.Walk.{lowest-lt, lowest-in, but-lowest-at}
use Rattle.ways.specs.WayText.{members}

-- the members of a set of the first n bookings
pub members-below : (n s : ℕ) → n ≤ 64 → s < 2 ^ n → members s ≡ listed (member s) n
unfolding members
members-below n s h l = listed-past (member s) n 64 h (λ i m. member-past s n i l m)

-- ---- the lowest member, and then the others

no-listed : (f : ℕ → Bool) (n : ℕ) → ((i : ℕ) → i < n → f i ≡ false) → listed f n ≡ []
unfolding listed
no-listed f zero h = refl
no-listed f (suc n) h = rw (no-listed f n (λ i l. h i (omega arith)), h n (omega arith))

lowest-first : (f g : ℕ → Bool) (n v : ℕ) → v < n → f v ≡ true → ((i : ℕ) → i < v → f i ≡ false) → ((i : ℕ) → i < n → g i ≡ f i && not (eqb i v))
    → listed f n ≡ v ∷ listed g n
unfolding listed
lowest-first f g zero v h e b w = absurd (omega arith)
lowest-first f g (suc n) v h e b w = elim (last? h) [
  | inl p ↦
      let fe : f n ≡ true = rw p at e in
      let ge : g n ≡ false = w n (omega arith) ∙ rw (eq-eqb n v (sym p)) (and-no-r (f n) false refl) in
      let none : listed f n ≡ [] = no-listed f n (λ i k. b i (omega arith)) in
      let also : listed g n ≡ [] = no-listed g n (λ i k. w i (omega arith) ∙ and-no-l (f i) (not (eqb i v)) (b i (omega arith))) in
      rw (none, also, fe, ge, p)
  | inr l ↦
      let same : g n ≡ f n = w n (omega arith) ∙ rw (ne_eqb n v (λ z. omega arith)) (and-true (f n)) in
      rw (lowest-first f g n v l e b (λ i k. w i (omega arith)), same)
]

pub members-lowest : (s : ℕ) → s < 2 ^ 64 → s ≢ 0 → members s ≡ first (member s) 64 ∷ members (but_lowest s)
unfolding members
members-lowest s h d =
    lowest-first (member s) (member (but_lowest s)) 64 (first (member s) 64) (lowest-lt s h d) (lowest-in s h d) (first-least (member s) 64).before (but-lowest-at s)

-- ---- a set from its members

pub insert-members : (s : ℕ) → s < 2 ^ 64 → insert_all 0 (members s) ≡ s
unfolding members
insert-members s h = insert-listed (member s) 64 (le_refl 64) ∙ gather-member 64 s h

-- ---- the members of what a rising list puts in

-- one booking above all that are in
members-insert : (s b : ℕ) → b < 64 → s < 2 ^ b → members (insert s b) ≡ members s ++ (b ∷ [])
unfolding listed
members-insert s b h l =
    let in' : member (insert s b) b ≡ true = member-insert s b b h ∙ or_r (member s b) (eqb b b) (eq-eqb b b refl) in
    let same : listed (member (insert s b)) b ≡ listed (member s) b =
    listed-ext (member (insert s b)) (member s) b (λ i k. member-insert s b i (omega arith) ∙ rw (ne_eqb i b (λ z. omega arith)) (or-false (member s i))) in
    let w : insert s b < 2 ^ suc b = rw add-one at (insert-lt s b h l) in
    members-below (suc b) (insert s b) h w ∙ rw (in', same, members-below b s (omega arith) l)

module _ (n : ℕ) (h : n ≤ 64) where
  pub members-insert-all : (l s : ℕ) (bs : List ℕ) → Rising n l bs → s < 2 ^ l → members (insert_all s bs) ≡ members s ++ bs
  unfolding insert_all
  members-insert-all l s [] none k = sym (append-nil (members s))
  members-insert-all l s (b ∷ bs) (more p q r) k =
      let w : s < 2 ^ b = fits_more s l b k p in
      members-insert-all (b + 1) (insert s b) bs r (insert-lt s b (omega arith) w)
      ∙ ap (λ (t : List ℕ). t ++ bs) (members-insert s b (omega arith) w)
      ∙ append_assoc (members s) (b ∷ []) bs

-- no booking
pub members-zero : members 0 ≡ []
unfolding listed
members-zero = members-below 0 0 (omega arith) (omega arith)
