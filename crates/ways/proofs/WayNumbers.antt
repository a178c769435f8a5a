-- The set of an accepted line has exactly the bookings whose numbers the line lists.
-- Assumes nothing.
use mathlib.Core.Path.{◌≡◌, ap, ◌∙◌}
use mathlib.Core.Logic.{inl, inr}
use mathlib.Core.Bool.{true}
use mathlib.Core.List.{List, [], ◌∷◌, ◌++◌, append_assoc}
use Prim.Native.Nat.{ℕ, zero, suc, ◌+◌, ◌*◌, ◌≤◌, ◌<◌}
use native.Mathlib.Nat.{not-suc-le-zero, le_of_suc-le-suc}
use native.Mathlib.Omega.{arith}
use lib.ListN.{length, get_or, take, drop}
use lib.Seq.{take_at, drop_at, drop-drop}
use borrow.Author.Tests.{eqb-true, eq-eqb}
use Rattle.bounded.specs.Bounded.{any, count}
use Rattle.bounded.proofs.Bools.{clash, split?, same_test}
use Rattle.bounded.proofs.Tests.{any-i, any-e}
use Rattle.bounded.proofs.Sums.{count-lt}
use Rattle.bounded.proofs.Lists.{listed-passes, listed_at}
use Rattle.sets.specs.Sets.{member, size_of}
use Rattle.sets.proofs.Members.{member-past}
use Rattle.decimal.specs.Decimal.{columns, number_at}
use Rattle.decimal.proofs.Laws.{columns-length}
use Rattle.decimal.proofs.Fields.{number-in}
use Rattle.ways.specs.WayText.{members, numbers_text, way_front_bytes, way_bytes, way_front}
use Rattle.ways.specs.Way.{count_in, number_is}
use Rattle.ways.proofs.TextLaws.{size-members, front_length}
use Rattle.ways.proofs.WayRoundTrip.{shape, WayIs}

-- field j of the numbers of a list
numbers-at : (bs rest : List ℕ) (j : ℕ) → j < length bs → take 4 (drop (4 * j) (numbers_text bs ++ rest)) ≡ columns 4 (get_or bs j 0 + 1)
unfolding numbers_text
numbers-at [] rest j h = absurd (not-suc-le-zero h)
numbers-at (b ∷ bs) rest zero h =
    let a : (columns 4 (b + 1) ++ numbers_text bs) ++ rest ≡ columns 4 (b + 1) ++ (numbers_text bs ++ rest) = append_assoc (columns 4 (b + 1)) (numbers_text bs) rest in
    rw a (take_at (columns 4 (b + 1)) (numbers_text bs ++ rest) 4 (columns-length 4 (b + 1)))
numbers-at (b ∷ bs) rest (suc j) h =
    let a : (columns 4 (b + 1) ++ numbers_text bs) ++ rest ≡ columns 4 (b + 1) ++ (numbers_text bs ++ rest) = append_assoc (columns 4 (b + 1)) (numbers_text bs) rest in
    let c : 4 * suc j ≡ 4 + 4 * j = omega arith in
    let d : drop 4 (columns 4 (b + 1) ++ (numbers_text bs ++ rest)) ≡ numbers_text bs ++ rest = drop_at (columns 4 (b + 1)) (numbers_text bs ++ rest) 4 (columns-length 4 (b + 1)) in
    rw (a, c, ← drop-drop (4 * j) 4 (columns 4 (b + 1) ++ (numbers_text bs ++ rest)), d) (numbers-at bs rest j (le_of_suc-le-suc h))

module _ (n k s : ℕ) (rest : List ℕ) (w : WayIs n k s rest) where
  count-length : k ≡ length (members s)
  count-length = w.counted ∙ size-members s

  member-small : (j : ℕ) → j < k → (get_or (members s) j 0 < 64) × (member s (get_or (members s) j 0) ≡ true)
  unfolding members
  member-small j h = let c : k ≡ length (members s) = count-length in listed-passes (member s) 64 j (omega arith)

  -- number j of the line is that of the member j
  pub way-numbers : (j : ℕ) → j < k → number_at 4 (way_front_bytes + 4 * j) rest ≡ get_or (members s) j 0 + 1
  way-numbers j h =
      let end : List ℕ = 10 ∷ drop (way_bytes k) rest in
      let e : rest ≡ way_front (size_of s) ++ (numbers_text (members s) ++ (10 ∷ drop (way_bytes k) rest)) = w.text ∙ shape s (drop (way_bytes k) rest) in
      let d : drop way_front_bytes rest ≡ numbers_text (members s) ++ (10 ∷ drop (way_bytes k) rest) =
      ap (drop way_front_bytes) e ∙ drop_at (way_front (size_of s)) (numbers_text (members s) ++ end) way_front_bytes (front_length (size_of s)) in
      let t : take 4 (drop (way_front_bytes + 4 * j) rest) ≡ columns 4 (get_or (members s) j 0 + 1) =
      rw (← drop-drop (4 * j) way_front_bytes rest, d) (numbers-at (members s) end j (rw (← count-length) h)) in
      number-in 4 (way_front_bytes + 4 * j) (get_or (members s) j 0 + 1) rest (omega (arith, (member-small j h).0)) t

  -- a booking is in the set where its number is one of the line's
  pub way-members : n ≤ 64 → (b : ℕ) → member s b ≡ any (number_is rest b) (count_in rest)
  unfolding number_is members size_of
  way-members l b =
      rw w.listed-count
      (same_test (member s b) (any (number_is rest b) k)
      (λ e.
      let h : b < 64 = elim (split? b 64) [ inl m ↦ m | inr m ↦ clash (member s b) e (member-past s n b w.small (omega arith)) ] in
      let j : count (member s) b < k = omega (arith, w.counted, count-lt (member s) 64 b h e) in
      any-i (number_is rest b) k (count (member s) b) j
      (eq-eqb _ (b + 1) (way-numbers (count (member s) b) j ∙ ap (λ (x : ℕ). x + 1) (listed_at (member s) 64 b h e))))
      (λ e.
      let f = any-e (number_is rest b) k e in
      let v : number_at 4 (way_front_bytes + 4 * f.0) rest ≡ b + 1 = eqb-true _ (b + 1) f.2 in
      let z : get_or (members s) f.0 0 ≡ b = omega (arith, way-numbers f.0 f.1) in
      rw z at (member-small f.0 f.1).1))
