-- What a desk has open: how it grows with the matters, and when it has room.
-- Assumes nothing.
use mathlib.Core.Path.{◌≡◌, refl, sym, ap, ◌∙◌}
use mathlib.Core.Logic.{◌≢◌, inl, inr}
use mathlib.Core.Bool.{Bool, true, false, ◌||◌, ◌&&◌, cond}
use mathlib.Core.List.{List}
use Prim.Native.Nat.{ℕ, zero, suc, ◌+◌, ◌^◌, ◌≤◌, ◌<◌}
use native.Mathlib.Omega.{arith}
use lib.Dec.{leb}
use lib.Bits.{bit_and, bit_or}
use native.Mathlib.Numerals.{add-one}
use lib.ListN.{get_or, length, take}
use Rattle.std.specs.List.{list_all}
use Rattle.std.proofs.lemmas.List.{take_all}
use Rattle.std.proofs.lemmas.List.Folds.{list_all_more}
use borrow.Author.Tests.{leb-true, le-leb, lt-leb}
use Rattle.bounded.specs.Bounded.{any, all}
use Rattle.bounded.proofs.Bools.{clash, off, split?, which, and_l, or-false, ◌&◌}
use Rattle.bounded.proofs.Tests.{all-e, all-i, any-i, any-o, any-suc}
use Rattle.bounded.proofs.Sums.{count_none, count-lacks, count-mono, count-but-one}
use Rattle.sets.specs.Sets.{member, size_of}
use Rattle.sets.proofs.Members.{member-or, member-zero}
use Rattle.sets.proofs.Facts.{both-e, both-i}
use Rattle.sets.proofs.Gather.{gather-is}
use Rattle.desks.specs.Desks.{open_at, is_full, full_for, desk_full, full_of, in_limit, all_in_limit}

module _ (ds : List ℕ) (d : ℕ) where
  -- more matters, more open
  pub open-mono : (m t : ℕ) → ((b : ℕ) → b < 64 → member (get_or ds d 0) b ≡ true → member m b ≡ true → member t b ≡ true) → open_at ds m d ≤ open_at ds t d
  unfolding open_at size_of
  open-mono m t h =
      count-mono (member (bit_and (get_or ds d 0) m)) (member (bit_and (get_or ds d 0) t)) 64
      (λ b l e. let p = both-e (get_or ds d 0) m b e in both-i (get_or ds d 0) t b p.0 (h b l p.0 p.1))

  -- one matter more, at most one more open
  pub open-one : (m t x : ℕ) → ((b : ℕ) → b ≢ x → member m b ≡ true → member t b ≡ true) → open_at ds m d ≤ open_at ds t d + 1
  unfolding open_at size_of
  open-one m t x h =
      count-but-one (member (bit_and (get_or ds d 0) m)) (member (bit_and (get_or ds d 0) t)) 64 x
      (λ b l n e. let p = both-e (get_or ds d 0) m b e in both-i (get_or ds d 0) t b p.0 (h b n p.1))

  -- no desk has more open than there are matters
  pub open-few : (m : ℕ) → open_at ds m d ≤ size_of m
  unfolding open_at size_of
  open-few m = count-mono (member (bit_and (get_or ds d 0) m)) (member m) 64 (λ b l e. (both-e (get_or ds d 0) m b e).1)

  -- nothing is open at a desk where nothing is at all
  pub open_none : (m : ℕ) → ((b : ℕ) → member m b ≡ false) → open_at ds m d ≡ 0
  unfolding open_at size_of
  open_none m h = count_none (member (bit_and (get_or ds d 0) m)) 64 (λ b l. off (member (bit_and (get_or ds d 0) m) b) (λ e. clash (member m b) (both-e (get_or ds d 0) m b e).1 (h b)))

module _ (limit : ℕ) (ds : List ℕ) (m : ℕ) where
  -- with fewer matters than the limit in all no desk is full
  pub none-full : size_of m < limit → (b : ℕ) → desk_full limit ds m b ≡ false
  unfolding desk_full full_for is_full
  none-full h b = any-o (full_for limit ds m b) 8 (λ d l e. clash (is_full limit ds m d) (and_l (is_full limit ds m d) _ e) (lt-leb limit (open_at ds m d) (omega (arith, open-few ds d m))))

  -- with nothing open no desk is full, since the limit is 1 or more
  pub nothing-open : 1 ≤ limit → ((b : ℕ) → member m b ≡ false) → (b : ℕ) → desk_full limit ds m b ≡ false
  unfolding size_of
  nothing-open h none = none-full (omega (arith, count_none (member m) 64 (λ b l. none b)))

  -- nor is one where each of 64 bookings may be open and one is not
  pub wide : 64 ≤ limit → (x : ℕ) → x < 64 → member m x ≡ false → (b : ℕ) → desk_full limit ds m b ≡ false
  unfolding size_of
  wide h x l e = none-full (omega (arith, count-lacks (member m) 64 x l e))

  -- a desk that is not full has room
  pub room : (b d : ℕ) → desk_full limit ds m b ≡ false → d < 8 → member (get_or ds d 0) b ≡ true → open_at ds m d < limit
  unfolding desk_full full_for is_full
  room b d e l h = elim (split? (open_at ds m d) limit) [
    | inl p ↦ p
    | inr p ↦ clash (any (full_for limit ds m b) 8) (any-i (full_for limit ds m b) 8 d l (le-leb limit (open_at ds m d) p & h)) e
  ]

  -- no desk is above the limit
  pub kept-e : all_in_limit limit ds m ≡ true → (d : ℕ) → d < 8 → open_at ds m d ≤ limit
  unfolding all_in_limit in_limit
  kept-e e d l = leb-true _ _ (all-e (in_limit limit ds m) 8 e d l)

  pub kept-i : ((d : ℕ) → d < 8 → open_at ds m d ≤ limit) → all_in_limit limit ds m ≡ true
  unfolding all_in_limit in_limit
  kept-i h = all-i (in_limit limit ds m) 8 (λ d l. le-leb _ _ (h d l))

-- ---- the loop over the desks

-- the bookings of the full ones among the first i
pub FullFar : ℕ → List ℕ → ℕ → ℕ → ℕ → Type 0
FullFar limit ds m r i = (b : ℕ) → member r b ≡ any (full_for limit ds m b) i

module _ (limit : ℕ) (ds : List ℕ) (m : ℕ) where
  pub far_none : FullFar limit ds m 0 0
  unfolding FullFar any
  far_none b = member-zero b

  pub far-more : (r t i : ℕ) → FullFar limit ds m r i → t ≡ cond (leb limit (size_of (bit_and (get_or ds i 0) m))) (bit_or r (get_or ds i 0)) r → FullFar limit ds m t (i + 1)
  unfolding FullFar full_for is_full open_at
  far-more r t i far e b =
      let q = leb limit (size_of (bit_and (get_or ds i 0) m)) in
      let more = any-suc (full_for limit ds m b) i in
      elim (which q) [
        | inl y ↦ rw (e, y) (member-or r (get_or ds i 0) b ∙ ap (λ (x : Bool). x || member (get_or ds i 0) b) (far b) ∙ sym (more ∙ rw y))
        | inr n ↦ rw (e, n) (far b ∙ sym (more ∙ rw n (or-false (any (full_for limit ds m b) i))))
      ]

  pub far-all : (r : ℕ) → r < 2 ^ 64 → FullFar limit ds m r 8 → r ≡ full_of limit ds m
  unfolding FullFar full_of desk_full
  far-all r h far = gather-is (desk_full limit ds m) 64 r h (λ b l. far b)

  pub far-few : size_of m < limit → 0 ≡ full_of limit ds m
  unfolding full_of
  far-few h = gather-is (desk_full limit ds m) 64 0 (omega arith) (λ b l. member-zero b ∙ sym (none-full limit ds m h b))

-- ---- whether all are in the limit

-- the first i elements of a list pass, by index
all-first : (p : ℕ → Bool) (xs : List ℕ) (i : ℕ) → i ≤ length xs → list_all p (take i xs) ≡ all (λ d. p (get_or xs d 0)) i
unfolding all
all-first p xs zero h = refl
all-first p xs (suc i) h =
    ap (λ (k : ℕ). list_all p (take k xs)) (sym (add-one i))
    ∙ list_all_more p xs i 0 (omega arith)
    ∙ ap (λ (b : Bool). b && p (get_or xs i 0)) (all-first p xs i (omega arith))

module _ (limit : ℕ) (ds : List ℕ) (m : ℕ) where
  pub few-kept : size_of m ≤ limit → true ≡ all_in_limit limit ds m
  few-kept h = sym (kept-i limit ds m (λ d l. omega (arith, open-few ds d m)))

  -- `all` over the eight desks of a list
  pub all-kept : length ds ≡ 8 → list_all (λ s. leb (size_of (bit_and s m)) limit) ds ≡ all_in_limit limit ds m
  unfolding all_in_limit in_limit open_at
  all-kept e = sym (ap (list_all (λ s. leb (size_of (bit_and s m)) limit)) (take_all 8 ds (omega arith))) ∙ all-first (λ s. leb (size_of (bit_and s m)) limit) ds 8 (omega arith)
