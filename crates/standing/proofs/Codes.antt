-- The sets of the codes: one more booking looked at, and one booking with another code.
-- Assumes nothing.
use mathlib.Core.Path.{◌≡◌, refl, sym, ap, ◌∙◌}
use mathlib.Core.Logic.{◌≢◌, inl, inr}
use mathlib.Core.Bool.{Bool, true, false, not, ◌&&◌, cond}
use mathlib.Core.List.{List}
use Prim.Native.Nat.{ℕ, ◌+◌, ◌^◌, ◌≤◌, ◌<◌}
use native.Mathlib.Omega.{arith}
use lib.Dec.{eqb}
use lib.Pow.{pow-lt}
use lib.Bits.{bit_or, or_lt}
use lib.ListN.{length, get_or, set}
use lib.Seq.{get_or-set_same, get_or-set_other}
use borrow.Author.Tests.{eq-eqb, ne_eqb}
use Rattle.std.proofs.Common.{take, length-take}
use Rattle.std.proofs.lemmas.List.{get_or-take}
use Rattle.bounded.proofs.Bools.{which, same?, and-no-r, and-true, or_r, or-false}
use Rattle.sets.specs.Sets.{member, gather, without}
use Rattle.sets.proofs.Members.{member-or, member-power}
use Rattle.sets.proofs.Gather.{gather-lt, gather-is, gather-put, gather-skip, member-gather}
use Rattle.sets.proofs.Operations.{gather-next}
use Rattle.sets.proofs.Whole.{gather_ext, gather-without}
use Rattle.standing.specs.Standing.{free, requested, held, lost, returning, code_is, coded, placed, standing_of, moved}
use Rattle.standing.specs.declared.Standing.{Standing}

-- a set from which b is taken out
taken : (f g : ℕ → Bool) (n b : ℕ) → n ≤ 64 → g b ≡ false → ((i : ℕ) → i ≢ b → g i ≡ f i) → without (gather f n) (2 ^ b) ≡ gather g n
taken f g n b h here there =
    gather-without f n (2 ^ b) h
    ∙ gather_ext (λ i. f i && not (member (2 ^ b) i)) g n (λ i l. elim (same? i b) [
      | inl e ↦ rw (e, member-power b b, eq-eqb b b refl) (and-no-r (f b) false refl ∙ sym here)
      | inr d ↦ rw (member-power b i, ne_eqb i b d) (and-true (f i) ∙ sym (there i d))
    ])

-- a set into which b is put
given : (f g : ℕ → Bool) (n b : ℕ) → b < n → g b ≡ true → ((i : ℕ) → i ≢ b → g i ≡ f i) → bit_or (gather f n) (2 ^ b) ≡ gather g n
given f g n b h here there =
    gather-is g n (bit_or (gather f n) (2 ^ b)) (or_lt n (gather f n) (2 ^ b) (gather-lt f n) (pow-lt h))
    (λ i l. member-or (gather f n) (2 ^ b) i ∙ elim (same? i b) [
      | inl e ↦ rw (e, member-power b b, eq-eqb b b refl) (or_r (member (gather f n) b) true refl ∙ sym here)
      | inr d ↦ rw (member-power b i, ne_eqb i b d) (or-false (member (gather f n) i) ∙ member-gather f n i l ∙ sym (there i d))
    ])

-- ---- one set

module _ (codes : List ℕ) (c : ℕ) where
  -- with booking i, once those below it are in: s is the set, b booking i alone, t what the code made of them
  pub next-is : (i b s t : ℕ) → b ≡ 2 ^ i → s ≡ coded codes i c → t ≡ cond (eqb (get_or codes i 0) c) (bit_or s b) s → t ≡ coded codes (i + 1) c
  unfolding coded code_is
  next-is i b s t eb es et = gather-next (code_is codes c) i b s t eb es et

  -- after booking b got code v
  put_is : (n b v : ℕ) → n ≤ 64 → b < n → b < length codes → placed (eqb v c) (coded codes n c) (2 ^ b) ≡ coded (set codes b v) n c
  unfolding placed coded code_is
  put_is n b v h l k =
      let here : code_is (set codes b v) c b ≡ eqb v c = ap (λ (x : ℕ). eqb x c) (get_or-set_same codes b v 0 k) in
      let there : (i : ℕ) → i ≢ b → code_is (set codes b v) c i ≡ code_is codes c i = λ i d. ap (λ (x : ℕ). eqb x c) (get_or-set_other codes b i v 0 d) in
      elim (which (eqb v c)) [
        | inl e ↦ rw e (given (code_is codes c) (code_is (set codes b v) c) n b l (here ∙ e) there)
        | inr e ↦ rw e (taken (code_is codes c) (code_is (set codes b v) c) n b h (here ∙ e) there)
      ]

-- ---- all five

-- the first n codes alone say how the bookings below n stand
pub cut-is : (codes : List ℕ) (n c : ℕ) → n ≤ length codes → coded (take n codes) (length (take n codes)) c ≡ coded codes n c
unfolding coded code_is
cut-is codes n c h =
    let l : length (take n codes) ≡ n = omega (arith, length-take n codes) in
    rw l (gather_ext _ _ n (λ i k. ap (λ (x : ℕ). eqb x c) (get_or-take n codes i 0 k)))

pub standing-cut : (codes : List ℕ) (n : ℕ) → n ≤ length codes → standing_of (take n codes) (length (take n codes)) ≡ standing_of codes n
standing-cut codes n h = rw (cut-is codes n free h, cut-is codes n requested h, cut-is codes n held h, cut-is codes n lost h, cut-is codes n returning h)

-- what an order or a reply does to one booking
pub moved-is : (codes : List ℕ) (n b v : ℕ) (s : Standing) → n ≤ 64 → b < n → length codes ≡ 64 → s ≡ standing_of codes n
    → moved s (2 ^ b) v ≡ standing_of (set codes b v) n
moved-is codes n b v s h l k es =
    let m : b < length codes = omega arith in
    rw (es, put_is codes free n b v h l m, put_is codes requested n b v h l m, put_is codes held n b v h l m, put_is codes lost n b v h l m, put_is codes returning n b v h l m)
