-- Numbers put into a set one after the other.
-- Assumes nothing.
use mathlib.Core.Path.{◌≡◌, refl, sym, ap, ◌∙◌}
use mathlib.Core.Logic.{inl, inr}
use mathlib.Core.Bool.{Bool}
use mathlib.Core.List.{List, [], ◌∷◌, ◌++◌, append-nil}
use Prim.Native.Nat.{ℕ, zero, suc, ◌+◌, ◌^◌, ◌≤◌, ◌<◌}
use native.Mathlib.Nat.{le_refl}
use native.Mathlib.Numerals.{add-one}
use native.Mathlib.Omega.{arith}
use lib.Pow.{pow-lt}
use lib.Bits.{or_lt}
use Rattle.bounded.specs.Bounded.{listed}
use Rattle.bounded.proofs.Bools.{which}
use Rattle.bounded.proofs.Lists.{Rising, none, more}
use Rattle.sets.specs.Sets.{gather, insert}
use Rattle.sets.proofs.Members.{fits_more}
use Rattle.sets.proofs.Gather.{gather-zero, gather-put, gather-skip}
use Rattle.sets.proofs.Operations.{put-bit}
use Rattle.sets.proofs.Whole.{gather-fits}

-- the set s with the numbers of a list put in
unfoldable pub insert_all : ℕ → List ℕ → ℕ
insert_all s [] = s
insert_all s (b ∷ bs) = insert_all (insert s b) bs

insert-last : (s b : ℕ) (bs : List ℕ) → insert_all s (bs ++ (b ∷ [])) ≡ insert (insert_all s bs) b
unfolding insert_all
insert-last s b [] = refl
insert-last s b (c ∷ bs) = insert-last (insert s c) b bs

pub insert-listed : (f : ℕ → Bool) (n : ℕ) → n ≤ 64 → insert_all 0 (listed f n) ≡ gather f n
unfolding listed insert_all
insert-listed f zero h = sym (gather-zero f)
insert-listed f (suc n) h = elim (which (f n)) [
  | inl e ↦
      rw (e, insert-last 0 n (listed f n), insert-listed f n (omega arith))
      (sym (put-bit (gather f n) n h (gather-fits f n (omega arith))) ∙ gather-put f n e ∙ ap (gather f) (add-one n))
  | inr e ↦ rw (e, append-nil (listed f n), insert-listed f n (omega arith)) (gather-skip f n e ∙ ap (gather f) (add-one n))
]

pub insert-lt : (s b : ℕ) → b < 64 → s < 2 ^ b → insert s b < 2 ^ (b + 1)
insert-lt s b h l =
    let w : s < 2 ^ 64 = fits_more s b 64 l (omega arith) in
    let e : 2 ^ (b + 1) ≡ 2 ^ suc b = ap (λ (k : ℕ). 2 ^ k) (add-one b) in
    rw (e, ← put-bit s b h w) (or_lt (suc b) s (2 ^ b) (fits_more s b (suc b) l (omega arith)) (pow-lt {i = b} {j = suc b} (le_refl (suc b))))

pub insert-all-lt : (n : ℕ) → n ≤ 64 → (l s : ℕ) (bs : List ℕ) → Rising n l bs → l ≤ n → s < 2 ^ l → insert_all s bs < 2 ^ n
unfolding insert_all
insert-all-lt n h l s [] none m k = fits_more s l n k m
insert-all-lt n h l s (b ∷ bs) (more p q r) m k =
    insert-all-lt n h (b + 1) (insert s b) bs r (omega arith) (insert-lt s b (omega arith) (fits_more s l b k p))
