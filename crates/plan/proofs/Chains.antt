-- What `all` over the first entries of one list, or of two, says of the test of each number.
-- Assumes nothing.
use Rattle.std.proofs.Common.{◌≡◌, refl, ap, ◌∙◌, ℕ, zero, suc, ◌+◌, ◌<◌, ◌≤◌, Bool, true, false, ◌&&◌, List, [], ◌∷◌, ◌++◌, length, get_or, take, arith}
use Rattle.std.specs.List.{list_all, zip}
use Rattle.std.proofs.lemmas.List.Folds.{list_all_more, list_all-append}
use Rattle.bounded.specs.Bounded.{all}

module _ (test : ℕ → Bool) (f : ℕ → Bool) (xs : List ℕ) (same : (i : ℕ) → test (get_or xs i 0) ≡ f i) where
  pub all-of : (n : ℕ) → n ≤ length xs → list_all test (take n xs) ≡ all f n
  unfolding all
  all-of zero h = refl
  all-of (suc n) h =
      let e : suc n ≡ n + 1 = omega arith in
      ap (λ (k : ℕ). list_all test (take k xs)) e ∙ list_all_more test xs n 0 (omega arith) ∙ rw (all-of n (omega arith), same n)

zip-more : (ks ds : List ℕ) (n : ℕ) → n < length ks → n < length ds
    → zip (take (suc n) ks) (take (suc n) ds) ≡ zip (take n ks) (take n ds) ++ ((get_or ks n 0, get_or ds n 0) ∷ [])
zip-more [] ds n h l = absurd (omega arith)
zip-more (k ∷ ks) [] n h l = absurd (omega arith)
zip-more (k ∷ ks) (d ∷ ds) zero h l = refl
zip-more (k ∷ ks) (d ∷ ds) (suc n) h l = ap (λ (ps : List (ℕ × ℕ)). (k, d) ∷ ps) (zip-more ks ds n (omega arith) (omega arith))

and-true : (b : Bool) → b && true ≡ b
and-true true = refl
and-true false = refl

module _ (test : ℕ × ℕ → Bool) (f : ℕ → Bool) (ks ds : List ℕ) (same : (i : ℕ) → test (get_or ks i 0, get_or ds i 0) ≡ f i) where
  pub all-of-both : (n : ℕ) → n ≤ length ks → n ≤ length ds → list_all test (zip (take n ks) (take n ds)) ≡ all f n
  unfolding all
  all-of-both zero h l = refl
  all-of-both (suc n) h l =
      ap (list_all test) (zip-more ks ds n (omega arith) (omega arith))
      ∙ list_all-append test (zip (take n ks) (take n ds)) _
      ∙ rw (all-of-both n (omega arith) (omega arith), and-true, same n)
