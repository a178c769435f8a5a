-- The laws of `listed` and `table`, of lists that rise, and of a list after its first.
-- Assumes nothing.
use mathlib.Core.Path.{◌≡◌, refl, sym, ap, ◌∙◌, ap₂}
use mathlib.Core.Logic.{inl, inr, ⊎_elim}
use mathlib.Core.Bool.{Bool, true, false, cond}
use mathlib.Core.List.{List, [], ◌∷◌, ◌++◌, append-nil}
use Prim.Native.Nat.{ℕ, zero, suc, ◌+◌, ◌≤◌, ◌<◌}
use native.Mathlib.Nat.{not-suc-le-zero, le_refl, eq-or-lt_of_le}
use native.Mathlib.Omega.{arith}
use native.Mathlib.Numerals.{add-one}
use lib.ListN.{length, get_or, set, length-append, get_or-append, replicate, length-replicate, get_or-replicate, get_or-eq_default, drop}
use lib.Seq.{get_or_at, ext_get_or, get_or-set_same, get_or-set_other}
use borrow.Author.Count.{below_more}
use Rattle.bounded.specs.Bounded.{count, listed, table}
use Rattle.bounded.proofs.Bools.{which, last?, split?}
use Rattle.bounded.proofs.Sums.{count-lt}

-- ---- the numbers that pass a test

module _ (f : ℕ → Bool) where
  pub listed-length : (n : ℕ) → length (listed f n) ≡ count f n
  unfolding listed count
  listed-length zero = refl
  listed-length (suc n) =
      length-append (listed f n) (cond (f n) (n ∷ []) [])
      ∙ ⊎_elim (λ (e : f n ≡ true). rw (e, listed-length n)) (λ (e : f n ≡ false). rw (e, listed-length n)) (which (f n))

  -- what is listed is below n and passes f
  pub listed-passes : (n j : ℕ) → j < length (listed f n) → (get_or (listed f n) j 0 < n) × (f (get_or (listed f n) j 0) ≡ true)
  unfolding listed
  listed-passes zero j h = absurd (not-suc-le-zero h)
  listed-passes (suc n) j h =
      ⊎_elim (λ (e : f n ≡ true).
      let h' : j < length (listed f n ++ (n ∷ [])) = rw e at h in
      rw e
      (⊎_elim (λ (l : j < length (listed f n)).
      let w = listed-passes n j l in rw (get_or-append (listed f n) (n ∷ []) 0 j l) (omega arith, w.1))
      (λ (l : length (listed f n) ≤ j).
      let q : length (listed f n) ≡ j = omega (arith, length-append (listed f n) (n ∷ [])) in
      rw (get_or_at (listed f n) n [] 0 j q) (omega arith, e)) (split? j (length (listed f n)))))
      (λ (e : f n ≡ false).
      let h' : j < length (listed f n ++ []) = rw e at h in
      let w = listed-passes n j (rw append-nil at h') in rw (e, append-nil) (omega arith, w.1)) (which (f n))

  -- k stands at the place that counts the members below it
  pub listed_at : (n k : ℕ) → k < n → f k ≡ true → get_or (listed f n) (count f k) 0 ≡ k
  unfolding listed
  listed_at zero k h e = absurd (not-suc-le-zero h)
  listed_at (suc n) k h e =
      ⊎_elim (λ (q : k ≡ n). let e' : f n ≡ true = rw q at e in rw (q, e') (get_or_at (listed f n) n [] 0 (count f n) (listed-length n)))
      (λ (l : k < n).
      get_or-append (listed f n) (cond (f n) (n ∷ []) []) 0 (count f k) (omega (arith, count-lt f n k l e, listed-length n)) ∙ listed_at n k l e) (last? h)

-- below a larger bound, past which nothing passes
pub listed-past : (f : ℕ → Bool) (n m : ℕ) → n ≤ m → ((i : ℕ) → n ≤ i → f i ≡ false) → listed f m ≡ listed f n
unfolding listed
listed-past f n zero k h = let e : n ≡ 0 = omega arith in rw e
listed-past f n (suc m) k h = elim (eq-or-lt_of_le k) [
  | inl e ↦ rw e
  | inr l ↦ rw (h m (omega arith), append-nil (listed f m)) (listed-past f n m (omega arith) h)
]

pub listed-ext : (f g : ℕ → Bool) (n : ℕ) → ((i : ℕ) → i < n → f i ≡ g i) → listed f n ≡ listed g n
unfolding listed
listed-ext f g zero h = refl
listed-ext f g (suc n) h =
    ap₂ (λ (l : List ℕ) (b : Bool). l ++ cond b (n ∷ []) []) (listed-ext f g n (λ i l. h i (omega arith))) (h n (le_refl (suc n)))

-- ---- lists that rise strictly

-- the numbers of a list rise strictly, the first is at least l, all are below n
pub data Rising (n : ℕ) : ℕ → List ℕ → Type 0 where
  none : {l : ℕ} → Rising n l []
  more : {l b : ℕ} {bs : List ℕ} → l ≤ b → b < n → Rising n (b + 1) bs → Rising n l (b ∷ bs)

rising-wider : (n l : ℕ) (bs : List ℕ) → Rising n l bs → Rising (suc n) l bs
rising-wider n l [] none = none
rising-wider n l (b ∷ bs) (more p q r) = more p (omega arith) (rising-wider n (b + 1) bs r)

rising-last : (n l : ℕ) (bs : List ℕ) → Rising n l bs → l ≤ n → Rising (suc n) l (bs ++ (n ∷ []))
rising-last n l [] none h = more h (le_refl (suc n)) none
rising-last n l (b ∷ bs) (more p q r) h = more p (omega arith) (rising-last n (b + 1) bs r (omega arith))

pub listed-rises : (f : ℕ → Bool) (n : ℕ) → Rising n 0 (listed f n)
unfolding listed
listed-rises f zero = none
listed-rises f (suc n) = elim (which (f n)) [
  | inl e ↦ rw e (rising-last n 0 (listed f n) (listed-rises f n) (omega arith))
  | inr e ↦ rw (e, append-nil (listed f n)) (rising-wider n 0 (listed f n) (listed-rises f n))
]

-- ---- tables

module _ (f : ℕ → ℕ) where
  pub table-length : (n : ℕ) → length (table f n) ≡ n
  unfolding table
  table-length zero = refl
  table-length (suc n) = length-append (table f n) (f n ∷ []) ∙ omega (arith, table-length n)

  pub table_at : (n i : ℕ) → i < n → get_or (table f n) i 0 ≡ f i
  unfolding table
  table_at zero i h = absurd (not-suc-le-zero h)
  table_at (suc n) i h =
      ⊎_elim (λ (q : i ≡ n). rw q (get_or_at (table f n) (f n) [] 0 n (table-length n)))
      (λ (l : i < n). get_or-append (table f n) (f n ∷ []) 0 i (rw (table-length n) l) ∙ table_at n i l) (last? h)

  -- a turn of a loop that fills a list from the front
  pub table-put : (l : List ℕ) (v x : ℕ) → v < length l → x ≡ f v → ((i : ℕ) → i < v → get_or l i 0 ≡ f i)
      → (i : ℕ) → i < v + 1 → get_or (set l v x) i 0 ≡ f i
  table-put l v x h e done =
      below_more (λ (i : ℕ). get_or (set l v x) i 0 ≡ f i) v
      (λ i k. get_or-set_other l v i x 0 (λ q. omega arith) ∙ done i k) (get_or-set_same l v x 0 h ∙ e)

  -- a list of n numbers that is f everywhere
  pub table_is : (n : ℕ) (l : List ℕ) → length l ≡ n → ((i : ℕ) → i < n → get_or l i 0 ≡ f i) → l ≡ table f n
  table_is n l e h =
      ext_get_or 0 l (table f n) (e ∙ sym (table-length n)) (λ i k. let k' : i < n = rw e at k in h i k' ∙ sym (table_at n i k'))

-- two tables with the same entries
pub table_same : (f g : ℕ → ℕ) (n : ℕ) → ((i : ℕ) → i < n → f i ≡ g i) → table f n ≡ table g n
table_same f g n e = table_is g n (table f n) (table-length f n) (λ i h. table_at f n i h ∙ e i h)

pub table-past : (f : ℕ → ℕ) (n i : ℕ) → n ≤ i → get_or (table f n) i 0 ≡ 0
table-past f n i h = get_or-eq_default (table f n) 0 (rw (table-length f n) h)

-- a list of zeros reads as 0 everywhere
pub zeros-at : (n j : ℕ) → ◌≡◌ {A = ℕ} (get_or (replicate n 0) j 0) 0
zeros-at n j = elim (split? j n) [ inl l ↦ get_or-replicate n j 0 0 l | inr l ↦ get_or-eq_default (replicate n 0) 0 (omega (arith, length-replicate {A = ℕ} n 0)) ]

-- ---- a list after its first

-- entry k of what comes after the first
unfoldable pub tail_at : List ℕ → ℕ → ℕ
tail_at s k = get_or s (k + 1) 0

pub tail-is : (n : ℕ) (s ys : List ℕ) → length s ≡ n + 1 → length ys ≡ n → ((k : ℕ) → k < n → get_or ys k 0 ≡ tail_at s k) → ys ≡ drop 1 s
unfolding tail_at
tail-is n [] ys ls ly h = absurd (omega arith)
tail-is n (x ∷ xs) ys ls ly h =
    ext_get_or 0 ys xs (omega arith) (λ k j. h k (omega arith) ∙ ap (λ (m : ℕ). get_or (x ∷ xs) m 0) (add-one k))

-- a turn of a loop that fills a list from place 1 on
pub tail-put : (s ys : List ℕ) (i : ℕ) → i + 1 < length s → ((k : ℕ) → k < i → get_or s (k + 1) 0 ≡ get_or ys k 0)
    → (k : ℕ) → k < i + 1 → get_or (set s (i + 1) (get_or ys i 0)) (k + 1) 0 ≡ get_or ys k 0
tail-put s ys i h done =
    below_more (λ (k : ℕ). get_or (set s (i + 1) (get_or ys i 0)) (k + 1) 0 ≡ get_or ys k 0) i
    (λ k j. get_or-set_other s (i + 1) (k + 1) (get_or ys i 0) 0 (λ q. omega arith) ∙ done k j) (get_or-set_same s (i + 1) (get_or ys i 0) 0 h)

pub cons-is : (n y : ℕ) (ys s : List ℕ) → length ys ≡ n → length s ≡ n + 1 → get_or s 0 0 ≡ y
    → ((k : ℕ) → k < n → get_or s (k + 1) 0 ≡ get_or ys k 0) → s ≡ y ∷ ys
cons-is n y ys [] ly ls h0 h = absurd (omega arith)
cons-is n y ys (x ∷ xs) ly ls h0 h =
    ap₂ (λ (a : ℕ) (b : List ℕ). a ∷ b) h0
    (ext_get_or 0 xs ys (omega arith) (λ k j. sym (ap (λ (m : ℕ). get_or (x ∷ xs) m 0) (add-one k)) ∙ h k (omega arith)))
