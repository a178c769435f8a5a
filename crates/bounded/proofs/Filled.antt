-- A list into which entries of another are read back, one after the other.
-- Assumes nothing.
use Prim.Native.Nat.{ℕ, zero, suc, ◌+◌, ◌<◌, ◌≤◌}
use mathlib.Core.Path.{◌≡◌, refl, sym, ◌∙◌}
use mathlib.Core.Logic.{inl, inr, ⊎_elim}
use mathlib.Core.List.{List}
use native.Mathlib.Omega.{arith}
use native.Mathlib.Nat.{eq-or-lt_of_le}
use lib.ListN.{length, get_or, set, replicate, length-set, length-replicate}
use lib.Seq.{get_or-set_same, get_or-set_other}
use Rattle.bounded.specs.Bounded.{table}
use Rattle.bounded.proofs.Bools.{split?}
use Rattle.bounded.proofs.Lists.{table_is, table_at, zeros-at}

-- acc with the entries i, i + 1, .. of xs, so many of them
unfoldable pub filled : ℕ → ℕ → List ℕ → List ℕ → List ℕ
filled zero i xs acc = acc
filled (suc n) i xs acc = filled n (i + 1) xs (set acc i (get_or xs i 0))

filled-before : (n i : ℕ) (xs acc : List ℕ) (j : ℕ) → j < i → get_or (filled n i xs acc) j 0 ≡ get_or acc j 0
unfolding filled
filled-before zero i xs acc j h = refl
filled-before (suc n) i xs acc j h = filled-before n (i + 1) xs (set acc i (get_or xs i 0)) j (omega arith) ∙ get_or-set_other acc i j _ 0 (λ e. omega arith)

-- the entries that were read back are those of xs
pub filled_at : (n i : ℕ) (xs acc : List ℕ) (j : ℕ) → i + n ≤ length acc → i ≤ j → j < i + n → get_or (filled n i xs acc) j 0 ≡ get_or xs j 0
unfolding filled
filled_at zero i xs acc j h l u = absurd (omega arith)
filled_at (suc n) i xs acc j h l u =
    ⊎_elim
    (λ (e : i ≡ j). rw (← e) (filled-before n (i + 1) xs (set acc i (get_or xs i 0)) i (omega arith) ∙ get_or-set_same acc i _ 0 (omega arith)))
    (λ (m : i < j). filled_at n (i + 1) xs (set acc i (get_or xs i 0)) j (rw length-set (omega arith)) (omega arith) (omega arith))
    (eq-or-lt_of_le l)

pub filled-past : (n i : ℕ) (xs acc : List ℕ) (j : ℕ) → i + n ≤ j → get_or (filled n i xs acc) j 0 ≡ get_or acc j 0
unfolding filled
filled-past zero i xs acc j h = refl
filled-past (suc n) i xs acc j h = filled-past n (i + 1) xs (set acc i (get_or xs i 0)) j (omega arith) ∙ get_or-set_other acc i j _ 0 (λ e. omega arith)

filled-length : (n i : ℕ) (xs acc : List ℕ) → length (filled n i xs acc) ≡ length acc
unfolding filled
filled-length zero i xs acc = refl
filled-length (suc n) i xs acc = filled-length n (i + 1) xs (set acc i (get_or xs i 0)) ∙ simp length-set

-- a table that has nothing past its first n entries is what these make of zeros
pub filled-same : (f : ℕ → ℕ) (n size : ℕ) → n ≤ size → ((i : ℕ) → n ≤ i → f i ≡ 0) → filled n 0 (table f size) (replicate size 0) ≡ table f size
filled-same f n size h z =
    let l : length (replicate {A = ℕ} size 0) ≡ size = length-replicate size 0 in
    table_is f size (filled n 0 (table f size) (replicate size 0)) (filled-length n 0 (table f size) (replicate size 0) ∙ l) (λ i k. elim (split? i n) [
      | inl m ↦ filled_at n 0 (table f size) (replicate size 0) i (omega arith) (omega arith) (omega arith) ∙ table_at f size i k
      | inr m ↦ filled-past n 0 (table f size) (replicate size 0) i (omega arith) ∙ zeros-at size i ∙ sym (z i m)
    ])
