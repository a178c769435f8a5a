-- Texts of one width in a row: how long they are together, where each stands, that a text made up of them is their row, and that a loop may
-- write them one after the other.
-- Assumes nothing.
use Prim.Native.Nat.{ℕ, zero, suc, ◌+◌, ◌*◌, ◌<◌}
use mathlib.Core.Path.{◌≡◌, refl, sym, ap, ap₂}
use mathlib.Core.Logic.{inl, inr}
use mathlib.Core.List.{List, ◌++◌, append_assoc}
use native.Mathlib.Nat.{mul-zero, mul-suc}
use native.Mathlib.Omega.{arith}
use native.Mathlib.Numerals.{add-one}
use lib.ListN.{length, take, drop, length-append}
use lib.Seq.{sets, take_at, drop_at, drop-drop, take-add}
use Rattle.bounded.proofs.Bools.{last?}
use Rattle.decimal.specs.Rows.{in_row}
use Rattle.decimal.proofs.Stores.{sets-next}

-- equal texts give equal rows
pub row-ext : (f g : ℕ → List ℕ) (n : ℕ) → ((i : ℕ) → i < n → f i ≡ g i) → in_row f n ≡ in_row g n
unfolding in_row
row-ext f g zero h = refl
row-ext f g (suc n) h = ap₂ (λ (a b : List ℕ). a ++ b) (row-ext f g n (λ i l. h i (omega arith))) (h n (omega arith))

module _ (w : ℕ) (f : ℕ → List ℕ) where
  -- a text that is, w bytes by w bytes, the texts of a row begins with that row
  pub row_is : (s : List ℕ) (n : ℕ) → ((i : ℕ) → i < n → take w (drop (w * i) s) ≡ f i) → in_row f n ≡ take (w * n) s
  unfolding in_row
  row_is s zero h = rw mul-zero
  row_is s (suc n) h =
      let m : w * suc n ≡ w * n + w = omega (arith, mul-suc w n) in
      rw (m, take-add (w * n) w s, h n (omega arith), row_is s n (λ i l. h i (omega arith)))

  -- the first n texts have w bytes each
  abbrev pub Wide : ℕ → Type 0
  Wide n = (i : ℕ) → i < n → length (f i) ≡ w

  pub row-length : (n : ℕ) → Wide n → length (in_row f n) ≡ w * n
  unfolding in_row
  row-length zero h = rw mul-zero
  row-length (suc n) h =
      omega (arith, length-append (in_row f n) (f n), row-length n (λ i l. h i (omega arith)), h n (omega arith), mul-suc w n)

  -- what stands m bytes behind a row
  pub row-past : (n m : ℕ) (rest : List ℕ) → Wide n → drop (w * n + m) (in_row f n ++ rest) ≡ drop m rest
  row-past n m rest h =
      let d : drop (w * n) (in_row f n ++ rest) ≡ rest = drop_at (in_row f n) rest (w * n) (row-length n h) in
      rw (← drop-drop m (w * n) (in_row f n ++ rest), d)

  -- text k of a row
  pub row_at : (n k : ℕ) (rest : List ℕ) → Wide n → k < n → take w (drop (w * k) (in_row f n ++ rest)) ≡ f k
  unfolding in_row
  row_at zero k rest h l = absurd (omega arith)
  row_at (suc n) k rest h l =
      let below : Wide n = λ i l. h i (omega arith) in
      rw (append_assoc (in_row f n) (f n) rest) (elim (last? l) [
        | inl e ↦ rw (e, drop_at (in_row f n) (f n ++ rest) (w * n) (row-length n below)) (take_at (f n) rest w (h n (omega arith)))
        | inr b ↦ row_at n k (f n ++ rest) below b
      ])

  -- a turn of a loop that writes a row from p on: text i, as it is written, follows those before it
  pub row_on : (p i : ℕ) (d b c t : List ℕ) → Wide i → t ≡ f i → b ≡ sets d p (in_row f i) → c ≡ sets b (p + w * i) t → c ≡ sets d p (in_row f (i + 1))
  unfolding in_row
  row_on p i d b c t h o e g =
      rw (add-one i, ← o) (sets-next d b c p (p + w * i) (in_row f i) t (ap (λ (k : ℕ). p + k) (sym (row-length i h))) e g)
