-- The step through four bookings at once, and the loop over these steps.
-- Assumes nothing.
use mathlib.Core.Path.{◌≡◌, refl, sym, ap, ap₂, ◌∙◌}
use mathlib.Core.Logic.{inl, inr}
use mathlib.Core.List.{List}
use Prim.Native.Nat.{ℕ, zero, suc, ◌+◌, ◌≤◌, ◌<◌}
use native.Mathlib.Nat.{eq-or-lt_of_le}
use native.Mathlib.Omega.{arith}
use lib.Bits.{bit_or, or_add_and, and_le_l, and_le_r}
use lib.ListN.{length, get_or, set, replicate}
use lib.Seq.{ext_get_or, get_or-set_other}
use Rattle.bounded.specs.Bounded.{table}
use Rattle.bounded.proofs.Bools.{split?}
use Rattle.bounded.proofs.Lists.{table_at, table-past, zeros-at}
use Rattle.sets.proofs.Members.{member-zero}
use Rattle.precedence.specs.Precedence.{joined_of, joined_four, through_at, through_of, four_of, closure_to, EmptyFrom}
use Rattle.precedence.proofs.Steps.{joined-no, through-none, through-length}

-- ---- the sets from n on stay empty

-- for sets that come as a table
pub empty-table : (f : ℕ → ℕ) (n : ℕ) → ((v : ℕ) → n ≤ v → v < 64 → f v ≡ 0) → EmptyFrom n (table f 64)
unfolding EmptyFrom
empty-table f n h v l = elim (split? v 64) [ inl k ↦ table_at f 64 v k ∙ h v l k | inr k ↦ table-past f 64 v k ]

pub through_empty : (n : ℕ) (p : List ℕ) (k : ℕ) → EmptyFrom n p → EmptyFrom n (through_of p k)
unfolding through_of through_at EmptyFrom
through_empty n p k e =
    empty-table (through_at p k) n (λ v l h. ap (λ (s : ℕ). joined_of s (get_or p k 0) k) (e v l) ∙ sym (joined-no 0 (get_or p k 0) k (member-zero k)))

four-empty : (n : ℕ) (p : List ℕ) (k : ℕ) → EmptyFrom n p → EmptyFrom n (four_of p k)
unfolding four_of
four-empty n p k e = through_empty n _ (k + 3) (through_empty n _ (k + 2) (through_empty n _ (k + 1) (through_empty n p k e)))

-- a loop that fills the sets from the front: before it, and one turn
pub none_yet : EmptyFrom 0 (replicate 64 0)
unfolding EmptyFrom
none_yet v l = zeros-at 64 v

pub empty-put : (r : List ℕ) (v x : ℕ) → EmptyFrom v r → EmptyFrom (v + 1) (set r v x)
unfolding EmptyFrom
empty-put r v x e i l = get_or-set_other r v i x 0 (λ q. omega arith) ∙ e i (omega arith)

-- ---- a set after four steps

-- the 64 sets of p are those of f
Reads : List ℕ → (ℕ → ℕ) → Type 0
Reads p f = (v : ℕ) → v < 64 → get_or p v 0 ≡ f v

through-reads : (p : List ℕ) (f : ℕ → ℕ) (k : ℕ) → k < 64 → Reads p f → Reads (through_of p k) (λ v. joined_of (f v) (f k) k)
unfolding Reads through_of through_at
through-reads p f k h r v l = table_at (through_at p k) 64 v l ∙ ap₂ (λ (s via : ℕ). joined_of s via k) (r v l) (r k h)

-- set v as code computes it: a, b, c and d are the four sets as each step finds them
pub four-at : (p : List ℕ) (k v : ℕ) {b x c y z d s : ℕ} → k + 4 ≤ 64 → v < 64 →
    let a = get_or p k 0 in
    b ≡ joined_of (get_or p (k + 1) 0) a k
    → x ≡ joined_of (get_or p (k + 2) 0) a k → c ≡ joined_of x b (k + 1)
    → y ≡ joined_of (get_or p (k + 3) 0) a k → z ≡ joined_of y b (k + 1) → d ≡ joined_of z c (k + 2)
    → s ≡ joined_four (get_or p v 0) a b c d k → s ≡ get_or (four_of p k) v 0
unfolding Reads four_of joined_four
four-at p k v h l eb ex ec ey ez ed es =
    rw (es, ed, ez, ey, ec, ex, eb)
    (sym
    (through-reads _ _ (k + 3) (omega arith)
    (through-reads _ _ (k + 2) (omega arith)
    (through-reads _ _ (k + 1) (omega arith)
    (through-reads p (λ i. get_or p i 0) k (omega arith) (λ i j. refl)))) v l))

pub four-length : (p : List ℕ) (k : ℕ) → length (four_of p k) ≡ 64
unfolding four_of
four-length p k = through-length _ (k + 3)

-- the first n sets are computed and the others left empty: these are the four steps
pub four_is : (n : ℕ) (p r : List ℕ) (k : ℕ) → EmptyFrom n p → length r ≡ 64
    → ((i : ℕ) → i < n → get_or r i 0 ≡ get_or (four_of p k) i 0) → EmptyFrom n r → r ≡ four_of p k
unfolding EmptyFrom
four_is n p r k e l h z =
    ext_get_or 0 r (four_of p k) (l ∙ sym (four-length p k))
    (λ i j. elim (split? i n) [ inl m ↦ h i m | inr m ↦ z i m ∙ sym (four-empty n p k e i m) ])

-- ---- the loop over the steps

-- a turn of the loop keeps `p ≡ closure_to d k`
closure-step : (d p : List ℕ) (k m : ℕ) → m ≡ k + 1 → p ≡ closure_to d k → through_of p k ≡ closure_to d m
unfolding closure_to
closure-step d p k m h e = let s : m ≡ suc k = omega arith in rw (s, e)

pub closure-four : (d p : List ℕ) (k m : ℕ) → m ≡ k + 4 → p ≡ closure_to d k → four_of p k ≡ closure_to d m
unfolding four_of
closure-four d p k m h e =
    closure-step d _ (k + 3) m (omega arith)
    (closure-step d _ (k + 2) (k + 3) (omega arith) (closure-step d _ (k + 1) (k + 2) (omega arith) (closure-step d p k (k + 1) refl e)))

or-none : (a b : ℕ) → bit_or a b ≡ 0 → (a ≡ 0) × (b ≡ 0)
or-none a b e = (omega (arith, or_add_and a b, and_le_r a b), omega (arith, or_add_and a b, and_le_l a b))

-- a turn without steps, where nothing comes before the four
pub four-none : (p : List ℕ) (k : ℕ) → length p ≡ 64
    → bit_or (bit_or (bit_or (get_or p k 0) (get_or p (k + 1) 0)) (get_or p (k + 2) 0)) (get_or p (k + 3) 0) ≡ 0 → p ≡ four_of p k
unfolding four_of
four-none p k l z =
    let d = or-none (bit_or (bit_or (get_or p k 0) (get_or p (k + 1) 0)) (get_or p (k + 2) 0)) (get_or p (k + 3) 0) z in
    let c = or-none (bit_or (get_or p k 0) (get_or p (k + 1) 0)) (get_or p (k + 2) 0) d.0 in
    let b = or-none (get_or p k 0) (get_or p (k + 1) 0) c.0 in
    rw (← through-none p k l b.0, ← through-none p (k + 1) l b.1, ← through-none p (k + 2) l c.1) (through-none p (k + 3) l d.1)

closure-length : (d : List ℕ) (k : ℕ) → length d ≡ 64 → length (closure_to d k) ≡ 64
unfolding closure_to
closure-length d zero l = l
closure-length d (suc k) l = through-length (closure_to d k) k

pub closure-empty : (n : ℕ) (d : List ℕ) (k : ℕ) → EmptyFrom n d → EmptyFrom n (closure_to d k)
unfolding closure_to
closure-empty n d zero e = e
closure-empty n d (suc k) e = through_empty n (closure_to d k) k (closure-empty n d k e)

-- steps from n on change nothing, so the loop may stop there
pub closure-past : (n : ℕ) (d : List ℕ) (k m : ℕ) → length d ≡ 64 → EmptyFrom n d → n ≤ k → k ≤ m → closure_to d k ≡ closure_to d m
unfolding closure_to EmptyFrom
closure-past n d k zero l e h j = let z : k ≡ 0 = omega arith in rw z
closure-past n d k (suc m) l e h j = elim (eq-or-lt_of_le j) [
  | inl q ↦ rw q
  | inr q ↦ closure-past n d k m l e h (omega arith) ∙ through-none (closure_to d m) m (closure-length d m l) (closure-empty n d m e m (omega arith))
]
