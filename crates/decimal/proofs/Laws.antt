-- The laws of a number in w columns. What is written of a number below 10 ^ w is read as that number (`written_read`), and an accepted
-- field is what is written of its number (`read-written`).
-- Assumes nothing.
use Prim.Native.Nat.{ℕ, zero, suc, ◌+◌, ◌-◌, ◌*◌, ◌/◌, ◌%◌, ◌^◌, ◌<◌, ◌≤◌}
use mathlib.Core.Path.{◌≡◌, refl, sym, ap, ◌∙◌, subst}
use mathlib.Core.Logic.{◌⊎◌, inl, inr}
use mathlib.Core.List.{List, [], ◌∷◌, ◌++◌}
use mathlib.Core.Bool.{Bool, true, false, not, ◌&&◌, cond}
use native.Mathlib.Nat.{pow-suc, pow-le-pow_right}
use native.Mathlib.Numerals.{add-one}
use native.Mathlib.Omega.{arith}
use lib.ListN.{length, get_or, take, drop, set, length-append, length-drop, get_or-append}
use lib.Seq.{sets, length-sets, take-suc, length-take-le, take-take, take_all, take_at, get_or-take, get_or_at, ext_get_or}
use lib.Dec.{eqb, leb, ltb}
use borrow.Author.Tests.{eqb-true, eqb-false, eq-eqb, ne_eqb, leb-true, le-leb, ltb-true, lt-ltb, not-false}
use Rattle.bounded.proofs.Bools.{clash, and_l, and_r, and-no-r, and-true, last?, split?, ◌&◌}
use Rattle.bounded.proofs.First.{Least, first-least}
use Rattle.bounded.specs.Bounded.{first}
use Rattle.decimal.specs.Decimal.{begun, column, columns_to, columns, value_of, same_bytes, spaces, unread_of, field_of, field_text}
use Rattle.std.specs.Prelude.{Option, Some, None, MatchOption, unwrap_or, Ok, Err, ◌≢◌}
use Rattle.std.specs.List.{AllWithin, HoldsAt}
use Rattle.std.specs.Char.{is_ascii_digit}
use Rattle.bounded.proofs.Loops.{first-at, first-over}
use Rattle.decimal.specs.declared.NoNumber.{NoNumber}
use Rattle.decimal.specs.declared.NoNumber.TheVariants.{Blank, Fault}
use Rattle.decimal.proofs.Bytes.{same_refl, same-eq, same-ne}
use borrow.Rule.Slice.PartMut.{put_mid}
use Rattle.decimal.proofs.Stores.{sets_last, sets-whole, put-sets, Front, next-part}

-- ---- one column

-- a column gives back its digit
column-mod : (last : Bool) (q : ℕ) → column last q % 16 ≡ q % 10
unfolding column
column-mod last q = go last (eqb q 0) (eqb-true q 0)
  where
    go : (l b : Bool) → (b ≡ true → q ≡ 0) → cond (b && not l) 32 (48 + q % 10) % 16 ≡ q % 10
    go true true h = omega arith
    go true false h = omega arith
    go false true h = let e : q ≡ 0 = h refl in omega arith
    go false false h = omega arith

-- a byte that is the column of v and itself has v before it
before-column : (last : Bool) (b v : ℕ) → b ≡ column last (v * 10 + b % 16) → (v * 10 + b % 16) / 10 ≡ v
before-column last b v e =
    let m : b % 16 ≡ (v * 10 + b % 16) % 10 = ap (λ (x : ℕ). x % 16) e ∙ column-mod last (v * 10 + b % 16) in
    omega arith

-- what stands in a column whose number is x: a space while it is nothing and more follow, and else its last digit
column-cases : (last : Bool) (x : ℕ) → ((x ≡ 0) × (last ≡ false) × (column last x ≡ 32)) ⊎ (column last x ≡ 48 + x % 10)
unfolding column
column-cases last x = go last (eqb x 0) (eqb-true x 0)
  where
    go : (l b : Bool) → (b ≡ true → x ≡ 0)
        → ((x ≡ 0) × (l ≡ false) × (cond (b && not l) 32 (48 + x % 10) ≡ 32)) ⊎ (cond (b && not l) 32 (48 + x % 10) ≡ 48 + x % 10)
    go true true h = inr refl
    go true false h = inr refl
    go false true h = inl (h refl, refl, refl)
    go false false h = inr refl

-- a byte that is no digit stands rightly only as a space in front
pub no_digit : (last : Bool) (b x : ℕ) → leb 48 b && leb b 57 ≡ false → (x ≡ 0 → last ≡ false → b ≡ 32 → ⊥) → b ≡ column last x → ⊥
no_digit last b x n h e = elim (column-cases last x) [
  | inl c ↦ h c.0 c.1 (e ∙ c.2)
  | inr c ↦ clash (leb 48 b && leb b 57) (le-leb 48 b (omega arith) & le-leb b 57 (omega arith)) n
]

-- a digit stands rightly unless it is a zero in front
pub digit-read : (last : Bool) (b x : ℕ) → leb 48 b && leb b 57 ≡ true → x % 10 ≡ b % 16 % 10 → (x ≡ 0 → last ≡ false → b ≡ 48 → ⊥) → b ≡ column last x
digit-read last b x t d h =
    let lo : 48 ≤ b = leb-true 48 b (and_l (leb 48 b) (leb b 57) t) in
    let hi : b ≤ 57 = leb-true b 57 (and_r (leb 48 b) (leb b 57) t) in
    elim (column-cases last x) [
      | inl c ↦ (let z = c.0 in absurd (h z c.1 (omega arith)))
      | inr c ↦ (let e : b ≡ 48 + x % 10 = omega arith in e ∙ sym c)
    ]

-- ---- the columns of a number

pub to-length : (last : Bool) (w x : ℕ) → length (columns_to last w x) ≡ w
unfolding columns_to
to-length last zero x = refl
to-length last (suc w) x = length-append (columns_to false w (x / 10)) (column last x ∷ []) ∙ omega (arith, to-length false w (x / 10))

pub columns-length : (w x : ℕ) → length (columns w x) ≡ w
unfolding columns
columns-length w x = to-length true w x

-- the value of w bytes is not changed by what follows them
value-front : (w : ℕ) (a b : List ℕ) → w ≤ length a → value_of w (a ++ b) ≡ value_of w a
unfolding value_of
value-front zero a b h = refl
value-front (suc w) a b h = rw (value-front w a b (omega arith), get_or-append a b 0 w h)

-- the last digit, after the value of the columns before it
value-last : (last : Bool) (w x : ℕ) → value_of (suc w) (columns_to last (suc w) x) ≡ value_of w (columns_to false w (x / 10)) * 10 + x % 10
unfolding value_of columns_to
value-last last w x =
    let n : w ≤ length (columns_to false w (x / 10)) = omega (arith, to-length false w (x / 10)) in
    let d : get_or (columns_to false w (x / 10) ++ (column last x ∷ [])) w 0 ≡ column last x =
    get_or_at (columns_to false w (x / 10)) (column last x) [] 0 w (to-length false w (x / 10)) in
    rw (value-front w (columns_to false w (x / 10)) (column last x ∷ []) n, d, column-mod last x)

value-to : (last : Bool) (w x : ℕ) → x < 10 ^ w → value_of w (columns_to last w x) ≡ x
unfolding value_of
value-to last zero x h = omega arith
value-to last (suc w) x h =
    let p : x < 10 ^ w * 10 = rw pow-suc at h in
    let v : value_of w (columns_to false w (x / 10)) ≡ x / 10 = value-to false w (x / 10) (omega arith) in
    value-last last w x ∙ omega arith

value-small : (last : Bool) (w x : ℕ) → value_of w (columns_to last w x) < 10 ^ w
unfolding value_of
value-small last zero x = omega arith
value-small last (suc w) x = rw (value-last last w x, pow-suc) (omega (arith, value-small false w (x / 10)))

-- ---- spaces

-- they are the columns of nothing that no last column ends
pub spaces-columns : (w : ℕ) → columns_to false w 0 ≡ spaces w
unfolding columns_to column spaces
spaces-columns zero = refl
spaces-columns (suc w) = rw (spaces-columns w)

pub spaces-length : (w : ℕ) → length (spaces w) ≡ w
spaces-length w = rw (← (spaces-columns w)) (to-length false w 0)

space-at : (w i : ℕ) → i < w → get_or (spaces w) i 0 ≡ 32
unfolding spaces
space-at zero i h = absurd (omega arith)
space-at (suc w) i h = elim (last? h) [
  | inl p ↦ rw p (get_or_at (spaces w) 32 [] 0 w (spaces-length w))
  | inr m ↦ get_or-append (spaces w) (32 ∷ []) 0 i (omega (arith, spaces-length w)) ∙ space-at w i m
]

-- a field whose bytes are all spaces
pub all-spaces : (w : ℕ) (field : List ℕ) → length field ≡ w → ((k : ℕ) → k < w → get_or field k 0 ≡ 32) → field ≡ spaces w
all-spaces w field n h = ext_get_or 0 field (spaces w) (n ∙ sym (spaces-length w)) (λ k l. let m : k < w = omega arith in h k m ∙ sym (space-at w k m))

-- a byte that is no space makes them no blank
pub no-blank : (w : ℕ) (s : List ℕ) (i : ℕ) → i < w → (get_or s i 0 ≡ 32 → ⊥) → Fault ≡ unread_of w s
unfolding unread_of
no-blank w s i h n = rw (same-ne s (spaces w) (λ e. n (ap (λ (l : List ℕ). get_or l i 0) e ∙ space-at w i h)))

-- nothing but spaces is a blank
pub all-blank : (s : List ℕ) → ((k : ℕ) → k < length s → get_or s k 0 ≡ 32) → Blank ≡ unread_of (length s) s
unfolding unread_of
all-blank s h =
    let e : s ≡ spaces (length s) = ext_get_or 0 s (spaces (length s)) (sym (spaces-length (length s))) (λ k l. h k l ∙ sym (space-at (length s) k l)) in
    let y : same_bytes s (spaces (length s)) ≡ true = rw (← e) (same_refl s) in
    rw y

-- ---- read and written

pub value_written : (w x : ℕ) → x < 10 ^ w → value_of w (columns w x) ≡ x
unfolding columns
value_written w x h = value-to true w x h

-- what is written of a number is read as that number
pub written_read : (w x : ℕ) → x < 10 ^ w → field_of w (columns w x) ≡ Ok x
unfolding field_of
written_read w x h = rw (value_written w x h, same_refl (columns w x))

-- an accepted field is what is written of its number
pub record Reads (w : ℕ) (s : List ℕ) (x : ℕ) : Type 0 where
  pub small : x < 10 ^ w
  pub value : x ≡ value_of w s
  pub text : s ≡ columns w x

pub read-written : (w : ℕ) (s : List ℕ) (x : ℕ) → field_of w s ≡ Ok x → Reads w s x
unfolding field_of columns
read-written w s x = go (same_bytes s (columns w (value_of w s))) (same-eq s (columns w (value_of w s)))
  where
    go : (b : Bool) → (b ≡ true → s ≡ columns w (value_of w s)) → cond b (Ok (value_of w s)) (Err (unread_of w s)) ≡ Ok x → Reads w s x
    go true h e =
        let v : value_of w s ≡ x = cc in
        let t : s ≡ columns w x = rw v at (h refl) in
        record { small = subst (λ (n : ℕ). n < 10 ^ w) (ap (value_of w) (sym t) ∙ v) (value-small true w x); value = sym v; text = t }
    go false h e = absurd (cc)

-- what is written of a blank is read as a blank, since a number's last column is no space
pub blank-read : (w : ℕ) → field_of (suc w) (spaces (suc w)) ≡ Err Blank
unfolding field_of unread_of columns columns_to
blank-read w =
    let v : ℕ = value_of (suc w) (spaces (suc w)) in
    let n : same_bytes (spaces (suc w)) (columns (suc w) v) ≡ false = same-ne (spaces (suc w)) (columns (suc w) v) (λ e.
    let z : 32 ≡ column true v = sym (space-at (suc w) w (omega arith)) ∙ ap (λ (l : List ℕ). get_or l w 0) e ∙ get_or_at (columns_to false w (v / 10)) (column true v) [] 0 w (to-length false w (v / 10)) in
    elim (column-cases true v) [ inl c ↦ clash true refl c.1 | inr c ↦ omega arith ]) in
    rw (n, same_refl (spaces (suc w)))

-- a field that is no fault is what is written of it
pub own-text : (w : ℕ) (s : List ℕ) → (field_of w s ≡ Err Fault → ⊥) → s ≡ field_text w (field_of w s)
unfolding field_of unread_of field_text
own-text w s = go (same_bytes s (columns w (value_of w s))) (same_bytes s (spaces w)) (same-eq s (columns w (value_of w s))) (same-eq s (spaces w))
  where
    go : (a b : Bool) → (a ≡ true → s ≡ columns w (value_of w s)) → (b ≡ true → s ≡ spaces w) → (cond a (Ok (value_of w s)) (Err (cond b Blank Fault)) ≡ Err Fault → ⊥)
        → s ≡ field_text w (cond a (Ok (value_of w s)) (Err (cond b Blank Fault)))
    go true b p q n = p refl
    go false true p q n = q refl
    go false false p q n = absurd (n refl)

-- the columns of the value are a number
pub columns-number : (w : ℕ) (s : List ℕ) → s ≡ columns w (value_of w s) → field_of w s ≡ Ok (value_of w s)
unfolding field_of
columns-number w s e =
    let y : same_bytes s (columns w (value_of w s)) ≡ true = rw (← e) (same_refl s) in
    rw y

-- ---- reading column by column

-- of a field in its form, each byte is the column of the number that ends with it
each-column : (last : Bool) (w : ℕ) (s : List ℕ) → w ≤ length s → take w s ≡ columns_to last w (value_of w s)
    → (i : ℕ) → i < w → get_or s i 0 ≡ column (last && eqb (suc i) w) (value_of (suc i) s)
unfolding columns_to value_of
each-column last zero s n e i h = absurd (omega arith)
each-column last (suc w) s n e i h =
    let l : length (columns_to false w (value_of (suc w) s / 10)) ≡ w = to-length false w (value_of (suc w) s / 10) in
    let b : get_or s w 0 ≡ column last (value_of (suc w) s) =
    sym (get_or-take (suc w) s w 0 (omega arith))
    ∙ ap (λ (l : List ℕ). get_or l w 0) e
    ∙ get_or_at (columns_to false w (value_of (suc w) s / 10)) (column last (value_of (suc w) s)) [] 0 w l in
    let f : take w s ≡ columns_to false w (value_of (suc w) s / 10) =
    sym (take-take w (suc w) s (omega arith))
    ∙ ap (take w) e
    ∙ take_at (columns_to false w (value_of (suc w) s / 10)) (column last (value_of (suc w) s) ∷ []) w l in
    let q : value_of (suc w) s / 10 ≡ value_of w s = before-column last (get_or s w 0) (value_of w s) b in
    elim (last? h) [
      | inl p ↦ rw (p, eq-eqb (suc w) (suc w) refl, and-true last) b
      | inr m ↦
          rw (and-no-r last (eqb (suc i) (suc w)) (ne_eqb (suc i) (suc w) (λ z. omega arith)))
          (each-column false w s (omega arith) (rw q at f) i m)
    ]

pub fault-length : (w : ℕ) (s : List ℕ) → (length s ≡ w → ⊥) → Err Fault ≡ field_of w s
unfolding field_of unread_of
fault-length w s h =
    rw (same-ne s (columns w (value_of w s)) (λ e. h (ap length e ∙ columns-length w (value_of w s))), same-ne s (spaces w) (λ e. h (ap length e ∙ spaces-length w)))

-- what the loop has in hand of column i: x is the value before it, d its digit
module _ (w : ℕ) (s : List ℕ) (i x d : ℕ) (n : length s ≡ w) (h : i < w) (v : x ≡ value_of i s) (g : d ≡ get_or s i 0 % 16) where
  value-turn : x * 10 + d ≡ value_of (i + 1) s
  unfolding value_of
  value-turn = rw (add-one, v, g)

  -- a byte that is not its column makes the field no number
  unread-at : (get_or s i 0 ≡ column (eqb (i + 1) w) (x * 10 + d) → ⊥) → Err (unread_of w s) ≡ field_of w s
  unfolding field_of columns
  unread-at other =
      rw (same-ne s (columns w (value_of w s)) (λ e.
      other (each-column true w s (omega arith) (take_all w s (omega arith) ∙ e) i h ∙ rw (value-turn, add-one))))

  -- one byte more is its column
  column-read : take i s ≡ columns_to (eqb i w) i x → get_or s i 0 ≡ column (eqb (i + 1) w) (x * 10 + d)
      → take (i + 1) s ≡ columns_to (eqb (i + 1) w) (i + 1) (x * 10 + d)
  unfolding columns_to
  column-read t b =
      let o : eqb i w ≡ false = ne_eqb i w (λ z. omega arith) in
      let e : get_or s i 0 ≡ column (eqb (i + 1) w) (x * 10 + get_or s i 0 % 16) = b ∙ rw g in
      let q : (x * 10 + d) / 10 ≡ x = rw g (before-column (eqb (i + 1) w) (get_or s i 0) x e) in
      let f : take i s ≡ columns_to false i ((x * 10 + d) / 10) = t ∙ rw (o, q) in
      let a : take (suc i) s ≡ take i s ++ (get_or s i 0 ∷ []) = take-suc s i 0 (omega arith) in
      let z : take (suc i) s ≡ columns_to (eqb (i + 1) w) (suc i) (x * 10 + d) = a ∙ rw (f, b) in
      ap (λ (j : ℕ). take j s) (add-one i) ∙ z ∙ ap (λ (j : ℕ). columns_to (eqb (i + 1) w) j (x * 10 + d)) (sym (add-one i))

-- what is known when i columns have been read, with the value x: a number that has not begun begins now, or in the last column
pub record Read-to (w : ℕ) (s : List ℕ) (i x : ℕ) : Type 0 where
  pub high : i ≤ w
  pub value : x ≡ value_of i s
  pub text : take i s ≡ columns_to (eqb i w) i x
  pub begins : x ≡ 0 → i + 1 < w → (get_or s i 0 ≡ 32 → ⊥) × (get_or s i 0 ≡ 48 → ⊥)

-- spaces in front
blanks : (s : List ℕ) (i : ℕ) → i ≤ length s → ((j : ℕ) → j < i → get_or s j 0 ≡ 32) → (value_of i s ≡ 0) × (take i s ≡ columns_to false i 0)
unfolding value_of columns_to column
blanks s zero h b = (refl, refl)
blanks s (suc i) h b =
    let r = blanks s i (omega arith) (λ j l. b j (omega arith)) in
    (rw (r.0, b i (omega arith)), take-suc s i 0 h ∙ rw (r.1, b i (omega arith)))

module _ (w : ℕ) (s : List ℕ) (i : ℕ) (n : length s ≡ w) (f : i ≡ first (begun s) (w - 1)) where
  found : Least (begun s) (w - 1) i
  found = rw f (first-least (begun s) (w - 1))

  front : (value_of i s ≡ 0) × (take i s ≡ columns_to false i 0)
  unfolding begun
  front = blanks s i (omega (arith, found.high)) (λ j l. eqb-true (get_or s j 0) 32 (not-false (eqb (get_or s j 0) 32) (found.before j l)))

  -- a zero in front of others
  pub zero-led : ltb (i + 1) w && eqb (get_or s i 0) 48 ≡ true → Err Fault ≡ field_of w s
  unfolding column
  zero-led t =
      let l : i + 1 < w = ltb-true (i + 1) w (and_l (ltb (i + 1) w) _ t) in
      let z : get_or s i 0 ≡ 48 = eqb-true (get_or s i 0) 48 (and_r (ltb (i + 1) w) _ t) in
      ap (λ (e : NoNumber). Err e) (no-blank w s i (omega arith) (λ e. omega arith))
      ∙ unread-at w s i 0 0 n (omega arith) (sym front.0) (rw z) (λ e. absurd (omega (arith, rw (z, ne_eqb (i + 1) w (λ q. omega arith)) at e)))

  pub begun-read : i ≤ length s → ltb (i + 1) w && eqb (get_or s i 0) 48 ≡ false → Read-to w s i 0
  unfolding begun columns_to
  begun-read k t = record {
    high = omega arith;
    value = sym front.0;
    text = elim (split? i w) [
      | inl l ↦ front.1 ∙ rw (ne_eqb i w (λ q. omega arith))
      | inr l ↦ (let e : i ≡ 0 = omega (arith, found.high) in rw e)
    ];
    begins = λ z l. (
      λ e. clash (begun s i) (found.at (omega arith)) (ap not (eq-eqb (get_or s i 0) 32 e)),
      λ e. clash (ltb (i + 1) w && eqb (get_or s i 0) 48) (lt-ltb (i + 1) w l & eq-eqb (get_or s i 0) 48 e) t,
    );
  }

-- the first byte that is no space, as a search in front of the last column finds it
pub begins_at : (s : List ℕ) (n : ℕ) (r : Option ℕ)
    → MatchOption r (AllWithin (λ x. x ≡ 32) (take n s) 0 (length (take n s)))
    (λ i. (i < length (take n s)) × HoldsAt (λ x. x ≢ 32) (take n s) i × AllWithin (λ x. x ≡ 32) (take n s) 0 i)
    → n ≤ length s → (unwrap_or r n ≤ n) × (unwrap_or r n ≡ first (begun s) n)
unfolding begun
begins_at s n None p h =
    (omega arith, first-over (begun s) n n (λ k l. ap not (eq-eqb _ _ (sym (get_or-take n s k 0 l) ∙ p k 0 (omega arith) (omega (arith, length-take-le n s h))))) (omega arith))
begins_at s n (Some i) p h =
    let l : i < n = omega (arith, length-take-le n s h) in (
      omega arith,
      first-at (begun s) n i
          (λ k m. ap not (eq-eqb _ _ (sym (get_or-take n s k 0 (omega arith)) ∙ p.2 k 0 (omega arith) m)))
          l
          (ap not (ne_eqb _ _ (λ e. p.1 0 (get_or-take n s i 0 l ∙ e)))),
    )

-- a column more
module _ (w : ℕ) (s : List ℕ) (i x : ℕ) (n : length s ≡ w) (h : i < w) (r : Read-to w s i x) (b : Bool)
    (t : b ≡ is_ascii_digit (get_or s i 0)) where
  goes_on : eqb (i + 1) w ≡ false → i + 1 < w
  goes_on l = elim (split? (i + 1) w) [ inl k ↦ k | inr k ↦ absurd (eqb-false (i + 1) w l (omega arith)) ]

  pub digit-lacks : b ≡ false → (f : NoNumber) → f ≡ unread_of (length s) s → Err f ≡ field_of w s
  digit-lacks q f e =
      rw (e, n)
      (unread-at w s i x (get_or s i 0 % 16) n h r.value refl
      (no_digit (eqb (i + 1) w) (get_or s i 0) (x * 10 + get_or s i 0 % 16) (sym t ∙ q)
      (λ z l. (r.begins (omega arith) (goes_on l)).0)))

  pub digit-more : b ≡ true → (d : ℕ) → d ≡ get_or s i 0 % 16 → Read-to w s (i + 1) (x * 10 + d)
  digit-more q d g =
      let y : leb 48 (get_or s i 0) && leb (get_or s i 0) 57 ≡ true = sym t ∙ q in
      record {
        high = omega arith;
        value = value-turn w s i x d n h r.value g;
        text = column-read w s i x d n h r.value g r.text
            (digit-read (eqb (i + 1) w) (get_or s i 0) (x * 10 + d) y (omega arith) (λ z l. (r.begins (omega arith) (goes_on l)).1));
        begins = λ z l. absurd ((r.begins (omega arith) (omega arith)).1 (zero-byte y z));
      }
    where
      -- the digit of nothing
      zero-byte : leb 48 (get_or s i 0) && leb (get_or s i 0) 57 ≡ true → x * 10 + d ≡ 0 → get_or s i 0 ≡ 48
      zero-byte y z =
          let lo : 48 ≤ get_or s i 0 = leb-true 48 _ (and_l (leb 48 (get_or s i 0)) _ y) in
          let hi : get_or s i 0 ≤ 57 = leb-true _ 57 (and_r (leb 48 (get_or s i 0)) _ y) in
          omega arith

pub number_read : (w : ℕ) (s : List ℕ) (i x : ℕ) → length s ≡ w → i ≤ w → w ≤ i → x ≡ value_of i s → take i s ≡ columns_to (eqb i w) i x → Ok x ≡ field_of w s
unfolding field_of columns
number_read w s i x n h k v t =
    let e : i ≡ w = omega arith in
    let x' : x ≡ value_of w s = rw e at v in
    let t' : take w s ≡ columns_to (eqb w w) w x = rw e at t in
    let o : eqb w w ≡ true = eq-eqb w w refl in
    let c : take w s ≡ columns_to true w (value_of w s) = rw (o, x') at t' in
    let f : s ≡ columns w (value_of w s) = sym (take_all w s (omega arith)) ∙ c in
    let y : same_bytes s (columns w (value_of w s)) ≡ true = rw (← f) (same_refl s) in
    rw (y, x')

-- bytes of any values stay below twice ten to their number
pub value-bound : (w : ℕ) (s : List ℕ) → 3 * value_of w s + 5 ≤ 5 * 10 ^ w
unfolding value_of
value-bound zero s = omega arith
value-bound (suc w) s = rw pow-suc (omega (arith, value-bound w s))

-- so up to twelve of them leave room in 64 bits
pub room : (w : ℕ) (s : List ℕ) (x : ℕ) → w ≤ 12 → x ≡ value_of w s → x < 2 * 10 ^ 12
room w s x h e = omega (arith, value-bound w s, pow-le-pow_right {n = 10} (omega arith) {i = w} {j = 12} h)

-- ---- writing column by column, the last first

pub column-written : (w i q c : ℕ) (buf whole : List ℕ) → i ≤ w → 0 < i → c ≡ column (eqb (i - 1 + 1) w) q → sets buf 0 (columns_to (eqb i w) i q) ≡ whole
    → sets (set buf (i - 1) c) 0 (columns_to (eqb (i - 1) w) (i - 1) (q / 10)) ≡ whole
unfolding columns_to
column-written w zero q c buf whole h p r e = absurd (omega arith)
column-written w (suc i) q c buf whole h p r e =
    let m : suc i - 1 ≡ i = omega arith in
    let o : eqb i w ≡ false = ne_eqb i w (λ z. omega arith) in
    let l : 0 + length (columns_to false i (q / 10)) ≡ i = omega (arith, to-length false i (q / 10)) in
    let r' : c ≡ column (eqb (suc i) w) q = r ∙ ap (λ (k : ℕ). column (eqb k w) q) (omega arith) in
    rw (m, o, r') (ap (λ (k : ℕ). sets (set buf k (column (eqb (suc i) w) q)) 0 (columns_to false i (q / 10))) (sym l) ∙ sym (sets_last buf 0 (columns_to false i (q / 10)) (column (eqb (suc i) w) q)) ∙ e)

-- all columns are written
pub all-written : (w i q x : ℕ) (field start : List ℕ) → w ≡ length start → i ≤ 0 → sets field 0 (columns_to (eqb i w) i q) ≡ sets start 0 (columns w x) → field ≡ columns w x
unfolding columns_to
all-written w zero q x field start n h e = e ∙ sets-whole start (columns w x) (columns-length w x ∙ n)
all-written w (suc i) q x field start n h e = absurd (omega arith)

pub from_last : (w x : ℕ) (buf : List ℕ) → sets buf 0 (columns_to (eqb w w) w x) ≡ sets buf 0 (columns w x)
unfolding columns
from_last w x buf = rw (eq-eqb w w refl)

-- a field more behind a text at the front
pub next-field : (d x b text : List ℕ) (p w v : ℕ) → Front d text x → p ≡ 0 + length text → p + w ≤ length d → b ≡ columns (length (take w (drop p x))) v → Front d (text ++ columns w v) (put_mid p w x b)
next-field d x b text p w v f q h e =
    let l : length x ≡ length d = rw f.is (length-sets d 0 text) in
    let m : length (take w (drop p x)) ≡ w = length-take-le w (drop p x) (omega (arith, length-drop p x)) in
    next-part d x b text (columns w v) p w f q h (sym (columns-length w v)) (rw m at e)

-- a field written anywhere
pub put-field : (d b : List ℕ) (p k w v : ℕ) → k ≡ w → p + w ≤ length d → b ≡ columns (length (take k (drop p d))) v → put_mid p k d b ≡ sets d p (columns w v)
put-field d b p k w v n h e =
    let m : length (take k (drop p d)) ≡ k = length-take-le k (drop p d) (omega (arith, length-drop p d)) in
    put-sets d p k (columns w v) b (omega (arith, columns-length w v)) (n ∙ sym (columns-length w v)) ((rw m at e) ∙ ap (λ (j : ℕ). columns j v) n)
