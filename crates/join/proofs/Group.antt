-- Three plans joined in either grouping are one plan; and the one grouping is within the limits where the other is.
-- Assumes nothing.
use mathlib.Core.Path.{◌≡◌, refl, sym, ap, ap₂, ◌∙◌}
use mathlib.Core.Logic.{inl, inr}
use mathlib.Core.Bool.{◌&&◌}
use mathlib.Core.List.{List}
use Prim.Native.Nat.{ℕ, ◌+◌, ◌*◌, ◌/◌, ◌%◌, ◌^◌, ◌≤◌, ◌<◌, min}
use native.Mathlib.Omega.{arith}
use native.Mathlib.Nat.{add-mul, mul_assoc, add_assoc, mul-le-mul}
use lib.Dec.{leb}
use lib.Pow.{pow-add}
use lib.Bits.{bit_or, or_shifted_r}
use lib.ListN.{get_or}
use borrow.Author.Tests.{leb-true, leb-false}
use Rattle.bounded.specs.Bounded.{table}
use Rattle.bounded.proofs.Bools.{split?, by_cond, same_test, and_r, ◌&◌}
use Rattle.bounded.proofs.Lists.{table_at, table_same}
use Rattle.plan.specs.Limits.{ours}
use Rattle.plan.specs.declared.Plan.{Plan}
use Rattle.plan.proofs.Valid.{Valid}
use Rattle.join.specs.Join.{row_at, pair_at, smaller, joined_plan, joinable}
use Rattle.join.proofs.Pairs.{first_of, second-of, front, middle, last}
use Rattle.join.proofs.Rows.{row_first, row-second, row-past, pair-at, pair-past}
use Rattle.sets.proofs.Moved.{union-lt}
use Rattle.join.proofs.Entries.{part, entry_first, entry-second, Within}
use Rattle.join.proofs.ValidJoin.{within-limits, limits-within}

-- ---- rows

module _ (size k l m up wide high : ℕ) (xs ys zs : List ℕ) (room : k + l + m ≤ size) (e : wide ≡ high + up) where
  low-row : List ℕ
  low-row = table (row_at k l up xs ys) size

  high-row : List ℕ
  high-row = table (row_at l m high ys zs) size

  row_same : (i : ℕ) → i < size → row_at (k + l) m wide low-row zs i ≡ row_at k (l + m) up xs high-row i
  unfolding low-row high-row
  row_same i h = elim (split? i (k + l + m)) [
    | inr z ↦ row-past (k + l) m wide low-row zs i z ∙ sym (row-past k (l + m) up xs high-row i (omega arith))
    | inl z ↦ elim (part (k + l) m i z) [
      | inl y ↦ row_first (k + l) m wide low-row zs i y ∙ elim (part k l i y) [
        | inl x ↦ entry_first size k l up xs ys (omega arith) i x ∙ sym (row_first k (l + m) up xs high-row i x)
        | inr t ↦ rw t.1 (entry-second size k l up xs ys (omega arith) t.0 t.2
            ∙ ap (λ (n : ℕ). n + up) (sym (entry_first size l m high ys zs (omega arith) t.0 t.2))
            ∙ sym (row-second k (l + m) up xs high-row t.0 (omega (arith, t.2))))
      ]
      | inr t ↦ (let d = t.0 in
          let q : i ≡ k + (l + d) = omega (arith, t.1) in
          let f = row-second (k + l) m wide low-row zs d t.2 in
          let g = row-second k (l + m) up xs high-row (l + d) (omega (arith, t.2)) in
          let n = entry-second size l m high ys zs (omega arith) d t.2 in
          ap (λ (j : ℕ). row_at (k + l) m wide low-row zs j) t.1 ∙ f ∙ (omega arith) ∙ sym g ∙ ap (λ (j : ℕ). row_at k (l + m) up xs high-row j) (sym q))
    ]
  ]

  rows_same : table (row_at (k + l) m wide (table (row_at k l up xs ys) size) zs) size ≡ table (row_at k (l + m) up xs (table (row_at l m high ys zs) size)) size
  unfolding low-row high-row
  rows_same = table_same (row_at (k + l) m wide low-row zs) (row_at k (l + m) up xs high-row) size row_same

-- ---- ways

union-same : (n l x y z : ℕ) → x < 2 ^ n → y < 2 ^ l → bit_or (bit_or x (y * 2 ^ n)) (z * 2 ^ (n + l)) ≡ bit_or x (bit_or y (z * 2 ^ l) * 2 ^ n)
union-same n l x y z h k =
    let a : bit_or (bit_or x (y * 2 ^ n)) (z * 2 ^ (n + l)) ≡ z * 2 ^ (n + l) + bit_or x (y * 2 ^ n) = or_shifted_r z (n + l) (bit_or x (y * 2 ^ n)) (union-lt n x y l h k) in
    let b : bit_or x (y * 2 ^ n) ≡ y * 2 ^ n + x = or_shifted_r y n x h in
    let d : bit_or y (z * 2 ^ l) ≡ z * 2 ^ l + y = or_shifted_r z l y k in
    let e : bit_or x (bit_or y (z * 2 ^ l) * 2 ^ n) ≡ bit_or y (z * 2 ^ l) * 2 ^ n + x = or_shifted_r (bit_or y (z * 2 ^ l)) n x h in
    let f : bit_or y (z * 2 ^ l) * 2 ^ n ≡ z * 2 ^ l * 2 ^ n + y * 2 ^ n = ap (λ (s : ℕ). s * 2 ^ n) d ∙ add-mul (z * 2 ^ l) y (2 ^ n) in
    let g : z * 2 ^ l * 2 ^ n ≡ z * 2 ^ (n + l) = mul_assoc z (2 ^ l) (2 ^ n) ∙ ap (λ (s : ℕ). z * s) (sym (pow-add 2 l n) ∙ ap (λ (s : ℕ). 2 ^ s) (omega arith)) in
    omega (arith, a, b, e, f, g)

module _ (a b c n l : ℕ) (xs ys zs : List ℕ) (hb : 1 ≤ b) (hc : 1 ≤ c) (few : a * b ≤ 16) (few' : b * c ≤ 16)
    (low : (k : ℕ) → k < a → get_or xs k 0 < 2 ^ n) (mid : (k : ℕ) → k < b → get_or ys k 0 < 2 ^ l) where
  low-ways : List ℕ
  low-ways = table (pair_at a b n xs ys) 16

  high-ways : List ℕ
  high-ways = table (pair_at b c l ys zs) 16

  way_same : (i : ℕ) → i < 16 → pair_at (a * b) c (n + l) low-ways zs i ≡ pair_at a (b * c) n xs high-ways i
  unfolding low-ways high-ways
  way_same i h = elim (split? i (a * b * c)) [
    | inr z ↦ pair-past (a * b) c (n + l) low-ways zs i z ∙ sym (pair-past a (b * c) n xs high-ways i (omega (arith, mul_assoc a b c)))
    | inl z ↦ (let o : i < a * (b * c) = omega (arith, mul_assoc a b c) in
        let bc : 1 ≤ b * c = mul-le-mul hb hc in
        let j : ℕ = i / c in
        let hj : j < a * b = first_of (a * b) c i hc z in
        let d : ℕ = i % (b * c) in
        let hd : d < b * c = second-of (b * c) i bc in
        let x : ℕ = get_or xs (j / b) 0 in
        let y : ℕ = get_or ys (j % b) 0 in
        let w : ℕ = get_or zs (i % c) 0 in
        pair-at (a * b) c (n + l) low-ways zs i z
        ∙ ap (λ (s : ℕ). bit_or s (w * 2 ^ (n + l))) (table_at (pair_at a b n xs ys) 16 j (omega arith) ∙ pair-at a b n xs ys j hj)
        ∙ union-same n l x y w (low (j / b) (first_of a b j hb hj)) (mid (j % b) (second-of b j hb))
        ∙ ap₂ (λ (s t : ℕ). bit_or (get_or xs s 0) (t * 2 ^ n)) (front i b c)
        (ap₂ (λ (s t : ℕ). bit_or (get_or ys s 0) (get_or zs t 0 * 2 ^ l)) (middle i b c hb hc) (sym (last i b c))
        ∙ sym (table_at (pair_at b c l ys zs) 16 d (omega arith) ∙ pair-at b c l ys zs d hd))
        ∙ sym (pair-at a (b * c) n xs high-ways i o))
  ]

  ways-same : table (pair_at (a * b) c (n + l) (table (pair_at a b n xs ys) 16) zs) 16 ≡ table (pair_at a (b * c) n xs (table (pair_at b c l ys zs) 16)) 16
  unfolding low-ways high-ways
  ways-same = table_same (pair_at (a * b) c (n + l) low-ways zs) (pair_at a (b * c) n xs high-ways) 16 way_same

-- ---- limits

smaller-min : (x y : ℕ) → smaller x y ≡ min x y
unfolding smaller
smaller-min x y = by_cond (λ (z : ℕ). z ≡ min x y) {t = leb x y} {a = x} {b = y} (λ e. let h = leb-true x y e in omega arith) (λ e. let h = leb-false x y e in omega arith)

smaller-same : (x y z : ℕ) → smaller (smaller x y) z ≡ smaller x (smaller y z)
smaller-same x y z = omega (arith, smaller-min (smaller x y) z, smaller-min x y, smaller-min x (smaller y z), smaller-min y z)

-- ---- plans

plan-same : (n m a limit n' m' a' limit' : ℕ) (kind desk from to way kind' desk' from' to' way' : List ℕ) → n ≡ n' → m ≡ m' → a ≡ a' → limit ≡ limit'
    → kind ≡ kind' → desk ≡ desk' → from ≡ from' → to ≡ to' → way ≡ way'
    → ◌≡◌ {A = Plan} (record { n = n; m = m; a = a; limit = limit; kind = kind; desk = desk; from = from; to = to; way = way })
    (record { n = n'; m = m'; a = a'; limit = limit'; kind = kind'; desk = desk'; from = from'; to = to'; way = way' })
plan-same n m a limit n' m' a' limit' kind desk from to way kind' desk' from' to' way' e1 e2 e3 e4 e5 e6 e7 e8 e9 = rw (e1, e2, e3, e4, e5, e6, e7, e8, e9)

module _ (p q r : Plan) (v : Valid p) (w : Valid q) (x : Valid r) where
  -- all three are within the limits
  record Whole : Type 0 where
    bookings : p.n + q.n + r.n ≤ 64
    links : p.m + q.m + r.m ≤ 512
    ways : p.a * q.a * r.a ≤ 16

  -- and so is each part
  pub record Partly : Type 0 where
    pub first_two : Within p q
    pub last-two : Within q r
    pub from_first : Within (joined_plan p q) r
    pub from_last : Within p (joined_plan q r)

  parts : Whole → Partly
  unfolding joined_plan ours
  parts c =
      let e = mul_assoc p.a q.a r.a in
      let ab : p.a * q.a * 1 ≤ p.a * q.a * r.a = mul-le-mul {n₁ = p.a * q.a} (omega arith) x.counts.some_way in
      let bc : 1 * (q.a * r.a) ≤ p.a * (q.a * r.a) = mul-le-mul {m₁ = q.a * r.a} v.counts.some_way (omega arith) in
      let f : 1 * 1 ≤ p.a * q.a = mul-le-mul v.counts.some_way w.counts.some_way in
      let g : 1 * 1 ≤ q.a * r.a = mul-le-mul w.counts.some_way x.counts.some_way in
      let h : 1 ≤ p.n = v.counts.some_booking in
      let k : 1 ≤ q.n = w.counts.some_booking in
      record {
        first_two = record { some_booking = omega arith; bookings = omega (arith, c.bookings); links = omega (arith, c.links); some_way = omega arith; ways = omega (arith, c.ways) };
        last-two = record { some_booking = omega arith; bookings = omega (arith, c.bookings); links = omega (arith, c.links); some_way = omega arith; ways = omega (arith, c.ways) };
        from_first = record { some_booking = omega arith; bookings = c.bookings; links = c.links; some_way = omega arith; ways = c.ways };
        from_last = record { some_booking = omega arith; bookings = omega (arith, c.bookings); links = omega (arith, c.links); some_way = omega arith; ways = omega (arith, c.ways) };
      }

  pub parts-of-first : Within (joined_plan p q) r → Partly
  unfolding joined_plan ours
  parts-of-first c = parts (record { bookings = c.bookings; links = c.links; ways = c.ways })

  pub parts-of-last : Within p (joined_plan q r) → Partly
  unfolding joined_plan ours
  parts-of-last c = parts (record { bookings = omega (arith, c.bookings); links = omega (arith, c.links); ways = omega (arith, c.ways, mul_assoc p.a q.a r.a) })

  -- one grouping is within the limits, at both of its joins, where the other is
  pub joinable-alike : joinable p q && joinable (joined_plan p q) r ≡ joinable q r && joinable p (joined_plan q r)
  joinable-alike =
      same_test (joinable p q && joinable (joined_plan p q) r) (joinable q r && joinable p (joined_plan q r))
      (λ e. let c = parts-of-first (within-limits (joined_plan p q) r (and_r (joinable p q) _ e)) in limits-within q r c.last-two & limits-within p (joined_plan q r) c.from_last)
      (λ e. let c = parts-of-last (within-limits p (joined_plan q r) (and_r (joinable q r) _ e)) in limits-within p q c.first_two & limits-within (joined_plan p q) r c.from_first)

  pub joined_same : Within (joined_plan p q) r → joined_plan (joined_plan p q) r ≡ joined_plan p (joined_plan q r)
  unfolding joined_plan ours
  joined_same c =
      let t = parts-of-first c in
      let n : p.n + q.n + r.n ≤ 64 = c.bookings in
      let m : p.m + q.m + r.m ≤ 512 = c.links in
      plan-same _ _ _ _ _ _ _ _ _ _ _ _ _ _ _ _ _ _
      (add_assoc p.n q.n r.n)
      (add_assoc p.m q.m r.m)
      (mul_assoc p.a q.a r.a)
      (smaller-same p.limit q.limit r.limit)
      (rows_same 64 p.n q.n r.n 0 0 0 p.kind q.kind r.kind n refl)
      (rows_same 64 p.n q.n r.n 0 0 0 p.desk q.desk r.desk n refl)
      (rows_same 512 p.m q.m r.m p.n (p.n + q.n) q.n p.from q.from r.from m (omega arith))
      (rows_same 512 p.m q.m r.m p.n (p.n + q.n) q.n p.to q.to r.to m (omega arith))
      (ways-same p.a q.a r.a p.n q.n p.way q.way r.way w.counts.some_way x.counts.some_way t.first_two.ways t.last-two.ways v.sets w.sets)
