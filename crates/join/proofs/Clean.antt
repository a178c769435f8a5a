-- Two plans with none of the faults 4 to 7 join to such a plan: its ways are closed and distinct.
-- Assumes nothing.
use mathlib.Core.Path.{◌≡◌, sym, ap, ◌∙◌}
use mathlib.Core.Logic.{inl, inr}
use mathlib.Core.Bool.{true, false, not}
use Prim.Native.Nat.{ℕ, suc, ◌+◌, ◌*◌, ◌/◌, ◌%◌, ◌^◌, ◌≤◌, ◌<◌}
use native.Mathlib.Omega.{arith}
use lib.Bits.{bit_or}
use lib.ListN.{get_or}
use borrow.Author.Tests.{eqb-true, eq-eqb, not-true}
use Rattle.bounded.specs.Bounded.{any}
use Rattle.bounded.proofs.Bools.{which, clash, off, same?, split?, and_l, and_r, not-i}
use Rattle.bounded.proofs.Tests.{any-i, any-e, any-o}
use Rattle.sets.specs.Sets.{member, subset_of}
use Rattle.sets.proofs.Members.{same_set}
use Rattle.sets.proofs.Facts.{subset-i}
use Rattle.plan.specs.declared.Plan.{Plan}
use Rattle.plan.proofs.Valid.{Valid}
use Rattle.network.specs.declared.Network.{Network}
use Rattle.network.specs.FromPlan.{network_of}
use Rattle.network.specs.Network.{way_of, in_way, before, pre}
use Rattle.network.proofs.Plans.{shape}
use Rattle.verdict.specs.Check.{circular, gap, unclosed, used_by, unused, same_way, repeated}
use Rattle.verdict.proofs.Pass.{Clean-to, closed-way}
use Rattle.join.specs.Join.{joined_plan}
use Rattle.sets.proofs.Moved.{union-low, union-high}
use Rattle.join.proofs.Pairs.{place-first, place-second, place-lt, same_place, first_of, second-of}
use Rattle.join.proofs.Entries.{part, Within, way-is}
use Rattle.join.proofs.Parts.{Parted, first, second, pre-parted}

-- without 7 two ways with the same bookings are one
pub one_way : (g : Network) → ((k : ℕ) → k < g.a → repeated g k ≡ false) → (i j : ℕ) → i < g.a → j < g.a → way_of g (suc i) ≡ way_of g (suc j) → i ≡ j
unfolding repeated same_way
one_way g z i j hi hj e = elim (same? i j) [
  | inl p ↦ p
  | inr d ↦ elim (split? i j) [
    | inl l ↦ clash (repeated g j) (any-i (same_way g j) j i l (eq-eqb _ _ e)) (z j hj)
    | inr l ↦ clash (repeated g i) (any-i (same_way g i) i j (omega arith) (eq-eqb _ _ (sym e))) (z i hi)
  ]
]

-- without 6 a booking is in some way
some-use : (g : Network) (b : ℕ) → unused g b ≡ false → (k : ℕ) × (k < g.a) × (in_way g (suc k) b ≡ true)
unfolding unused used_by
some-use g b e = any-e (used_by g b) g.a (elim (which (any (used_by g b) g.a)) [
  | inl z ↦ z
  | inr z ↦ clash (unused g b) (not-i _ z) e
])

use-some : (g : Network) (b k : ℕ) → k < g.a → in_way g (suc k) b ≡ true → unused g b ≡ false
unfolding unused used_by
use-some g b k h e = ap not (any-i (used_by g b) g.a k h e)

module _ (p q : Plan) (v : Valid p) (w : Valid q) (c : Within p q) where
  abbrev pub joined : Network
  joined = network_of (joined_plan p q)

  some : 1 ≤ q.a
  some = w.counts.some_way

  first_way : (k : ℕ) → ℕ
  first_way k = get_or p.way (k / q.a) 0

  second_way : (k : ℕ) → ℕ
  second_way k = get_or q.way (k % q.a) 0

  -- way k + 1 in the one plan and in the other
  the-way : (k : ℕ) → k < p.a * q.a → way_of joined (suc k) ≡ bit_or (first_way k) (second_way k * 2 ^ p.n)
  unfolding way_of network_of first_way second_way
  the-way k h = way-is p q c k h

  first_fits : (k : ℕ) → k < p.a * q.a → first_way k < 2 ^ p.n
  unfolding first_way
  first_fits k h = v.sets (k / q.a) (first_of p.a q.a k some h)

  second_fits : (k : ℕ) → second_way k < 2 ^ q.n
  unfolding second_way
  second_fits k = w.sets (k % q.a) (second-of q.a k some)

  pub in-first : (k b : ℕ) → k < p.a * q.a → b < p.n → in_way joined (suc k) b ≡ in_way (network_of p) (suc (k / q.a)) b
  unfolding in_way way_of network_of first_way
  in-first k b h l = ap (λ (s : ℕ). member s b) (the-way k h) ∙ union-low p.n (first_way k) (second_way k) b l

  pub in-second : (k b : ℕ) → k < p.a * q.a → in_way joined (suc k) (p.n + b) ≡ in_way (network_of q) (suc (k % q.a)) b
  unfolding in_way way_of network_of second_way
  in-second k b h = ap (λ (s : ℕ). member s (p.n + b)) (the-way k h) ∙ union-high p.n (first_way k) (second_way k) (first_fits k h) b

  -- the pair of way i + 1 and way j + 1
  pub pair-first : (i j b : ℕ) → i < p.a → j < q.a → b < p.n → in_way joined (suc (j + i * q.a)) b ≡ in_way (network_of p) (suc i) b
  pair-first i j b hi hj l =
      in-first (j + i * q.a) b (place-lt p.a q.a i j hi hj) l ∙ ap (λ (k : ℕ). in_way (network_of p) (suc k) b) (place-first p.a q.a i j hi hj)

  pub pair-second : (i j b : ℕ) → i < p.a → j < q.a → in_way joined (suc (j + i * q.a)) (p.n + b) ≡ in_way (network_of q) (suc j) b
  pair-second i j b hi hj =
      in-second (j + i * q.a) b (place-lt p.a q.a i j hi hj) ∙ ap (λ (k : ℕ). in_way (network_of q) (suc k) b) (place-second p.a q.a i j hi hj)

  module _ (f : Clean-to 7 (network_of p)) (g : Clean-to 7 (network_of q)) where
    no-circle : (b : ℕ) → Parted p q b b → ⊥
    unfolding circular network_of
    no-circle b (first h l e) = clash (pre (network_of p) b b) e (f.four (omega arith) b h)
    no-circle b (second x y h l e) =
        let s : y ≡ x = omega arith in
        clash (pre (network_of q) x x) (rw s at e) (g.four (omega arith) x ((shape q w).pre-n x y e).0)

    closed : (k u b : ℕ) → k < p.a * q.a → in_way joined (suc k) b ≡ true → Parted p q u b → in_way joined (suc k) u ≡ true
    unfolding network_of
    closed k u b h i (first l m e) =
        in-first k u h l ∙ closed-way (network_of p) (shape p v) (f.five (omega arith)) (suc (k / q.a)) u b (first_of p.a q.a k some h) (sym (in-first k b h m) ∙ i) e
    closed k u b h i (second x y l m e) =
        rw l (in-second k x h
        ∙ closed-way (network_of q) (shape q w) (g.five (omega arith)) (suc (k % q.a)) x y (second-of q.a k some) (sym (in-second k y h) ∙ ap (λ (z : ℕ). in_way joined (suc k) z) (sym m) ∙ i) e)

    all_closed : (k : ℕ) → k < p.a * q.a → unclosed joined k ≡ false
    unfolding unclosed gap in_way pre
    all_closed k h = any-o (gap joined (suc k)) joined.n (λ b l e.
        clash (subset_of (before joined b) (way_of joined (suc k)))
        (subset-i (before joined b) (way_of joined (suc k)) (λ u m z. closed k u b h (and_l (in_way joined (suc k) b) _ e) (pre-parted p q v w c u b z)))
        (not-true (subset_of (before joined b) (way_of joined (suc k))) (and_r (in_way joined (suc k) b) _ e)))

    all-used : (b : ℕ) → b < p.n + q.n → unused joined b ≡ false
    unfolding network_of joined_plan
    all-used b h = elim (part p.n q.n b h) [
      | inl l ↦ (let t = some-use (network_of p) b (f.six (omega arith) b l) in
          use-some joined b (0 + t.0 * q.a) (place-lt p.a q.a t.0 0 t.1 some) (pair-first t.0 0 b t.1 some l ∙ t.2))
      | inr s ↦ (let t = some-use (network_of q) s.0 (g.six (omega arith) s.0 s.2) in
          let o = v.counts.some_way in
          rw s.1 (use-some joined (p.n + s.0) (t.0 + 0 * q.a) (place-lt p.a q.a 0 t.0 o t.1) (pair-second 0 t.0 s.0 o t.1 ∙ t.2)))
    ]

    same_first : (i k : ℕ) → i < p.a * q.a → k < p.a * q.a → way_of joined (suc i) ≡ way_of joined (suc k) → i / q.a ≡ k / q.a
    unfolding way_of network_of first_way
    same_first i k h l e =
        one_way (network_of p) (f.seven (omega arith)) (i / q.a) (k / q.a) (first_of p.a q.a i some h) (first_of p.a q.a k some l)
        (same_set p.n (first_way i) (first_way k) (first_fits i h) (first_fits k l) (λ b m.
        sym (union-low p.n (first_way i) (second_way i) b m)
        ∙ ap (λ (s : ℕ). member s b) (sym (the-way i h) ∙ e ∙ the-way k l)
        ∙ union-low p.n (first_way k) (second_way k) b m))

    same_second : (i k : ℕ) → i < p.a * q.a → k < p.a * q.a → way_of joined (suc i) ≡ way_of joined (suc k) → i % q.a ≡ k % q.a
    unfolding way_of network_of second_way
    same_second i k h l e =
        one_way (network_of q) (g.seven (omega arith)) (i % q.a) (k % q.a) (second-of q.a i some) (second-of q.a k some)
        (same_set q.n (second_way i) (second_way k) (second_fits i) (second_fits k) (λ b m.
        sym (union-high p.n (first_way i) (second_way i) (first_fits i h) b)
        ∙ ap (λ (s : ℕ). member s (p.n + b)) (sym (the-way i h) ∙ e ∙ the-way k l)
        ∙ union-high p.n (first_way k) (second_way k) (first_fits k l) b))

    all-distinct : (k : ℕ) → k < p.a * q.a → repeated joined k ≡ false
    unfolding repeated same_way
    all-distinct k h = any-o (same_way joined k) k (λ i l e.
        let z : way_of joined (suc i) ≡ way_of joined (suc k) = eqb-true _ _ e in
        let s : i ≡ k = same_place q.a i k (same_first i k (omega arith) h z) (same_second i k (omega arith) h z) in
        omega arith)

    pub clean-joined : Clean-to 7 (network_of (joined_plan p q))
    unfolding network_of joined_plan circular
    clean-joined = record {
      four = λ o b h. off (pre joined b b) (λ e. no-circle b (pre-parted p q v w c b b e));
      five = λ o. all_closed;
      six = λ o. all-used;
      seven = λ o. all-distinct;
      eight = λ o. absurd (omega arith);
    }
