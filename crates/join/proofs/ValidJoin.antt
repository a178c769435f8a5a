-- Two valid plans whose counts fit together join to a valid plan.
-- Assumes nothing.
use mathlib.Core.Path.{◌≡◌}
use mathlib.Core.Logic.{◌⊎◌, inl, inr}
use mathlib.Core.Bool.{true}
use Prim.Native.Nat.{ℕ, ◌+◌, ◌*◌, ◌-◌, ◌/◌, ◌%◌, ◌≤◌, ◌<◌}
use native.Mathlib.Omega.{arith}
use native.Mathlib.Nat.{add-zero}
use lib.Dec.{leb}
use lib.ListN.{get_or}
use Rattle.bounded.proofs.Bools.{split?, by_cond}
use Rattle.plan.specs.declared.Plan.{Plan}
use Rattle.plan.specs.Limits.{most_matters, most_desks, is_kind, ours}
use Rattle.plan.proofs.LimitLaws.{Limited, counted-e, counted-i}
use Rattle.plan.proofs.Valid.{Valid}
use Rattle.join.specs.Join.{smaller, joined_plan, joinable, Joins}
use Rattle.sets.proofs.Moved.{union-lt, union-size}
use Rattle.join.proofs.Pairs.{first_of, second-of}
use Rattle.join.proofs.Entries.{part, each-entry, Within, from_first, from_second, to-first, to-second, way-is}

pub within-limits : (p q : Plan) → joinable p q ≡ true → Within p q
unfolding joinable
within-limits p q e = counted-e ours (p.n + q.n) (p.m + q.m) (p.a * q.a) e

pub limits-within : (p q : Plan) → Within p q → joinable p q ≡ true
unfolding joinable
limits-within p q c = counted-i ours (p.n + q.n) (p.m + q.m) (p.a * q.a) c

smaller-in : (x y hi : ℕ) → (1 ≤ x) × (x ≤ hi) → (1 ≤ y) × (y ≤ hi) → (1 ≤ smaller x y) × (smaller x y ≤ hi)
unfolding smaller
smaller-in x y hi h k = by_cond (λ (z : ℕ). (1 ≤ z) × (z ≤ hi)) {t = leb x y} {a = x} {b = y} (λ e. h) (λ e. k)

module _ (p q : Plan) (v : Valid p) (w : Valid q) (c : Within p q) where
  counts : Limited (p.n + q.n) (p.m + q.m) (p.a * q.a) (smaller p.limit q.limit)
  unfolding ours
  counts =
      let l = smaller-in p.limit q.limit most_matters (v.counts.some-matter, v.counts.matters) (w.counts.some-matter, w.counts.matters) in
      record {
        some_booking = c.some_booking;
        bookings = c.bookings;
        links = c.links;
        some_way = c.some_way;
        ways = c.ways;
        some-matter = l.0;
        matters = l.1;
      }

  rises : (i : ℕ) → i + 1 < p.m + q.m → let j = joined_plan p q in
      (get_or j.from i 0 < get_or j.from (i + 1) 0) ⊎ ((get_or j.from i 0 ≡ get_or j.from (i + 1) 0) × (get_or j.to i 0 < get_or j.to (i + 1) 0))
  rises i h = elim (part p.m q.m (i + 1) h) [
    | inl e ↦ rw (from_first p q c i (omega arith), from_first p q c (i + 1) e, to-first p q c i (omega arith), to-first p q c (i + 1) e) (v.rising i e)
    | inr t ↦ rw t.1 (elim (split? i p.m) [
      | inl e ↦ inl (omega (arith, from_first p q c i e, from_second p q c t.0 t.2, v.starts i e, w.starts t.0 t.2))
      | inr e ↦ (let k : ℕ = i - p.m in
          let z : i ≡ p.m + k = omega arith in
          let y : t.0 ≡ k + 1 = omega (arith, t.1) in
          rw (z, y) (elim (w.rising k (omega (arith, t.2))) [
            | inl l ↦ inl (omega (arith, from_second p q c k (omega (arith, t.2)), from_second p q c (k + 1) (omega (arith, t.2))))
            | inr l ↦ inr (
              omega (arith, l.0, from_second p q c k (omega (arith, t.2)), from_second p q c (k + 1) (omega (arith, t.2))),
              omega (arith, l.1, to-second p q c k (omega (arith, t.2)), to-second p q c (k + 1) (omega (arith, t.2))),
            )
          ]))
    ])
  ]

  pub valid-joined : Valid (joined_plan p q)
  unfolding joined_plan ours
  valid-joined =
      let o = w.counts.some_way in
      record {
        counts = counts;
        kinds = each-entry 64 p.n q.n 0 p.kind q.kind c.bookings (λ x. is_kind x ≡ true) v.kinds (λ i h. rw (add-zero (get_or q.kind i 0)) (w.kinds i h));
        desks = each-entry 64 p.n q.n 0 p.desk q.desk c.bookings (λ x. (1 ≤ x) × (x ≤ most_desks)) v.desks (λ i h. rw (add-zero (get_or q.desk i 0)) (w.desks i h));
        starts = each-entry 512 p.m q.m p.n p.from q.from c.links (λ x. (1 ≤ x) × (x ≤ p.n + q.n)) (λ i h. omega (arith, v.starts i h)) (λ i h. omega (arith, w.starts i h));
        ends = each-entry 512 p.m q.m p.n p.to q.to c.links (λ x. (1 ≤ x) × (x ≤ p.n + q.n)) (λ i h. omega (arith, v.ends i h)) (λ i h. omega (arith, w.ends i h));
        rising = rises;
        sets = λ k h. rw (way-is p q c k h) (union-lt p.n (get_or p.way (k / q.a) 0) (get_or q.way (k % q.a) 0) q.n (v.sets (k / q.a) (first_of p.a q.a k o h)) (w.sets (k % q.a) (second-of q.a k o)));
        taken = λ k h. rw (way-is p q c k h) (omega (arith, union-size p.n (get_or p.way (k / q.a) 0) (get_or q.way (k % q.a) 0), v.taken (k / q.a) (first_of p.a q.a k o h)));
      }

-- what the join relies on
pub joins : (p q : Plan) → Valid q → Within p q → Joins p q
unfolding ours
joins p q w c = record {
  bookings = c.bookings;
  links = c.links;
  ways = c.ways;
  some_booking = w.counts.some_booking;
  some_way = w.counts.some_way;
  starts = λ i h. (w.starts i h).1;
  ends = λ i h. (w.ends i h).1;
  sets = w.sets;
}
