-- What the functions of the join hand on.
-- Assumes nothing.
use mathlib.Core.Path.{◌≡◌}
use mathlib.Core.Logic.{inl, inr}
use borrow.Author.Tests.{le-leb, lt-leb}
use Rattle.bounded.proofs.Bools.{split?}
use mathlib.Core.List.{List}
use Prim.Native.Nat.{ℕ, min, ◌+◌, ◌*◌}
use native.Mathlib.Omega.{arith}
use native.Mathlib.Nat.{lt_of_lt_of_le}
use lib.Pow.{pow_mono}
use lib.ListN.{get_or}
use Rattle.bounded.specs.Bounded.{table}
use Rattle.plan.specs.declared.Plan.{Plan}
use Rattle.sets.proofs.Moved.{moved-lt}
use Rattle.join.specs.Join.{row_at, pair_at, smaller, joined_plan, Paired, Joins}

-- the smaller of two is std's least
smaller-min : (x y : ℕ) → min x y ≡ smaller x y
unfolding smaller
smaller-min x y = elim (split? y x) [
  | inl l ↦ rw (lt-leb x y l) (omega arith)
  | inr l ↦ rw (le-leb x y l) (omega arith)
]

module _ (p q : Plan) where
  pub ways-paired : Joins p q → Paired p.a q.a p.n q.way
  ways-paired j = record {
    few = j.ways;
    some = j.some_way;
    fits = omega (arith, j.bookings, j.some_booking);
    low = λ i h. lt_of_lt_of_le (moved-lt (get_or q.way i 0) p.n q.n (j.sets i h)) (pow_mono j.bookings);
  }

  pub joined_is : (limit : ℕ) (kind desk from to way : List ℕ) → limit ≡ min p.limit q.limit
      → kind ≡ table (row_at p.n q.n 0 p.kind q.kind) 64 → desk ≡ table (row_at p.n q.n 0 p.desk q.desk) 64
      → from ≡ table (row_at p.m q.m p.n p.from q.from) 512 → to ≡ table (row_at p.m q.m p.n p.to q.to) 512
      → way ≡ table (pair_at p.a q.a p.n p.way q.way) 16
      → ◌≡◌ {A = Plan} (record { n = p.n + q.n; m = p.m + q.m; a = p.a * q.a; limit = limit; kind = kind; desk = desk; from = from; to = to; way = way }) (joined_plan p q)
  unfolding joined_plan
  joined_is limit kind desk from to way l k d f t w = rw (l, smaller-min p.limit q.limit, k, d, f, t, w)
