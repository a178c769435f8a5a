-- The entries of a joined plan.
-- Assumes nothing.
use mathlib.Core.Path.{◌≡◌, ◌∙◌}
use mathlib.Core.Logic.{◌⊎◌, inl, inr}
use mathlib.Core.List.{List}
use Prim.Native.Nat.{ℕ, ◌+◌, ◌*◌, ◌-◌, ◌/◌, ◌%◌, ◌^◌, ◌≤◌, ◌<◌}
use native.Mathlib.Omega.{arith}
use lib.Bits.{bit_or}
use lib.ListN.{get_or}
use Rattle.bounded.specs.Bounded.{table}
use Rattle.bounded.proofs.Bools.{split?}
use Rattle.bounded.proofs.Lists.{table_at}
use Rattle.plan.specs.declared.Plan.{Plan}
use Rattle.plan.specs.Limits.{ours}
use Rattle.plan.proofs.LimitLaws.{Counted}
use Rattle.join.specs.Join.{row_at, pair_at, joined_plan}
use Rattle.join.proofs.Rows.{row_first, row-second, pair-at}

-- the first k, or one of the l after them
pub part : (k l i : ℕ) → i < k + l → (i < k) ⊎ ((d : ℕ) × (i ≡ k + d) × (d < l))
part k l i h = elim (split? i k) [
  | inl e ↦ inl e
  | inr e ↦ inr (i - k, omega arith, omega arith)
]

module _ (size k l up : ℕ) (xs ys : List ℕ) (room : k + l ≤ size) where
  pub entry_first : (i : ℕ) → i < k → get_or (table (row_at k l up xs ys) size) i 0 ≡ get_or xs i 0
  entry_first i h = table_at (row_at k l up xs ys) size i (omega arith) ∙ row_first k l up xs ys i h

  pub entry-second : (i : ℕ) → i < l → get_or (table (row_at k l up xs ys) size) (k + i) 0 ≡ get_or ys i 0 + up
  entry-second i h = table_at (row_at k l up xs ys) size (k + i) (omega arith) ∙ row-second k l up xs ys i h

  -- what holds of the entries of both holds of each
  pub each-entry : (T : ℕ → Type 0) → ((i : ℕ) → i < k → T (get_or xs i 0)) → ((i : ℕ) → i < l → T (get_or ys i 0 + up))
      → (i : ℕ) → i < k + l → T (get_or (table (row_at k l up xs ys) size) i 0)
  each-entry T f g i h = elim (part k l i h) [
    | inl e ↦ rw (entry_first i e) (f i e)
    | inr t ↦ rw t.1 (rw (entry-second t.0 t.2) (g t.0 t.2))
  ]

-- the limits of the joined plan
abbrev pub Within : Plan → Plan → Type 0
Within p q = Counted ours (p.n + q.n) (p.m + q.m) (p.a * q.a)

module _ (p q : Plan) (c : Within p q) where
  pub from_first : (i : ℕ) → i < p.m → get_or (joined_plan p q).from i 0 ≡ get_or p.from i 0
  unfolding joined_plan ours
  from_first = entry_first 512 p.m q.m p.n p.from q.from c.links

  pub from_second : (i : ℕ) → i < q.m → get_or (joined_plan p q).from (p.m + i) 0 ≡ get_or q.from i 0 + p.n
  unfolding joined_plan ours
  from_second = entry-second 512 p.m q.m p.n p.from q.from c.links

  pub to-first : (i : ℕ) → i < p.m → get_or (joined_plan p q).to i 0 ≡ get_or p.to i 0
  unfolding joined_plan ours
  to-first = entry_first 512 p.m q.m p.n p.to q.to c.links

  pub to-second : (i : ℕ) → i < q.m → get_or (joined_plan p q).to (p.m + i) 0 ≡ get_or q.to i 0 + p.n
  unfolding joined_plan ours
  to-second = entry-second 512 p.m q.m p.n p.to q.to c.links

  pub way-is : (k : ℕ) → k < p.a * q.a → get_or (joined_plan p q).way k 0 ≡ bit_or (get_or p.way (k / q.a) 0) (get_or q.way (k % q.a) 0 * 2 ^ p.n)
  unfolding joined_plan ours
  way-is k h = table_at (pair_at p.a q.a p.n p.way q.way) 16 k (omega (arith, c.ways)) ∙ pair-at p.a q.a p.n p.way q.way k h
