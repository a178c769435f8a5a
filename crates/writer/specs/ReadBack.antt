-- When a record q is p as it is read back from p's sheet: equal in its counts and in every counted entry, and 0 past them.
-- Assumes nothing.
use Rattle.std.specs.Prelude.{ℕ, ◌≤◌, ◌<◌, ◌≡◌, List, get_or}
use Rattle.plan.specs.declared.Plan.{Plan}

-- the first n entries of ys are those of xs, and the others are 0
pub record Copied (n : ℕ) (xs ys : List ℕ) : Type 0 where
  pub counted : (i : ℕ) → i < n → get_or ys i 0 ≡ get_or xs i 0
  pub past : (i : ℕ) → n ≤ i → get_or ys i 0 ≡ 0

pub record ReadBack (p q : Plan) : Type 0 where
  pub bookings : q.n ≡ p.n
  pub links : q.m ≡ p.m
  pub ways : q.a ≡ p.a
  pub limit : q.limit ≡ p.limit
  pub kinds : Copied p.n p.kind q.kind
  pub desks : Copied p.n p.desk q.desk
  pub starts : Copied p.m p.from q.from
  pub ends : Copied p.m p.to q.to
  pub sets : Copied p.a p.way q.way
