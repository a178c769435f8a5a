-- The network of a plan: its ways, its kinds as two sets, its links closed to chains, and its desks as eight sets.
-- Assumes nothing.
use Rattle.std.specs.Prelude.{Bool, ◌&&◌, ◌||◌, List, ℕ, suc, ◌≤◌, ◌<◌, eqb, get_or}
use Rattle.bounded.specs.Bounded.{any, table}
use Rattle.sets.specs.Sets.{gather}
use Rattle.precedence.specs.Precedence.{closure_of}
use Rattle.plan.specs.Limits.{most_desks, C, P, R, D}
use Rattle.plan.specs.declared.Plan.{Plan}
use Rattle.network.specs.declared.Network.{Network}

-- a letter is one of two
unfoldable pub one_of : ℕ → ℕ → ℕ → Bool
one_of x y k = eqb k x || eqb k y

-- firm kinds are P and R
abbrev pub is_firm : ℕ → Bool
is_firm = one_of P R

-- exposed kinds are C and P
abbrev pub is_exposed : ℕ → Bool
is_exposed = one_of C P

-- returnable kinds are C and D
abbrev pub is_returnable : ℕ → Bool
is_returnable = one_of C D

-- repeating kinds are R and D: after a refusal they are requested again
abbrev pub is_repeating : ℕ → Bool
is_repeating = one_of R D

-- booking b is of such a kind
unfoldable pub of_kind : (ℕ → Bool) → List ℕ → ℕ → Bool
of_kind f ks b = f (get_or ks b 0)

-- link i says that booking u comes before booking v
unfoldable pub joins : List ℕ → List ℕ → ℕ → ℕ → ℕ → Bool
joins us vs v u i = eqb (get_or us i 0) (suc u) && eqb (get_or vs i 0) (suc v)

-- one of the first m links says so
unfoldable pub linked : List ℕ → List ℕ → ℕ → ℕ → ℕ → Bool
linked us vs m v u = any (joins us vs v u) m

-- the direct predecessors of v, and of each of the 64 bookings
unfoldable pub direct_at : List ℕ → List ℕ → ℕ → ℕ → ℕ
direct_at us vs m v = gather (linked us vs m v) 64

unfoldable pub direct_of : List ℕ → List ℕ → ℕ → List ℕ
direct_of us vs m = table (direct_at us vs m) 64

-- booking b is at desk d; desks go by index from 0 here, as bookings do
unfoldable pub at_desk : List ℕ → ℕ → ℕ → Bool
at_desk ds d b = eqb (get_or ds b 0) (suc d)

-- the bookings below n of desk d, and of each desk
unfoldable pub desk_at : List ℕ → ℕ → ℕ → ℕ
desk_at ds n d = gather (at_desk ds d) n

unfoldable pub desks_of : List ℕ → ℕ → List ℕ
desks_of ds n = table (desk_at ds n) most_desks

unfoldable pub network_of : Plan → Network
network_of p = record {
  n = p.n;
  a = p.a;
  way = p.way;
  before = closure_of (direct_of p.from p.to p.m);
  firm = gather (of_kind is_firm p.kind) p.n;
  exposed = gather (of_kind is_exposed p.kind) p.n;
  desk = desks_of p.desk p.n;
  limit = p.limit;
}

-- what the work on a plan's links relies on: the first m links join numbers from 1 to n
pub record Ends (n : ℕ) (us vs : List ℕ) (m : ℕ) : Type 0 where
  pub few : m ≤ 512
  pub from : (i : ℕ) → i < m → (1 ≤ get_or us i 0) × (get_or us i 0 ≤ n)
  pub to : (i : ℕ) → i < m → (1 ≤ get_or vs i 0) × (get_or vs i 0 ≤ n)

-- what the work on its desks relies on: each of the first n bookings has one
pub record Seated (n : ℕ) (ds : List ℕ) : Type 0 where
  pub desk : (b : ℕ) → b < n → (1 ≤ get_or ds b 0) × (get_or ds b 0 ≤ most_desks)
