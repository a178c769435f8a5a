-- What the plan and the closure of its links give of a network, as facts without bounds.
-- Assumes nothing.
use mathlib.Core.Path.{◌≡◌, refl, ap}
use mathlib.Core.Logic.{◌≢◌}
use mathlib.Core.Bool.{true, false}
use Prim.Native.Nat.{ℕ, zero, suc, ◌-◌, ◌≤◌, ◌<◌}
use native.Mathlib.Omega.{arith}
use lib.ListN.{get_or}
use Rattle.bounded.proofs.Bools.{clash}
use Rattle.sets.proofs.Members.{member-zero}
use Rattle.network.specs.Network.{way_of, in_way, pre}
use Rattle.network.specs.declared.Network.{Network}

-- what the plan and the closure of its links give: limits kept, and a transitive precedence among its bookings
pub record Shape (g : Network) : Type 0 where
  pub bookings : g.n ≤ 64
  pub ways : 1 ≤ g.a
  pub few : g.a ≤ 16
  pub some-matter : 1 ≤ g.limit
  pub pre-n : (u v : ℕ) → pre g u v ≡ true → (u < g.n) × (v < g.n)
  pub way-n : (w b : ℕ) → w ≤ g.a → in_way g w b ≡ true → b < g.n
  pub transitive : (u v w : ℕ) → pre g u v ≡ true → pre g v w ≡ true → pre g u w ≡ true

-- no booking is in way 0
pub no_way : (g : Network) (b : ℕ) → in_way g 0 b ≡ false
unfolding in_way way_of
no_way g b = member-zero b

pub some_way : (g : Network) (w b : ℕ) → in_way g w b ≡ true → w ≢ 0
some_way g w b e z = clash (in_way g 0 b) (rw z at e) (no_way g b)

-- way w is entry w - 1
pub way-entry : (g : Network) (w : ℕ) → w ≢ 0 → get_or g.way (w - 1) 0 ≡ way_of g w
unfolding way_of
way-entry g zero d = absurd (d refl)
way-entry g (suc k) d = ap (λ (i : ℕ). get_or g.way i 0) (omega arith)
