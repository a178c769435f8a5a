-- What the check finds out about a network, as facts without bounds.
-- Assumes nothing.
use mathlib.Core.Path.{◌≡◌}
use mathlib.Core.Logic.{◌≢◌, ◌⊎◌}
use mathlib.Core.Bool.{true, false}
use Prim.Native.Nat.{ℕ, ◌≤◌, ◌<◌}
use Rattle.network.specs.Network.{in_way, pre, firm, exposed}
use Rattle.network.specs.declared.Network.{Network}
use Rattle.network.proofs.Facts.{Shape}

-- s is a firm booking of way w other than x that x does not precede
pub record Stays (g : Network) (w x s : ℕ) : Type 0 where
  pub is-firm : firm g s ≡ true
  pub inside : in_way g w s ≡ true
  pub other : s ≢ x
  pub apart : pre g x s ≡ false

-- way j is later than way w and takes in what stays of it when x is lost
pub record Refuge (g : Network) (w x j : ℕ) : Type 0 where
  pub later : w < j
  pub listed : j ≤ g.a
  pub has : (s : ℕ) → Stays g w x s → in_way g j s ≡ true
  pub safe : (y : ℕ) → exposed g y ≡ true → in_way g j y ≡ true
      → (pre g y x ≡ true) ⊎ ((s : ℕ) → Stays g w x s → (y ≡ s) ⊎ (pre g y s ≡ true))

-- what the check adds: a strict order, closed ways, and a refuge for each exposed booking that leaves something firm behind
pub record Passes (g : Network) : Type 0 where
  pub shape : Shape g
  pub irreflexive : (b : ℕ) → pre g b b ≡ false
  pub closed : (w u v : ℕ) → w ≤ g.a → in_way g w v ≡ true → pre g u v ≡ true → in_way g w u ≡ true
  pub refuge : (w x s : ℕ) → w ≤ g.a → exposed g x ≡ true → in_way g w x ≡ true → Stays g w x s → (j : ℕ) × Refuge g w x j
