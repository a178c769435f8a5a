-- The sets of a standing as facts about single bookings: e takes a fact out, i brings one in, n is for none.
-- Assumes nothing.
use mathlib.Core.Path.{◌≡◌}
use mathlib.Core.Logic.{◌≢◌}
use mathlib.Core.Bool.{true, false}
use mathlib.Core.List.{List}
use Prim.Native.Nat.{ℕ, ◌<◌}
use lib.ListN.{get_or}
use borrow.Author.Tests.{eqb-true, eq-eqb}
use Rattle.bounded.proofs.Bools.{clash, and_l, and_r, ◌&◌}
use Rattle.bounded.proofs.Tests.{any-i, any-e}
use Rattle.sets.specs.Sets.{member, some}
use Rattle.sets.proofs.Facts.{gather-e, gather-i, some-e, some-n}
use Rattle.network.specs.Network.{pre}
use Rattle.network.specs.declared.Network.{Network}
use Rattle.standing.specs.Standing.{code_is, coded}
use Rattle.standing.specs.Ways.{supports, precedes_some, preceding}

-- ---- codes

module _ (codes : List ℕ) (c b : ℕ) where
  pub is-i : get_or codes b 0 ≡ c → code_is codes c b ≡ true
  unfolding code_is
  is-i e = eq-eqb _ _ e

  pub is-e : code_is codes c b ≡ true → get_or codes b 0 ≡ c
  unfolding code_is
  is-e e = eqb-true _ _ e

module _ (codes : List ℕ) (n c : ℕ) where
  pub coded-i : (b : ℕ) → b < n → get_or codes b 0 ≡ c → member (coded codes n c) b ≡ true
  unfolding coded
  coded-i b h e = gather-i (code_is codes c) n b h (is-i codes c b e)

  pub coded-e : (b : ℕ) → member (coded codes n c) b ≡ true → (b < n) × (get_or codes b 0 ≡ c)
  unfolding coded
  coded-e b e = let t = gather-e (code_is codes c) n b e in (t.0, is-e codes c b t.1)

  pub some-coded : some (coded codes n c) ≡ true → (b : ℕ) × (b < n) × (get_or codes b 0 ≡ c)
  unfolding coded
  some-coded e = let t = some-e (code_is codes c) n e in (t.0, t.1, is-e codes c t.0 t.2)

  pub none-coded : some (coded codes n c) ≡ false → (b : ℕ) → b < n → get_or codes b 0 ≢ c
  unfolding coded
  none-coded e b h z = clash (code_is codes c b) (is-i codes c b z) (some-n (code_is codes c) n b e h)

-- ---- predecessors

module _ (g : Network) (s : ℕ) where
  pub precedes-i : (b v : ℕ) → v < g.n → member s v ≡ true → pre g b v ≡ true → precedes_some g s b ≡ true
  unfolding precedes_some supports
  precedes-i b v h m p = any-i (supports g s b) g.n v h (m & p)

  pub precedes-e : (b : ℕ) → precedes_some g s b ≡ true → (v : ℕ) × (v < g.n) × (member s v ≡ true) × (pre g b v ≡ true)
  unfolding precedes_some supports
  precedes-e b e = let t = any-e (supports g s b) g.n e in (t.0, t.1, and_l (member s t.0) _ t.2, and_r (member s t.0) _ t.2)

  pub preceding-i : (b v : ℕ) → b < 64 → v < g.n → member s v ≡ true → pre g b v ≡ true → member (preceding g s) b ≡ true
  unfolding preceding
  preceding-i b v l h m p = gather-i (precedes_some g s) 64 b l (precedes-i b v h m p)

  pub preceding-e : (b : ℕ) → member (preceding g s) b ≡ true → (v : ℕ) × (v < g.n) × (member s v ≡ true) × (pre g b v ≡ true)
  unfolding preceding
  preceding-e b e = precedes-e b (gather-e (precedes_some g s) 64 b e).1
