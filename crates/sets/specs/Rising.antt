-- What one step of a walk over the members of a set gives.
-- Assumes nothing.
use Rattle.std.specs.Prelude.{◌≡◌, ◌≢◌, ℕ, ◌<◌, ◌^◌, Option, MatchOption}
use Rattle.bounded.specs.Bounded.{first}
use Rattle.sets.specs.Sets.{member, but_lowest}
use Rattle.sets.specs.declared.Rising.{Rising}

-- v is the lowest member of s, and t has the others
pub record LowestOut (s v t : ℕ) : Type 0 where
  pub some : s ≢ 0
  pub fits : s < 2 ^ 64
  pub lowest : v ≡ first (member s) 64
  pub below : v < 64
  pub others : t ≡ but_lowest s

-- the lowest member came, and the others are left, or None came, where none was left
abbrev pub GivesLowest : Rising → Option ℕ → Rising → Type 0
GivesLowest s r t = MatchOption r ((s.rest ≡ 0) × (t.rest ≡ 0)) (λ v. LowestOut s.rest v t.rest)
