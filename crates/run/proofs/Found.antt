-- What the members of a set give first.
-- Assumes nothing.
use mathlib.Core.Path.{◌≡◌}
use Prim.Native.Nat.{ℕ}
use native.Mathlib.Nat.{le_refl}
use Rattle.std.specs.Prelude.{Option, Some, None}
use Rattle.bounded.specs.Bounded.{sought}
use Rattle.sets.specs.Sets.{member}
use Rattle.sets.specs.Rising.{GivesLowest}
use Rattle.sets.specs.declared.Rising.{Rising}
use Rattle.sets.proofs.Facts.{empty-n}
use Rattle.bounded.proofs.Sought.{sought-is, sought-over}

pub found-next : (s t : Rising) (r : Option ℕ) → GivesLowest s r t → r ≡ sought (member s.rest) 64
found-next s t None e = sought-over (member s.rest) 64 64 (λ i h. empty-n s.rest i e.0) (le_refl 64)
found-next s t (Some v) e = sought-is (member s.rest) 64 v e.lowest e.below
