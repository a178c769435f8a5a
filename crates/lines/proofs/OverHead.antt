-- What a head is to a caller, by what it is to us (`head-within`).
-- Assumes nothing.
use mathlib.Core.Path.{◌≡◌, refl}
use mathlib.Core.Bool.{Bool, true, false, not, ◌&&◌, cond}
use mathlib.Core.List.{List}
use Prim.Native.Nat.{ℕ}
use Rattle.bounded.proofs.Bools.{clash}
use Rattle.plan.specs.Limits.{most_matters, within, ours, counted, limits}
use Rattle.plan.specs.declared.Limits.{Limits}
use Rattle.lines.specs.Head.{booking_count_in, link_count_in, way_count_in, limit_in, is_head, counts_of, head_of, over_head}
use Rattle.std.specs.Prelude.{Result, Ok, Err}
use Rattle.lines.specs.declared.Counts.{Counts}
use Rattle.lines.specs.declared.HeadFault.{HeadFault}
use Rattle.lines.specs.declared.HeadFault.TheVariants.{Malformed, OutOfLimits, Oversize}

-- the numbers at the columns of a line
abbrev counts_in : List ℕ → Counts
counts_in line = record { bookings = booking_count_in line; links = link_count_in line; ways = way_count_in line; limit = limit_in line }

-- a head by its tests: of its form, its counts within our limits, its limit of matters in range, its counts within those of the caller
abbrev tried : List ℕ → Bool → Bool → Bool → Bool → Result Counts HeadFault
tried line form our matters their = cond form (cond (our && matters) (cond their (Ok (counts_in line)) (Err Oversize)) (Err OutOfLimits)) (Err Malformed)

module _ (line : List ℕ) where
  abbrev taken : Limits → Bool
  taken most = counted most (booking_count_in line) (link_count_in line) (way_count_in line)

  -- it is over the caller's limits, or else what it is to us
  pub head-within : (most : Limits) → head_of most line ≡ cond (over_head most line) (Err Oversize) (head_of ours line)
  unfolding over_head head_of counts_of limits
  head-within most = go (is_head line) (taken ours) (within 1 (limit_in line) most_matters) (taken most)
    where
      go : (f o k t : Bool) → tried line f o k t ≡ cond (f && ((o && k) && not t)) (Err Oversize) (tried line f o k o)
      go true true true true = refl
      go true true true false = refl
      go true true false t = refl
      go true false k t = refl
      go false o k t = refl

  -- to us none is
  pub ours-takes : head_of ours line ≡ Err Oversize → ⊥
  unfolding head_of counts_of limits
  ours-takes = go (is_head line) (taken ours) (within 1 (limit_in line) most_matters)
    where
      go : (f o k : Bool) → tried line f o k o ≡ Err Oversize → ⊥
      go true true true e = clash true refl cc
      go true true false e = clash true refl cc
      go true false k e = clash true refl cc
      go false o k e = clash true refl cc
