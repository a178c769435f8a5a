-- One step of the closure, in members; a step through an empty set changes nothing.
-- Assumes nothing.
use mathlib.Core.Path.{◌≡◌, sym, ap, ◌∙◌}
use mathlib.Core.Logic.{◌⊎◌, inl, inr, ⊎_elim}
use mathlib.Core.Bool.{true, false, ◌&&◌, ◌||◌}
use mathlib.Core.List.{List}
use Prim.Native.Nat.{ℕ, ◌<◌}
use lib.Bits.{bit_or, or_zero_r}
use lib.ListN.{length, get_or}
use Rattle.bounded.proofs.Bools.{which, or_l, or_r, or_cases, or-false, and_l, and_r, ◌&◌}
use Rattle.bounded.proofs.Lists.{table-length, table_at, table_is}
use Rattle.sets.specs.Sets.{member}
use Rattle.sets.proofs.Members.{member-or}
use Rattle.precedence.specs.Precedence.{in_set, joined_of, through_at, through_of}

pub joined-yes : (s via k : ℕ) → member s k ≡ true → bit_or s via ≡ joined_of s via k
unfolding joined_of
joined-yes s via k e = rw e

pub joined-no : (s via k : ℕ) → member s k ≡ false → s ≡ joined_of s via k
unfolding joined_of
joined-no s via k e = rw e

joined-member : (u s via k : ℕ) → member (joined_of s via k) u ≡ member s u || (member s k && member via u)
joined-member u s via k =
    ⊎_elim (λ (e : member s k ≡ true). ap (λ (x : ℕ). member x u) (sym (joined-yes s via k e)) ∙ member-or s via u ∙ rw e)
    (λ (e : member s k ≡ false). ap (λ (x : ℕ). member x u) (sym (joined-no s via k e)) ∙ rw e (sym (or-false (member s u))))
    (which (member s k))

through-in : (p : List ℕ) (k u v : ℕ) → v < 64 → in_set (through_of p k) u v ≡ in_set p u v || (in_set p k v && in_set p u k)
unfolding in_set through_of through_at
through-in p k u v h = ap (λ (x : ℕ). member x u) (table_at (through_at p k) 64 v h) ∙ joined-member u (get_or p v 0) (get_or p k 0) k

-- a step changes nothing where nothing comes before k
joined-none : (s via k : ℕ) → via ≡ 0 → s ≡ joined_of s via k
joined-none s via k z =
    ⊎_elim (λ (e : member s k ≡ true). sym (sym (joined-yes s via k e) ∙ rw z (or_zero_r s))) (λ (e : member s k ≡ false). joined-no s via k e) (which (member s k))

pub through-none : (p : List ℕ) (k : ℕ) → length p ≡ 64 → get_or p k 0 ≡ 0 → p ≡ through_of p k
unfolding through_of through_at
through-none p k l z = table_is (through_at p k) 64 p l (λ v h. joined-none (get_or p v 0) (get_or p k 0) k z)

pub through-length : (p : List ℕ) (k : ℕ) → length (through_of p k) ≡ 64
unfolding through_of
through-length p k = table-length (through_at p k) 64

-- what a step has: u before v already, or both ends of a chain through k
abbrev pub Step : List ℕ → ℕ → ℕ → ℕ → Type 0
Step p k u v = (in_set p u v ≡ true) ⊎ ((in_set p k v ≡ true) × (in_set p u k ≡ true))

pub step-cases : (p : List ℕ) (k u v : ℕ) → v < 64 → in_set (through_of p k) u v ≡ true → Step p k u v
step-cases p k u v h e =
    ⊎_elim (λ x. inl x) (λ x. inr (and_l (in_set p k v) (in_set p u k) x, and_r (in_set p k v) (in_set p u k) x))
    (or_cases (in_set p u v) (in_set p k v && in_set p u k) (sym (through-in p k u v h) ∙ e))

pub step-old : (p : List ℕ) (k u v : ℕ) → v < 64 → in_set p u v ≡ true → in_set (through_of p k) u v ≡ true
step-old p k u v h e = through-in p k u v h ∙ or_l (in_set p u v) (in_set p k v && in_set p u k) e

pub step-new : (p : List ℕ) (k u v : ℕ) → v < 64 → in_set p k v ≡ true → in_set p u k ≡ true → in_set (through_of p k) u v ≡ true
step-new p k u v h a b =
    through-in p k u v h ∙ or_r (in_set p u v) (in_set p k v && in_set p u k) (a & b)
