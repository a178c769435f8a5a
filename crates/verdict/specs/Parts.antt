-- What the loops of the check find on the way to their answers, in the rules' words.
-- Assumes nothing.
use Rattle.std.specs.Prelude.{◌≡◌, Bool, not, cond, ◌&&◌, List, ℕ, suc, ◌<◌, eqb, ltb, length, get_or, Option, Some, None}
use Rattle.std.specs.Int.Bits.{bit_and, bit_or}
use Rattle.bounded.specs.Bounded.{first}
use Rattle.sets.specs.Sets.{alone, member, gather, without, subset_of}
use Rattle.network.specs.Network.{before, pre, firm}
use Rattle.network.specs.declared.Network.{Network}
use Rattle.verdict.specs.declared.Spans.{Spans}

-- s is firm, and x neither equals nor precedes it: of these, S has those of the way
unfoldable pub may_stay : Network → ℕ → ℕ → Bool
may_stay g x s = firm g s && (not (eqb s x) && not (pre g x s))

unfoldable pub stay_at : Network → ℕ → ℕ
stay_at g x = gather (may_stay g x) g.n

-- for each booking below n, it and all that precede it
abbrev pub Upto : Network → List ℕ → Type 0
Upto g us = (s : ℕ) → s < g.n → get_or us s 0 ≡ bit_or (before g s) (alone s)

-- for each booking below n, what may stay when it is lost
abbrev pub Stay : Network → List ℕ → Type 0
Stay g ss = (x : ℕ) → x < g.n → get_or ss x 0 ≡ stay_at g x

-- the set of x, without b where x is in up
abbrev pub taken_at : List ℕ → ℕ → ℕ → ℕ → ℕ
taken_at ss up b x = cond (member up x) (without (get_or ss x 0) b) (get_or ss x 0)

-- b is taken out of the set of each member of up
pub record TakenFrom (old : List ℕ) (up b : ℕ) (new : List ℕ) : Type 0 where
  pub whole : length new ≡ 64
  pub taken : (x : ℕ) → x < 64 → get_or new x 0 ≡ taken_at old up b x

-- both, as they are found for all ways
pub record SpansOf (g : Network) (p : Spans) : Type 0 where
  pub upto : Upto g p.upto
  pub stay : Stay g p.stay

-- way k + 1 comes after way w, has all of s, and its exposed bookings, those of e, are in ok
unfoldable pub shelters : ℕ → ℕ → ℕ → List ℕ → ℕ → ℕ → Bool
shelters s ok e ws w k = ltb w (suc k) && (subset_of s (get_or ws k 0) && subset_of (bit_and e (get_or ws k 0)) ok)
