-- A number that falls with every request, return and accepted reply, but for those that q counts. At the start it is 4s.
-- Assumes nothing.
use mathlib.Core.Path.{◌≡◌, refl, sym, ap, ◌∙◌}
use mathlib.Core.Logic.{◌≢◌, inl, inr}
use mathlib.Core.Bool.{Bool, true, false, not, cond}
use Prim.Native.Nat.{ℕ, zero, suc, ◌+◌, ◌*◌, ◌≤◌, ◌<◌}
use native.Mathlib.Nat.{le_refl}
use native.Mathlib.Omega.{arith}
use lib.Dec.{ltb}
use borrow.Author.Tests.{lt-ltb, le-ltb}
use Rattle.bounded.specs.Bounded.{one, sum}
use Rattle.bounded.proofs.Bools.{split?, by_cond, and_r}
use Rattle.bounded.proofs.Sums.{sum-le, sum_one, sum-eq, sum_mono, sum-times, sum-zero, count-sum}
use Rattle.sets.specs.Sets.{member, size_of, some}
use Rattle.network.specs.Network.{way_of, in_way}
use Rattle.network.specs.declared.Network.{Network}
use Rattle.verdict.proofs.Facts.{Passes}
use Rattle.network.proofs.Facts.{no_way, some_way}
use Rattle.standing.specs.Standing.{returning}
use Rattle.standing.specs.Ways.{live_at}
use Rattle.run.specs.State.{code, standing, put, turn, start}
use Rattle.run.specs.Replies.{to_switch, settle}
use Rattle.run.specs.declared.Run.{Run}
use Rattle.run.proofs.Facts.{Core, lost-e}
use Rattle.run.proofs.Cases.{FirstLive, at, nowhere, first_live_lem}
use Rattle.guarantee.specs.Counted.{way_size, way_sizes}
use Rattle.guarantee.proofs.Change.{Fits, hit, miss}
use Rattle.guarantee.proofs.Switch.{later}
use Rattle.guarantee.proofs.Start.{all-free}

-- what a booking of a code may still cost, in the current way and outside it
abbrev pub weight : Bool → ℕ → ℕ
weight true zero = 4
weight true (suc zero) = 3
weight true (suc (suc zero)) = 2
weight true (suc (suc (suc c))) = 0
weight false zero = 0
weight false (suc zero) = 0
weight false (suc (suc zero)) = 2
weight false (suc (suc (suc zero))) = 0
weight false (suc (suc (suc (suc c)))) = 1

-- four times the size of way k + 1, if it comes after the first w
share : Network → ℕ → ℕ → ℕ
share g w k = cond (ltb k w) 0 (4 * way_size g k)

-- that of the ways after the first w
above : Network → ℕ → ℕ
above g w = sum (share g w) g.a

rest : Network → ℕ → ℕ
rest g zero = 0
rest g (suc j) = above g (suc j)

load : Network → Run → ℕ
load g r = sum (λ b. weight (in_way g r.way b) (code r b)) 64

pub potential : Network → Run → ℕ
potential g r = rest g r.way + load g r

share-on : (g : Network) (w k : ℕ) → w ≤ k → share g w k ≡ 4 * way_size g k
unfolding share
share-on g w k h = rw (le-ltb k w h)

share-off : (g : Network) (w k : ℕ) → k < w → share g w k ≡ 0
unfolding share
share-off g w k h = rw (lt-ltb k w h)

above_step : (g : Network) (j : ℕ) → j < g.a → above g j ≡ above g (suc j) + 4 * way_size g j
unfolding above
above_step g j h =
    let e = sum_one (share g j) (share g (suc j)) g.a j h (λ i d. elim (split? i j) [
      | inl l ↦ share-off g j i l ∙ sym (share-off g (suc j) i (omega arith))
      | inr l ↦ share-on g j i l ∙ sym (share-on g (suc j) i (omega arith))
    ]) in
    omega (arith, e, share-on g j j (le_refl j), share-off g (suc j) j (le_refl (suc j)))

above-anti : (g : Network) (v w : ℕ) → v ≤ w → above g w ≤ above g v
unfolding above
above-anti g v w h = sum_mono (share g w) (share g v) g.a (λ i l. elim (split? i w) [
  | inl d ↦ omega (arith, share-off g w i d)
  | inr d ↦ omega (arith, share-on g w i d, share-on g v i (omega arith))
])

above-all : (g : Network) → above g 0 ≡ 4 * way_sizes g
unfolding above way_sizes
above-all g = sum-eq (share g 0) (λ k. 4 * way_size g k) g.a (λ k h. share-on g 0 k (omega arith)) ∙ sum-times 4 (way_size g) g.a

-- the size of a way as a sum over the bookings
size-sum : (g : Network) (w : ℕ) → size_of (way_of g w) ≡ sum (λ b. one (in_way g w b)) 64
unfolding size_of in_way
size-sum g w = count-sum (member (way_of g w)) 64

weight-le : (i j : Bool) (c : ℕ) → c ≤ returning → c ≢ returning → weight j c ≤ weight i c + 4 * one j
weight-le i true zero h d = omega arith
weight-le i true (suc zero) h d = omega arith
weight-le i true (suc (suc zero)) h d = omega arith
weight-le i true (suc (suc (suc c))) h d = omega arith
weight-le i false zero h d = omega arith
weight-le i false (suc zero) h d = omega arith
weight-le true false (suc (suc zero)) h d = omega arith
weight-le false false (suc (suc zero)) h d = omega arith
weight-le i false (suc (suc (suc zero))) h d = omega arith
weight-le i false (suc (suc (suc (suc c)))) h d = absurd (omega arith)

-- the start
pub potential-start : (g : Network) → Passes g → potential g start ≡ 4 * way_sizes g
unfolding potential load start rest way_size
potential-start g ok =
    let e : load g start ≡ 4 * way_size g 0 =
    sum-eq _ (λ b. 4 * one (in_way g 1 b)) 64 (λ b h. rw (all-free b) (free (in_way g 1 b)))
    ∙ sum-times 4 (λ b. one (in_way g 1 b)) 64 ∙ ap (λ (n : ℕ). 4 * n) (sym (size-sum g 1)) in
    omega (arith, e, above_step g 0 ok.shape.ways, above-all g)
  where
    free : (t : Bool) → weight t 0 ≡ 4 * one t
    free true = refl
    free false = refl

-- a code changes
pub potential-put : (g : Network) (ok : Passes g) (r : Run) (c : Core g r) (x v : ℕ) (f : Fits g r x v)
    → potential g (put r x v) + weight (in_way g r.way x) (code r x) ≡ potential g r + weight (in_way g r.way x) v
unfolding potential load
potential-put g ok r c x v f =
    let e = sum_one (λ b. weight (in_way g r.way b) (code (put r x v) b)) (λ b. weight (in_way g r.way b) (code r b)) 64 x
    (omega (arith, f.booking, ok.shape.bookings)) (λ b d. rw (miss g ok r c x v f b d)) in
    let h = ap (weight (in_way g r.way x)) (hit g ok r c x v f x refl) in
    omega (arith, e, h)

-- the way changes to a later one, or to none
module _ (g : Network) (r : Run) (c : Core g r) (stopped : (b : ℕ) → code r b ≢ returning) where
  load-turn : (w : ℕ) → load g (turn r w) ≤ load g r + 4 * size_of (way_of g w)
  unfolding load code
  load-turn w =
      let e = sum-le (λ b. weight (in_way g w b) (code r b)) (λ b. weight (in_way g r.way b) (code r b)) (λ b. 4 * one (in_way g w b)) 64
      (λ b h. weight-le (in_way g r.way b) (in_way g w b) (code r b) (c.codes b) (stopped b)) in
      omega (arith, e, sum-times 4 (λ b. one (in_way g w b)) 64, size-sum g w)

  potential-turn : (k : ℕ) → k < g.a → r.way ≢ 0 → r.way ≤ k → potential g (turn r (suc k)) ≤ potential g r
  unfolding potential rest way_size
  potential-turn k h n l = go r.way refl
    where
      go : (w : ℕ) → r.way ≡ w → above g (suc k) + load g (turn r (suc k)) ≤ rest g w + load g r
      go zero e = absurd (n e)
      go (suc m) e = omega (arith, above_step g k h, above-anti g (suc m) k (omega arith), load-turn (suc k))

  potential-off : potential g (turn r 0) ≤ potential g r
  unfolding potential rest
  potential-off = omega (arith, load-turn 0, size-sum g 0, sum-zero (λ b. one (in_way g 0 b)) 64 (λ b h. rw (no_way g b)))

  -- what follows a Y or an N
  pub potential-settle : Passes g → potential g (settle g r) ≤ potential g r
  unfolding settle to_switch
  potential-settle ok =
      by_cond (λ (s : Run). potential g s ≤ potential g r)
      (λ e.
      let l = lost-e g r r.way (and_r (not (some (standing g r).requested)) _ e) in
      go (some_way g r.way l.0 l.1) (λ k a. later g ok r c l.0 l.2 l.1 k a) (first_live_lem g (standing g r)))
      (λ e. le_refl _)
    where
      go : r.way ≢ 0 → ((k : ℕ) → live_at g (standing g r) k ≡ true → r.way ≤ k) → {w : ℕ} → FirstLive g (standing g r) w → potential g (turn r w) ≤ potential g r
      go n late (at k h a b) = potential-turn k h n (late k a)
      go n late (nowhere b) = potential-off
