-- With the limit 64 no order is passed over: next order is that of the rules without desks.
-- Assumes nothing.
use mathlib.Core.Path.{◌≡◌, ◌∙◌}
use mathlib.Core.Logic.{◌≢◌, inl, inr}
use mathlib.Core.Bool.{false}
use Prim.Native.Nat.{ℕ, ◌≤◌, ◌<◌}
use native.Mathlib.Omega.{arith}
use lib.Bits.{bit_and}
use Rattle.bounded.proofs.Bools.{which, and_l, and-no-l, and-true}
use Rattle.sets.specs.Sets.{member, without}
use Rattle.sets.proofs.Facts.{both-e, without-e}
use Rattle.desks.proofs.Laws.{wide}
use Rattle.network.specs.declared.Network.{Network}
use Rattle.standing.specs.Standing.{free, requested, held, returning, matters}
use Rattle.run.specs.State.{code, standing}
use Rattle.run.specs.Orders.{passed, may_return, to_return, may_request, to_request}
use Rattle.run.specs.declared.Run.{Run}
use Rattle.run.proofs.Facts.{coded-e, no-matter}

module _ (g : Network) (few : g.n ≤ 64) (most : 64 ≤ g.limit) (r : Run) (way b : ℕ) where
  none : b < g.n → code r b ≢ requested → code r b ≢ returning → passed g (standing g r) b ≡ false
  unfolding passed
  none h n o = wide g.limit g.desk (matters (standing g r)) most b (omega arith) (no-matter g r b n o) b

  pub all-returned : to_return g (standing g r) way b ≡ may_return g (standing g r) way b
  unfolding to_return may_return
  all-returned = elim (which (may_return g (standing g r) way b)) [
    | inl e ↦
        (let t = without-e (standing g r).held way b (and_l (member (without (standing g r).held way) b) _ e) in
        let c = coded-e g r held b t.1 in
        rw (none c.0 (omega (arith, c.1)) (omega (arith, c.1))) (and-true (may_return g (standing g r) way b)))
    | inr e ↦ and-no-l (may_return g (standing g r) way b) _ e ∙ rw e
  ]

  pub all-requested : to_request g (standing g r) way b ≡ may_request g (standing g r) way b
  unfolding to_request may_request
  all-requested = elim (which (may_request g (standing g r) way b)) [
    | inl e ↦
        (let t = both-e (standing g r).free way b (and_l (member (bit_and (standing g r).free way) b) _ e) in
        let c = coded-e g r free b t.0 in
        rw (none c.0 (omega (arith, c.1)) (omega (arith, c.1))) (and-true (may_request g (standing g r) way b)))
    | inr e ↦ and-no-l (may_request g (standing g r) way b) _ e ∙ rw e
  ]
