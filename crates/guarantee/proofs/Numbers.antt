-- Replies by the booking's number.
-- Assumes nothing.
use mathlib.Core.Logic.{inl, inr}
use mathlib.Core.Path.{◌≡◌, refl, sym, ap, ◌∙◌}
use mathlib.Core.Bool.{true, false}
use Prim.Native.Nat.{ℕ, zero, suc, ◌-◌, ◌≤◌, ◌<◌}
use native.Mathlib.Omega.{arith}
use lib.Dec.{leb}
use borrow.Author.Tests.{leb-true, le-ltb}
use Rattle.bounded.proofs.Bools.{which, clash, split?}
use Rattle.network.specs.declared.Network.{Network}
use Rattle.run.specs.declared.Run.{Run}
use Rattle.run.specs.Replies.{reply, misfits, Replied}
use Rattle.guarantee.specs.Answers.{place9}
use Rattle.guarantee.specs.Machine.{reply_to}

pub small-9 : (b : ℕ) → place9 b ≤ 64
unfolding place9
small-9 b = elim (which (leb b 64)) [ inl e ↦ rw e (leb-true b 64 e) | inr e ↦ rw e (omega arith) ]

pub reply-none : (g : Network) (r : Run) (l b : ℕ) → b ≡ 0 → ◌≡◌ {A = Replied} (misfits r) (reply_to g r l b)
unfolding reply_to
reply-none g r l b e = rw e refl

pub reply-some : (g : Network) (r : Run) (l b : ℕ) (t : Replied) → (b ≡ 0 → ⊥) → t ≡ reply g r l (b - 1) → t ≡ reply_to g r l b
unfolding reply_to
reply-some g r l zero t h e = absurd (h refl)
reply-some g r l (suc b) t h e = let q : suc b - 1 ≡ b = omega arith in e ∙ ap (λ (x : ℕ). reply g r l x) q

-- a reply that is taken names a booking of the plan
pub taken-small : (g : Network) (r : Run) (l b : ℕ) (t : Replied) → g.n ≤ 64 → t ≡ reply_to g r l b → t.taken ≡ true → b < 65536
unfolding reply_to reply
taken-small g r l zero t h e k = omega arith
taken-small g r l (suc b) t h e k = elim (split? b g.n) [
  | inl p ↦ omega arith
  | inr p ↦ clash false (sym (ap (λ (x : Replied). x.taken) (rw (le-ltb b g.n p) at e)) ∙ k) refl
]
