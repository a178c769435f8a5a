-- A reply by the code of its booking: the code that it gives the booking, and the state after it.
-- Assumes nothing.
use mathlib.Core.Path.{◌≡◌}
use mathlib.Core.Logic.{◌≢◌, inl, inr}
use mathlib.Core.Bool.{◌&&◌, cond}
use Rattle.std.specs.Prelude.{Option, Some, None}
use Prim.Native.Nat.{ℕ, ◌≤◌, ◌<◌}
use native.Mathlib.Omega.{arith}
use lib.Dec.{eqb}
use lib.ListN.{get_or}
use borrow.Author.Tests.{eqb-true, lt-ltb}
use Rattle.bounded.proofs.Bools.{which, and_l, by_cond}
use Rattle.network.specs.Network.{exposed}
use Rattle.network.specs.declared.Network.{Network}
use Rattle.standing.specs.Standing.{free, requested, held, lost, returning, code_is}
use Rattle.run.specs.State.{code, put}
use Rattle.run.specs.Codes.{code_after}
use Rattle.run.specs.Replies.{Y, N, G, K, settle, after_no, fits, misfits, kept_of, reply, Replied}
use Rattle.run.specs.declared.Run.{Run}

-- the code that a reply gives its booking, and the state after it, with what is known of that code
pub data CodedAs (known : ℕ → Type 0) (g : Network) (r : Run) (b : ℕ) : Option ℕ → Replied → Type 0 where
  misfit : CodedAs known g r b None (misfits r)
  decided : (c : ℕ) → known c → code r b ≡ requested → CodedAs known g r b (Some c) (fits (settle g (put r b c)))
  given_back : (c : ℕ) → known c → code r b ≡ returning → CodedAs known g r b (Some c) (fits (put r b c))

-- it is no code past lost
abbrev pub Coded : Network → Run → ℕ → Option ℕ → Replied → Type 0
Coded = CodedAs (λ c. c ≤ lost)

pub by_code : (g : Network) (r : Run) (l b : ℕ) → b < g.n → Coded g r b (code_after (code r b) l (exposed g b)) (reply g r l b)
unfolding reply code_after after_no code code_is
by_code g r l b h =
    let c : ℕ = get_or r.code b 0 in
    rw (lt-ltb b g.n h) (elim (which (eqb c requested && eqb l Y)) [
      | inl e ↦ rw e (decided held (omega arith) (eqb-true c requested (and_l (eqb c requested) _ e)))
      | inr e ↦ rw e (elim (which (eqb c requested && eqb l N)) [
        | inl n ↦ rw n (decided (cond (exposed g b) lost free) (by_cond (λ (x : ℕ). x ≤ lost) {t = exposed g b} {a = lost} {b = free} (λ z. omega arith) (λ z. omega arith)) (eqb-true c requested (and_l (eqb c requested) _ n)))
        | inr n ↦ rw n (elim (which (eqb c returning && eqb l G)) [
          | inl f ↦ rw f (given_back free (omega arith) (eqb-true c returning (and_l (eqb c returning) _ f)))
          | inr f ↦ rw f (elim (which (eqb c returning && eqb l K)) [
            | inl k ↦ rw k (given_back held (omega arith) (eqb-true c returning (and_l (eqb c returning) _ k)))
            | inr k ↦ rw k misfit
          ])
        ])
      ])
    ])

-- one that does not fit, a return's and a request's, whatever is known of the code
module _ (g : Network) (r : Run) (b : ℕ) where
  pub by-misfit : {o : Option ℕ} {t : Replied} {known : ℕ → Type 0} → CodedAs known g r b o t → o ≡ None → t ≡ misfits r
  by-misfit misfit e = cc
  by-misfit (decided d s h) e = absurd (cc)
  by-misfit (given_back d s h) e = absurd (cc)

  pub by-return : {o : Option ℕ} {t : Replied} {known : ℕ → Type 0} → CodedAs known g r b o t → (c : ℕ) → o ≡ Some c → code r b ≢ requested → t ≡ fits (put r b c)
  by-return misfit c e q = absurd (cc)
  by-return (decided d s h) c e q = absurd (q h)
  by-return (given_back d s h) c e q = cc

  pub by-request : {o : Option ℕ} {t : Replied} {known : ℕ → Type 0} → CodedAs known g r b o t → (c : ℕ) → o ≡ Some c → code r b ≢ returning → t ≡ fits (settle g (put r b c))
  by-request misfit c e q = absurd (cc)
  by-request (decided d s h) c e q = let z : d ≡ c = cc in rw z
  by-request (given_back d s h) c e q = absurd (q h)

-- ---- the exits of a reply, where o is the code that it gives

module _ (g : Network) (r : Run) (l b : ℕ) (h : b < g.n) (o : Option ℕ) (eo : o ≡ code_after (code r b) l (exposed g b)) where
  coded : Coded g r b o (reply g r l b)
  coded = rw eo (by_code g r l b h)

  pub reply-none : o ≡ None → None ≡ kept_of (reply g r l b)
  reply-none z = rw (by-misfit g r b coded z)

  module _ (c : ℕ) (some : o ≡ Some c) (t : Run) where
    pub reply-decided : code r b ≡ requested → t ≡ settle g (put r b c) → Some t ≡ kept_of (reply g r l b)
    reply-decided q e = rw (by-request g r b coded c some (λ p. omega arith), e)

    pub reply-given : code r b ≢ requested → t ≡ put r b c → Some t ≡ kept_of (reply g r l b)
    reply-given q e = rw (by-return g r b coded c some q, e)
