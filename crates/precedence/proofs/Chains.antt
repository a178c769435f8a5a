-- The closure holds exactly the chains: u is in the set at v of `closure_of d` where u precedes v by the links of d.
-- Assumes nothing.
use mathlib.Core.Path.{◌≡◌, ap, ◌∙◌}
use mathlib.Core.Logic.{⊎_elim, ◌↔◌}
use mathlib.Core.Bool.{true, false}
use mathlib.Core.List.{List}
use Prim.Native.Nat.{ℕ, zero, suc, ◌≤◌, ◌<◌}
use native.Mathlib.Nat.{not-suc-le-zero}
use native.Mathlib.Omega.{arith}
use Rattle.bounded.proofs.Bools.{clash, last?, split?}
use Rattle.bounded.proofs.Lists.{table-past}
use Rattle.sets.specs.Sets.{member}
use Rattle.sets.proofs.Members.{member-zero}
use Rattle.precedence.specs.Precedence.{in_set, Precedes, through_at, through_of, closure_to, closure_of}
use Rattle.precedence.specs.Precedence.Precedes.{link, chain}
use Rattle.precedence.proofs.Steps.{step-cases, step-old, step-new}

pub precedes-trans : {d : List ℕ} {u w v : ℕ} → Precedes d u w → Precedes d w v → Precedes d u v
precedes-trans (link h e) q = chain h e q
precedes-trans (chain h e p) q = chain h e (precedes-trans p q)

-- ---- every member is a chain

sound : (d : List ℕ) (k : ℕ) → k ≤ 64 → (u v : ℕ) → v < 64 → in_set (closure_to d k) u v ≡ true → Precedes d u v
unfolding closure_to
sound d zero hk u v hv e = link hv e
sound d (suc k) hk u v hv e =
    ⊎_elim (λ x. sound d k (omega arith) u v hv x)
    (λ x. precedes-trans (sound d k (omega arith) u k hk x.1) (sound d k (omega arith) k v hv x.0))
    (step-cases (closure_to d k) k u v hv e)

-- ---- every chain is a member

kept : (d : List ℕ) (k u v : ℕ) → v < 64 → in_set d u v ≡ true → in_set (closure_to d k) u v ≡ true
unfolding closure_to
kept d zero u v h e = e
kept d (suc k) u v h e = step-old (closure_to d k) k u v h (kept d k u v h e)

-- p holds the chains through each w below k
Closed : List ℕ → ℕ → Type 0
Closed p k = (w u v : ℕ) → w < k → w < 64 → v < 64 → in_set p u w ≡ true → in_set p w v ≡ true → in_set p u v ≡ true

more-closed : (p : List ℕ) (k : ℕ) → k < 64 → Closed p k → Closed (through_of p k) (suc k)
unfolding Closed
more-closed p k hk ih w u v hw h64 hv a b =
    ⊎_elim (λ (q : w ≡ k).
    let a' : in_set (through_of p k) u k ≡ true = rw q at a in
    let b' : in_set (through_of p k) k v ≡ true = rw q at b in
    step-new p k u v hv
    (⊎_elim (λ x. x) (λ x. x.0) (step-cases p k k v hv b'))
    (⊎_elim (λ x. x) (λ x. x.1) (step-cases p k u k hk a')))
    (λ (l : w < k).
    ⊎_elim (λ x.
    ⊎_elim (λ y. step-old p k u v hv (ih w u v l h64 hv x y))
    (λ y. step-new p k u v hv y.0 (ih w u k l h64 hk x y.1)) (step-cases p k w v hv b))
    (λ x.
    ⊎_elim (λ y. step-new p k u v hv (ih w k v l h64 hv x.0 y) x.1)
    (λ y. step-new p k u v hv y.0 x.1) (step-cases p k w v hv b)) (step-cases p k u w h64 a)) (last? hw)

closed : (d : List ℕ) (k : ℕ) → k ≤ 64 → Closed (closure_to d k) k
unfolding closure_to Closed
closed d zero hk = λ w u v hw h64 hv a b. absurd (not-suc-le-zero hw)
closed d (suc k) hk = more-closed (closure_to d k) k hk (closed d k (omega arith))

complete : (d : List ℕ) (u v : ℕ) → v < 64 → Precedes d u v → in_set (closure_to d 64) u v ≡ true
unfolding Closed
complete d u v hv (link h e) = kept d 64 u v hv e
complete d u v hv (chain {w = w} hw e p) = closed d 64 (omega arith) w u v hw hw hv (kept d 64 u w hw e) (complete d w v hv p)

-- ---- both: for all u and v, also past the 64 sets

ends : {d : List ℕ} {u v : ℕ} → Precedes d u v → v < 64
ends (link h e) = h
ends (chain h e p) = ends p

past-none : (d : List ℕ) (u v : ℕ) → 64 ≤ v → in_set (closure_of d) u v ≡ false
unfolding in_set closure_of closure_to through_of
past-none d u v h =
    ap (λ (x : ℕ). member x u) (table-past (through_at (closure_to d 63) 63) 64 v h) ∙ member-zero u

pub closure-chain : (d : List ℕ) (u v : ℕ) → in_set (closure_of d) u v ≡ true → Precedes d u v
unfolding closure_of
closure-chain d u v e =
    ⊎_elim (λ (h : v < 64). sound d 64 (omega arith) u v h e) (λ (h : 64 ≤ v). clash (in_set (closure_of d) u v) e (past-none d u v h)) (split? v 64)

pub chain-closure : (d : List ℕ) (u v : ℕ) → Precedes d u v → in_set (closure_of d) u v ≡ true
unfolding closure_of
chain-closure d u v p = complete d u v (ends p) p

-- u is in the set at v of the closure exactly where u precedes v by one link or a chain of links
pub closure-precedes : (d : List ℕ) (u v : ℕ) → (in_set (closure_of d) u v ≡ true) ↔ Precedes d u v
closure-precedes d u v = (closure-chain d u v, chain-closure d u v)

-- where links join only numbers below n, so do chains
pub precedes-below : (d : List ℕ) (n : ℕ) → ((u v : ℕ) → v < 64 → in_set d u v ≡ true → (u < n) × (v < n)) → {u v : ℕ} → Precedes d u v → (u < n) × (v < n)
precedes-below d n low (link h e) = low _ _ h e
precedes-below d n low (chain h e p) = ((low _ _ h e).0, (precedes-below d n low p).1)
