-- Next order as the order by the sets, and what the way after a reply and a reply are where their tests led.
-- Assumes nothing.
use mathlib.Core.Path.{◌≡◌, refl, sym, ap}
use mathlib.Core.Logic.{◌≢◌, ◌⊎◌, inl, inr}
use Prim.Native.Nat.{ℕ, ◌≤◌, ◌<◌}
use native.Mathlib.Omega.{arith}
use lib.Dec.{eqb, ltb}
use borrow.Author.Tests.{ltb-true, lt-ltb, eq-eqb, ne_eqb}
use Rattle.bounded.specs.Bounded.{first}
use Rattle.bounded.proofs.Bools.{which}
use Rattle.sets.specs.Sets.{some}
use Rattle.sets.proofs.Facts.{some-on}
use Rattle.network.specs.Network.{way_of}
use Rattle.network.specs.declared.Network.{Network}
use Rattle.standing.specs.Standing.{free, requested, held, returning, code_is}
use Rattle.standing.specs.Ways.{lost_in}
use Rattle.standing.specs.declared.Standing.{Standing}
use Rattle.run.specs.State.{code, standing, here, put, turn}
use Rattle.run.specs.Orders.{to_return, to_request, ending, next, order_of, ordered}
use Rattle.run.specs.Replies.{Y, N, G, K, to_switch, settle, way_after, after_no, fits, reply}
use Rattle.run.specs.declared.Run.{Run}
use Rattle.run.specs.declared.Order.{Order}
use Rattle.run.specs.declared.Order.TheVariants.{Request, Return, Wait, Flown, Off}

-- ---- next order is the order by the sets

pub next-is : (g : Network) (r : Run)
    → next g r ≡ record { order = order_of g (standing g r) r.way; run = ordered r (order_of g (standing g r) r.way) }
unfolding next order_of ordered ending
next-is g r =
    let s = standing g r in
    elim (which (lost_in s (here g r))) [
      | inl e ↦ rw e
      | inr e ↦ rw e (elim (which (ltb (first (to_return g s (here g r)) 64) 64)) [
        | inl e ↦ rw e
        | inr e ↦ rw e (elim (which (some s.returning)) [
          | inl e ↦ rw e
          | inr e ↦ rw e (elim (which (ltb (first (to_request g s (here g r)) g.n) g.n)) [
            | inl e ↦ rw e
            | inr e ↦ rw e (elim (which (some s.requested)) [
              | inl e ↦ rw e
              | inr e ↦ rw e (elim (which (eqb r.way 0)) [ inl e ↦ rw e | inr e ↦ rw e ])
            ])
          ])
        ])
      ])
    ]

-- the index that an order names
index : Order → ℕ
index (Request x) = x
index (Return x) = x
index Wait = 0
index (Flown w) = 0
index Off = 0

module _ (g : Network) (few : g.n ≤ 64) (s : Standing) (w : ℕ) where
  small : index (order_of g s w) < 64
  unfolding order_of ending index
  small =
      let way : ℕ = way_of g w in
      let x : ℕ = first (to_return g s way) 64 in
      let y : ℕ = first (to_request g s way) g.n in
      elim (which (lost_in s way)) [
        | inl e ↦ rw e (omega arith)
        | inr e ↦ rw e (elim (which (ltb x 64)) [
          | inl e ↦ rw e (ltb-true x 64 e)
          | inr e ↦ rw e (elim (which (some s.returning)) [
            | inl e ↦ rw e (omega arith)
            | inr e ↦ rw e (elim (which (ltb y g.n)) [
              | inl e ↦ rw e (omega (arith, ltb-true y g.n e))
              | inr e ↦ rw e (elim (which (some s.requested)) [
                | inl e ↦ rw e (omega arith)
                | inr e ↦ rw e (elim (which (eqb w 0)) [ inl e ↦ rw e (omega arith) | inr e ↦ rw e (omega arith) ])
              ])
            ])
          ])
        ])
      ]

  -- the index is one of an array's
  pub request-small : (x : ℕ) → Request x ≡ order_of g s w → x < 64
  unfolding index
  request-small x e = rw (sym e) at small

  pub return-small : (x : ℕ) → Return x ≡ order_of g s w → x < 64
  unfolding index
  return-small x e = rw (sym e) at small

pub next-made : (g : Network) (r : Run) (s : Standing) → s ≡ standing g r → (o : Order) → o ≡ order_of g s r.way → record { order = o; run = ordered r o } ≡ next g r
next-made g r s es o eo = rw (eo, es) (sym (next-is g r))

-- an order that changes nothing
pub ordered-kept : (r : Run) (o : Order) → (o ≡ Wait) ⊎ ((w : ℕ) × (o ≡ Flown w)) ⊎ (o ≡ Off) → ordered r o ≡ r
unfolding ordered
ordered-kept r o e = elim e [
  | inl p ↦ rw p
  | inr q ↦ elim q [ inl p ↦ rw p.1 | inr p ↦ rw p ]
]

-- ---- what follows a Y or an N

module _ (g : Network) (s : Standing) (w : ℕ) where
  pub still-decides : s.requested ≢ 0 → w ≡ way_after g s w
  unfolding way_after to_switch
  still-decides d = rw (some-on s.requested _ refl d)

-- only the way changes
pub settle_is : (g : Network) (r : Run) → settle g r ≡ turn r (way_after g (standing g r) r.way)
unfolding settle way_after
settle_is g r = elim (which (to_switch (standing g r) (here g r))) [ inl e ↦ rw e | inr e ↦ rw e ]

pub settled : (g : Network) (r : Run) (s : Standing) → s ≡ standing g r → (v : ℕ) → v ≡ way_after g s r.way → turn r v ≡ settle g r
settled g r s es v ev = rw (ev, es) (sym (settle_is g r))

pub settle-codes : (g : Network) (r : Run) → (settle g r).code ≡ r.code
settle-codes g r = ap (λ (t : Run). t.code) (settle_is g r)

-- ---- a reply

module _ (g : Network) (r : Run) (l b : ℕ) where
  module _ (h : b < g.n) where
    module _ (m : code r b ≡ requested) where
      pub reply-y : l ≡ Y → (u : Run) → u ≡ settle g (put r b held) → fits u ≡ reply g r l b
      unfolding reply code_is code
      reply-y e u q = rw (lt-ltb b g.n h, eq-eqb (code r b) requested m, eq-eqb l Y e, q)

      pub reply-n : l ≡ N → (v : ℕ) (u : Run) → v ≡ after_no g b → u ≡ settle g (put r b v) → fits u ≡ reply g r l b
      unfolding reply code_is code
      reply-n e v u x q = rw (lt-ltb b g.n h, eq-eqb (code r b) requested m, ne_eqb l Y (λ z. omega arith), eq-eqb l N e, q, x)

    module _ (m : code r b ≡ returning) where
      pub reply-g : l ≡ G → (t : Run) → t ≡ put r b free → fits t ≡ reply g r l b
      unfolding reply code_is code
      reply-g e t p = rw (lt-ltb b g.n h, ne_eqb (code r b) requested (λ z. omega arith), eq-eqb (code r b) returning m, eq-eqb l G e, p)

      pub reply-k : l ≡ K → (t : Run) → t ≡ put r b held → fits t ≡ reply g r l b
      unfolding reply code_is code
      reply-k e t p = rw (lt-ltb b g.n h, ne_eqb (code r b) requested (λ z. omega arith), eq-eqb (code r b) returning m, ne_eqb l G (λ z. omega arith), eq-eqb l K e, p)
