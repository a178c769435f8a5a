-- Rules 2 and 4 as work on whole sets, and how the bookings stand after a Y or an N.
-- Assumes nothing.
use mathlib.Core.Path.{◌≡◌, refl, sym, ap, ap₂, ◌∙◌}
use mathlib.Core.Bool.{Bool, true, false, not, ◌&&◌, ◌||◌}
use Prim.Native.Nat.{ℕ, ◌^◌, ◌≤◌, ◌<◌}
use native.Mathlib.Nat.{le_refl}
use native.Mathlib.Omega.{arith}
use lib.ListN.{length, get_or}
use lib.Bits.{bit_and, bit_or}
use Rattle.bounded.specs.Bounded.{first, sought}
use Rattle.bounded.proofs.Bools.{and_l, and_r, and-no-l, and-true, and-nor}
use Rattle.bounded.proofs.First.{first-ext}
use Rattle.sets.specs.Sets.{member, without, subset_of, all_below}
use Rattle.sets.proofs.Members.{member-or}
use Rattle.sets.proofs.Facts.{empty-n, without-e, without-i}
use Rattle.sets.proofs.Whole.{cut-e, cut_at}
use Rattle.sets.proofs.Gather.{member-gather}
use Rattle.sets.proofs.Operations.{member-without}
use borrow.Author.Tests.{not-true}
use Rattle.desks.specs.Desks.{desk_full, full_of}
use Rattle.network.specs.Network.{before}
use Rattle.network.specs.declared.Network.{Network}
use Rattle.standing.specs.Ways.{precedes_some, preceding, ready}
use Rattle.standing.specs.declared.Standing.{Standing}
use Rattle.standing.specs.Standing.{matters, moved}
use Rattle.standing.proofs.Codes.{moved-is}
use Rattle.std.specs.Prelude.{None}
use Rattle.bounded.proofs.Sought.{sought-over}
use Rattle.run.specs.declared.Run.{Run}
use Rattle.run.specs.State.{standing, put}
use Rattle.run.specs.Orders.{passed, all_passed, may_return, to_return, may_request, to_request}

-- the members of the set of those that are passed over
full_at : (g : Network) (s : Standing) (full b : ℕ) → full ≡ all_passed g s → b < 64 → member full b ≡ passed g s b
unfolding full_of passed
full_at g s full b e h = rw e (member-gather (desk_full g.limit g.desk (matters s)) 64 b h)

pub return-none : (g : Network) (s : Standing) (way m : ℕ) → m ≡ without s.held way → m ≡ 0 → None ≡ sought (to_return g s way) 64
unfolding to_return may_return
return-none g s way m e z =
    let none : (i : ℕ) → member (without s.held way) i ≡ false = λ i. empty-n (without s.held way) i (sym e ∙ z) in
    sought-over (to_return g s way) 64 64 (λ i h. and-no-l _ _ (and-no-l _ _ (none i))) (le_refl 64)

pub return-is : (g : Network) (s : Standing) (way full t : ℕ) → full ≡ all_passed g s → t ≡ without (without s.held way) (bit_or (preceding g (bit_or s.held s.returning)) full)
    → first (member t) 64 ≡ first (to_return g s way) 64
unfolding to_return may_return preceding
return-is g s way full t ef e =
    let out = without s.held way in
    let kept = bit_or s.held s.returning in
    rw e (first-ext (member (without out (bit_or (preceding g kept) full))) (to_return g s way) 64
    (λ i l. member-without out (bit_or (preceding g kept) full) i l
    ∙ ap (λ (t : Bool). member out i && not t) (member-or (preceding g kept) full i)
    ∙ ap₂ (λ (a b : Bool). member out i && not (a || b)) (member-gather (precedes_some g kept) 64 i l) (full_at g s full i ef l)
    ∙ and-nor (member out i) (precedes_some g kept i) (passed g s i)))

-- ---- rule 4, by the members of a set alone

-- the free bookings of the way are looked at, of those below n, but for those at a full desk
module _ (g : Network) (few : g.n ≤ 64) (s : Standing) (way full t : ℕ) (ef : full ≡ all_passed g s)
    (et : t ≡ without (bit_and (bit_and s.free way) (all_below g.n)) full) where
  pub looked-e : (x : ℕ) → member t x ≡ true → (x < g.n) × (subset_of (get_or g.before x 0) s.held ≡ to_request g s way x)
  unfolding to_request may_request ready before
  looked-e x e =
      let o = without-e (bit_and (bit_and s.free way) (all_below g.n)) full x (rw et at e) in
      let t = cut-e (bit_and s.free way) (all_below g.n) g.n refl x o.1 in
      let h : passed g s x ≡ false = sym (full_at g s full x ef o.0) ∙ o.2 in
      (t.0, rw (h, t.1) (sym (and-true (subset_of (get_or g.before x 0) s.held))))

  pub looked-i : (x : ℕ) → x < g.n → to_request g s way x ≡ true → member t x ≡ true
  unfolding to_request may_request
  looked-i x h e =
      let may = may_request g s way x in
      rw et (without-i (bit_and (bit_and s.free way) (all_below g.n)) full x (omega arith)
      (cut_at (bit_and s.free way) (all_below g.n) g.n refl x h ∙ and_l (member (bit_and s.free way) x) _ (and_l may _ e))
      (full_at g s full x ef (omega arith) ∙ not-true _ (and_r may _ e)))

-- ---- one booking gets another code

pub moved-stands : (g : Network) (r t : Run) (s m : Standing) (b c x : ℕ) → g.n ≤ 64 → b < g.n → length r.code ≡ 64 → s ≡ standing g r
    → x ≡ 2 ^ b → m ≡ moved s x c → t ≡ put r b c → m ≡ standing g t
moved-stands g r t s m b c x h l k es ex em et = rw (et, em, ex) (moved-is r.code g.n b c s h l k es)
