-- What the code of the check answers at each of its exits.
-- Assumes nothing.
use mathlib.Core.Path.{◌≡◌, sym, ap, ◌∙◌}
use mathlib.Core.Logic.{◌≢◌}
use mathlib.Core.Bool.{Bool, true, false, not, ◌&&◌, cond}
use mathlib.Core.List.{List}
use Prim.Native.Nat.{ℕ, suc, ◌+◌, ◌≤◌, ◌<◌}
use native.Mathlib.Nat.{le_refl}
use native.Mathlib.Numerals.{add-one}
use borrow.Author.Tests.{lt-ltb, le-ltb, ltb-true}
use lib.Dec.{ltb}
use lib.Bits.{bit_and}
use lib.ListN.{get_or}
use Rattle.bounded.specs.Bounded.{any, first, sought}
use Rattle.bounded.proofs.Bools.{clash, and_l, and_r, and-no-l, and-no-r, and-go, ◌&◌}
use Rattle.bounded.proofs.Tests.{any-i, any-o}
use Rattle.bounded.proofs.First.{first-least, first-none}
use Rattle.bounded.proofs.Loops.{SoFar, first-at, first-over}
use Rattle.sets.specs.Sets.{member, some, all_below}
use Rattle.sets.proofs.Facts.{both-e, both-i, empty-n, some-e, some-on, some-off}
use Rattle.sets.proofs.Whole.{cut_at, cut-e}
use Rattle.network.specs.declared.Network.{Network}
use Rattle.std.specs.Prelude.{Some, None, Ok, Err}
use Rattle.verdict.specs.declared.Fault.TheVariants.{Unclosed, Unused, Repeated, Stranding}
use Rattle.network.specs.Network.{way_of, in_way, firm, exposed}
use Rattle.verdict.specs.Check.{Verdict, unclosed, unused, repeated, stays, staying, later_refuge, stranding, strands, first_stranding}
use Rattle.bounded.proofs.Sought.{found, missed}

-- ---- 8: one way and one booking

module _ (g : Network) (k x s : ℕ) (q : s ≡ staying g (suc k) x) where
  pub nothing-stays : s ≡ 0 → false ≡ stranding g (suc k) x
  unfolding stranding
  nothing-stays z = sym (and-no-r (exposed g x && in_way g (suc k) x) _ (and-no-l (some (staying g (suc k) x)) _ (some-off s (staying g (suc k) x) q z)))

  pub sheltered : exposed g x ≡ true → in_way g (suc k) x ≡ true → s ≢ 0 → (r : Bool) → r ≡ any (later_refuge g (suc k) x) g.a → not r ≡ stranding g (suc k) x
  unfolding stranding
  sheltered e i d r p =
      ap not p
      ∙ and-go (some (staying g (suc k) x)) _ (some-on s (staying g (suc k) x) q d)
      ∙ and-go (exposed g x && in_way g (suc k) x) _ (e & i)

-- ---- 8: one way

-- only the exposed bookings of the way are tried, of those below n, which are b
module _ (g : Network) (ws : List ℕ) (k b : ℕ) (same : ws ≡ g.way) (eb : b ≡ all_below g.n) where
  pub tried-e : (x : ℕ) → member (bit_and (bit_and g.exposed (get_or ws k 0)) b) x ≡ true → (x < g.n) × (exposed g x ≡ true) × (in_way g (suc k) x ≡ true)
  unfolding exposed in_way way_of
  tried-e x e =
      let t = cut-e (bit_and g.exposed (get_or ws k 0)) b g.n eb x e in
      let u = both-e g.exposed (get_or ws k 0) x t.1 in
      (t.0, u.0, rw same at u.1)

  pub tried-i : (x : ℕ) → x < g.n → stranding g (suc k) x ≡ true → member (bit_and (bit_and g.exposed (get_or ws k 0)) b) x ≡ true
  unfolding stranding exposed in_way way_of
  tried-i x h e =
      let t = and_l (exposed g x && in_way g (suc k) x) _ e in
      cut_at (bit_and g.exposed (get_or ws k 0)) b g.n eb x h
      ∙ both-i g.exposed (get_or ws k 0) x (and_l (exposed g x) _ t) (rw same (and_r (exposed g x) _ t))

-- ---- 8: all of them

module _ (g : Network) where
  -- nothing firm: nothing stays
  pub nothing-firm : g.firm ≡ 0 → (k : ℕ) → strands g k ≡ false
  unfolding strands stranding staying stays firm
  nothing-firm z k =
      any-o (stranding g (suc k)) g.n (λ x l e.
      let t = some-e (stays g (suc k) x) g.n (and_l (some (staying g (suc k) x)) _ (and_r (exposed g x && in_way g (suc k) x) _ e)) in
      let f = and_l (firm g t.0) _ (and_l (firm g t.0 && in_way g (suc k) t.0) _ t.2) in
      clash (firm g t.0) f (empty-n g.firm t.0 z))

  pub none-strand : (k : ℕ) → SoFar (strands g) k → g.a ≤ k → Ok tt ≡ first_stranding g
  none-strand k s h = let e : first (strands g) g.a ≡ g.a = sym (first-over (strands g) g.a k s h) in rw (e, le-ltb g.a g.a (le_refl g.a))

  -- x is the lowest booking of way k + 1 that strands
  pub one-strands : (k x : ℕ) → Some x ≡ sought (stranding g (suc k)) g.n → SoFar (strands g) k → k < g.a → Err (Stranding (k + 1) x) ≡ first_stranding g
  unfolding strands
  one-strands k x e s h =
      let t = found (stranding g (suc k)) g.n x e in
      let l : first (stranding g (suc k)) g.n < g.n = ltb-true _ _ t.0 in
      let f : stranding g (suc k) (first (stranding g (suc k)) g.n) ≡ true = (first-least (stranding g (suc k)) g.n).at l in
      let p : k ≡ first (strands g) g.a = first-at (strands g) g.a k s h (any-i (stranding g (suc k)) g.n (first (stranding g (suc k)) g.n) l f) in
      rw (← p, lt-ltb k g.a h, ← t.1, add-one)

  pub no-strand : (k : ℕ) → None ≡ sought (stranding g (suc k)) g.n → strands g k ≡ false
  unfolding strands
  no-strand k e = any-o (stranding g (suc k)) g.n (λ i l f. clash (stranding g (suc k) i) f (first-none (stranding g (suc k)) g.n (missed (stranding g (suc k)) g.n e) i l))

-- ---- the verdict: what is left of the check from each refusal on

abbrev pub from-7 : Network → Verdict
from-7 g = let k = first (repeated g) g.a in cond (ltb k g.a) (Err (Repeated (suc k))) (first_stranding g)

abbrev pub from-6 : Network → Verdict
from-6 g = let b = first (unused g) g.n in cond (ltb b g.n) (Err (Unused b)) (from-7 g)

abbrev pub from-5 : Network → Verdict
from-5 g = let k = first (unclosed g) g.a in cond (ltb k g.a) (Err (Unclosed (suc k))) (from-6 g)

-- the first below n that passes f, if it is found, makes the verdict v; else it is w
module _ (f : ℕ → Bool) (n : ℕ) (v : ℕ → Verdict) (w : Verdict) where
  pub halted : (r : ℕ) → Some r ≡ sought f n → v r ≡ cond (ltb (first f n) n) (v (first f n)) w
  halted r e = let t = found f n r e in rw (t.0, t.1)

  pub passed : None ≡ sought f n → w ≡ cond (ltb (first f n) n) (v (first f n)) w
  passed e = rw (missed f n e)
