-- The tests of the check over the sets that its loops look at, that they are the tests of the network, and the turns of the loops that fill or thin out a set.
-- Here ps has the predecessors of each booking, ws the ways, us each booking with its predecessors.
-- Assumes nothing.
use mathlib.Core.Path.{◌≡◌, refl, sym, ap, ap₂, ◌∙◌}
use mathlib.Core.Logic.{◌≢◌, inl, inr}
use mathlib.Core.Bool.{Bool, true, false, not, cond, ◌&&◌, ◌||◌}
use mathlib.Core.List.{List}
use Prim.Native.Nat.{ℕ, suc, ◌+◌, ◌^◌, ◌≤◌, ◌<◌, suc-le-suc}
use native.Mathlib.Nat.{le_refl, lt_of_le_of_lt}
use native.Mathlib.Omega.{arith}
use borrow.Author.Tests.{eq-eqb, ne_eqb, lt-ltb, le-ltb}
use lib.Dec.{eqb, ltb}
use lib.Bits.{bit_and, bit_or, and_le_l, or_lt}
use lib.ListN.{length, set, get_or, length-set}
use lib.Seq.{get_or-set_same, get_or-set_other}
use Rattle.bounded.specs.Bounded.{imp, any, all, first}
use Rattle.bounded.proofs.Bools.{which, same?, split?, cond-on, cond-off, and_l, and-no-l, and-no-r, and-go, and-true, and-mid, and_assoc, or_swap, neither, ◌&◌}
use Rattle.bounded.proofs.Tests.{any-ext, all-ext}
use Rattle.sets.specs.Sets.{member, gather, kept, subset_of, always, all_below, without, but_lowest}
use Rattle.sets.proofs.Members.{member-and, member-or, member-power}
use Rattle.sets.proofs.Gather.{gather-is, gather-lt, member-gather}
use Rattle.sets.proofs.Whole.{gather_ext, gather-and, gather-without, cut-lt, cut_at}
use Rattle.sets.proofs.Facts.{empty-n}
use Rattle.sets.proofs.Walk.{lowest-in, but-lowest-fits, but-lowest-at, every, every-zero, every-lowest, every-gather}
use Rattle.network.specs.declared.Network.{Network}
use Rattle.network.specs.Network.{way_of, in_way, before, pre, firm, exposed}
use Rattle.verdict.specs.Check.{gap, unclosed, stays, staying, leads_to, settled_by, safe, refuge, later_refuge}
use Rattle.verdict.specs.Parts.{may_stay, stay_at, taken_at, TakenFrom, Upto, Stay, shelters}

-- ---- 5

unfoldable pub gap_in : List ℕ → ℕ → ℕ → Bool
gap_in ps s v = member s v && not (subset_of (get_or ps v 0) s)

-- only members of the way are looked at, of those below n, which are b
module _ (ps : List ℕ) (s : ℕ) where
  pub gap-inside : (b n : ℕ) → b ≡ all_below n → (v : ℕ) → v < n → gap_in ps s v ≡ true → member (bit_and s b) v ≡ true
  unfolding gap_in
  gap-inside b n eb v h e = cut_at s b n eb v h ∙ and_l (member s v) _ e

  pub gap-on : (v : ℕ) → member s v ≡ true → (r : Bool) → r ≡ subset_of (get_or ps v 0) s → not r ≡ gap_in ps s v
  unfolding gap_in
  gap-on v m r e = ap not e ∙ and-go (member s v) _ m

pub unclosed-is : (g : Network) (ws ps : List ℕ) (k : ℕ) → ws ≡ g.way → ps ≡ g.before → any (gap_in ps (get_or ws k 0)) g.n ≡ unclosed g k
unfolding gap_in unclosed gap in_way way_of before
unclosed-is g ws ps k ew ep = rw (ew, ep)

-- ---- 8: what may stay when x is lost

-- i is in the set of x when only those below s have been taken out where they may not stay
unfoldable pub left_at : Network → ℕ → ℕ → ℕ → Bool
left_at g s x i = cond (ltb i s) (may_stay g x i) (firm g i)

abbrev pub Thinned : Network → ℕ → List ℕ → Type 0
Thinned g s ss = (x : ℕ) → x < g.n → get_or ss x 0 ≡ gather (left_at g s x) g.n

module _ (g : Network) where
  left_below : (i x s : ℕ) → i < s → left_at g s x i ≡ may_stay g x i
  unfolding left_at
  left_below i x s h = rw (lt-ltb i s h)

  left-later : (i x s : ℕ) → s ≤ i → left_at g s x i ≡ firm g i
  unfolding left_at
  left-later i x s h = rw (le-ltb i s h)

  left_other : (s x i : ℕ) → i ≢ s → left_at g s x i ≡ left_at g (s + 1) x i
  left_other s x i d = elim (split? i s) [
    | inl h ↦ left_below i x s h ∙ sym (left_below i x (s + 1) (omega arith))
    | inr h ↦ left-later i x s h ∙ sym (left-later i x (s + 1) (omega arith))
  ]

  -- s stays in the set of x, or was not in it
  left-on : (s x : ℕ) → firm g s ≡ may_stay g x s → gather (left_at g s x) g.n ≡ gather (left_at g (s + 1) x) g.n
  left-on s x e = gather_ext (left_at g s x) (left_at g (s + 1) x) g.n (λ i l. elim (same? i s) [
    | inl p ↦ rw p (left-later s x s (le_refl s) ∙ e ∙ sym (left_below s x (s + 1) (omega arith)))
    | inr q ↦ left_other s x i q
  ])

  -- s may not stay, and is taken out
  left-off : (s x : ℕ) → g.n ≤ 64 → may_stay g x s ≡ false → without (gather (left_at g s x) g.n) (2 ^ s) ≡ gather (left_at g (s + 1) x) g.n
  left-off s x n e =
      gather-without (left_at g s x) g.n (2 ^ s) n
      ∙ gather_ext _ (left_at g (s + 1) x) g.n (λ i l. elim (same? i s) [
        | inl p ↦ and-no-r (left_at g s x i) _ (ap not (member-power s i ∙ eq-eqb i s p)) ∙ rw p (sym (left_below s x (s + 1) (omega arith) ∙ e))
        | inr q ↦ ap (λ (c : Bool). left_at g s x i && not c) (member-power s i ∙ ne_eqb i s q) ∙ and-true (left_at g s x i) ∙ left_other s x i q
      ])

  -- all firm bookings, before any is taken out
  pub stay_none : (ss : List ℕ) → ((x : ℕ) → x < g.n → get_or ss x 0 ≡ bit_and g.firm (all_below g.n)) → Thinned g 0 ss
  unfolding firm
  stay_none ss e x h =
      e x h
      ∙ gather-is (left_at g 0 x) g.n _ (cut-lt g.firm (all_below g.n) g.n refl)
      (λ i l. cut_at g.firm (all_below g.n) g.n refl i l ∙ sym (left-later i x 0 (omega arith)))

  upto-member : (s y : ℕ) → member (bit_or (before g s) (2 ^ s)) y ≡ pre g y s || eqb y s
  unfolding pre
  upto-member s y = member-or (before g s) (2 ^ s) y ∙ ap (λ (b : Bool). member (before g s) y || b) (member-power s y)

  upto-clear : (s x : ℕ) → not (member (bit_or (before g s) (2 ^ s)) x) ≡ not (eqb s x) && not (pre g x s)
  upto-clear s x = ap not (upto-member s x) ∙ neither s x (pre g x s)

  -- booking s is taken out of the sets of those that it may not stay for
  pub stay-turn : (old new : List ℕ) (s up b : ℕ) → g.n ≤ 64 → up ≡ bit_or (before g s) (2 ^ s) → b ≡ 2 ^ s → TakenFrom old up b new → member g.firm s ≡ true
      → Thinned g s old → Thinned g (s + 1) new
  unfolding may_stay firm
  stay-turn old new s up b n eu eb t f inv x h =
      t.taken x (omega arith)
      ∙ rw (inv x h, eu, eb) (elim (which (member (bit_or (before g s) (2 ^ s)) x)) [
        | inl e ↦ rw e (left-off s x n (and-no-r (member g.firm s) _ (sym (upto-clear s x) ∙ ap not e)))
        | inr e ↦ rw e (left-on s x (f ∙ sym (f & (sym (upto-clear s x) ∙ ap not e))))
      ])

  -- one that is not firm is in none of them
  pub stay-same : (old : List ℕ) (s : ℕ) → member g.firm s ≡ false → Thinned g s old → Thinned g (s + 1) old
  unfolding may_stay firm
  stay-same old s f inv x h = inv x h ∙ left-on s x (f ∙ sym (and-no-l (member g.firm s) _ f))

  pub stay-done : (ss : List ℕ) → Thinned g g.n ss → Stay g ss
  unfolding stay_at
  stay-done ss inv x h = inv x h ∙ gather_ext (left_at g g.n x) (may_stay g x) g.n (λ i l. left_below i x g.n l)

  pub staying-is : (ws : List ℕ) (k x t : ℕ) → ws ≡ g.way → t ≡ stay_at g x → bit_and t (get_or ws k 0) ≡ staying g (suc k) x
  unfolding staying stay_at may_stay stays in_way way_of
  staying-is ws k x t ew e =
      rw (ew, e)
      (gather-and (may_stay g x) g.n (get_or g.way k 0)
      ∙ gather_ext _ (stays g (suc k) x) g.n (λ s l. and-mid (firm g s) (not (eqb s x) && not (pre g x s)) (member (get_or g.way k 0) s)))

-- a walk over up that has rest left: once b is taken out for the members of rest, it is for those of up
pub record Taking (old : List ℕ) (up b rest : ℕ) (ss : List ℕ) : Type 0 where
  pub rest-fits : rest < 2 ^ 64
  pub whole : length ss ≡ 64
  pub so_far : (x : ℕ) → x < 64 → taken_at ss rest b x ≡ taken_at old up b x

module _ (old : List ℕ) (up b : ℕ) where
  pub take_none : up < 2 ^ 64 → length old ≡ 64 → Taking old up b up old
  take_none h w = record { rest-fits = h; whole = w; so_far = λ x l. refl }

  -- m is the member taken out, rest' and t what the code left
  pub take_more : (ss : List ℕ) (rest m rest' t : ℕ) → rest ≢ 0 → m ≡ first (member rest) 64 → rest' ≡ but_lowest rest → t ≡ without (get_or ss m 0) b
      → Taking old up b rest ss → Taking old up b rest' (set ss m t)
  take_more ss rest m rest' t d em er et k = record {
    rest-fits = rw er (but-lowest-fits rest);
    whole = simp length-set k.whole;
    so_far = λ x h. elim (same? x m) [
      | inl p ↦
          rw p
          (sym (cond-off (member rest' m) _ _ (rw er (but-lowest-at rest m (omega arith) ∙ and-no-r (member rest m) _ (ap not (eq-eqb m (first (member rest) 64) em)))))
          ∙ get_or-set_same ss m t 0 (omega (arith, k.whole))
          ∙ et
          ∙ cond-on (member rest m) _ _ (rw em (lowest-in rest k.rest-fits d))
          ∙ k.so_far m (omega arith))
      | inr q ↦
          let e : member rest' x ≡ member rest x =
          rw er (but-lowest-at rest x h ∙ ap (λ (c : Bool). member rest x && not c) (ne_eqb x (first (member rest) 64) (λ w. q (w ∙ sym em))) ∙ and-true (member rest x)) in
          rw (e, get_or-set_other ss m x t 0 q) (k.so_far x h)
    ];
  }

  pub take_all : (ss : List ℕ) (rest : ℕ) → rest ≡ 0 → Taking old up b rest ss → TakenFrom old up b ss
  take_all ss rest z k = record { whole = k.whole; taken = λ x h. cond-off (member rest x) _ _ (empty-n rest x z) ∙ k.so_far x h }

-- ---- 8: what is settled

-- y equals or precedes i
unfoldable pub leads : List ℕ → ℕ → ℕ → Bool
leads us y i = member (get_or us i 0) y

-- a walk over s that has rest left: with what leads to all of rest, r gives what leads to all of s
pub record Leading (us : List ℕ) (s rest r : ℕ) : Type 0 where
  pub rest-fits : rest < 2 ^ 64
  pub fits : r < 2 ^ 64
  pub so_far : (y : ℕ) → y < 64 → member r y && every (leads us y) rest ≡ every (leads us y) s

module _ (us : List ℕ) (s : ℕ) where
  pub leads-none : (r : ℕ) → s < 2 ^ 64 → r ≡ all_below 64 → Leading us s s r
  unfolding all_below always
  leads-none r h e = record {
    rest-fits = h;
    fits = rw e (gather-lt always 64);
    so_far = λ y l. rw e (sym (and-go (member (all_below 64) y) _ (member-gather always 64 y l)));
  }

  -- m is the member taken out, rest' what the code left
  pub leads-more : (rest m rest' r : ℕ) → rest ≢ 0 → m ≡ first (member rest) 64 → rest' ≡ but_lowest rest
      → Leading us s rest r → Leading us s rest' (bit_and r (get_or us m 0))
  unfolding leads
  leads-more rest m rest' r d em er l = record {
    rest-fits = rw er (but-lowest-fits rest);
    fits = lt_of_le_of_lt (and_le_l r (get_or us m 0)) l.fits;
    so_far = λ y h.
        rw (member-and r (get_or us m 0) y, er)
        (and_assoc (member r y) (member (get_or us m 0) y) (every (leads us y) (but_lowest rest))
        ∙ ap (λ (b : Bool). member r y && b) (rw em (sym (every-lowest (leads us y) rest l.rest-fits d)))
        ∙ l.so_far y h);
  }

  pub leads-all : (rest r : ℕ) → rest ≡ 0 → Leading us s rest r → (y : ℕ) → y < 64 → member r y ≡ every (leads us y) s
  leads-all rest r z l y h = sym (and-true (member r y)) ∙ ap (λ (b : Bool). member r y && b) (sym (every-zero (leads us y))) ∙ rw z at (l.so_far y h)

module _ (g : Network) (w x s : ℕ) (e : s ≡ staying g w x) where
  leading-is : (us : List ℕ) → g.n ≤ 64 → Upto g us → (y : ℕ) → every (leads us y) s ≡ all (leads_to g w x y) g.n
  unfolding leads leads_to staying
  leading-is us h up y =
      ap (every (leads us y)) e
      ∙ every-gather (leads us y) (stays g w x) g.n h
      ∙ all-ext _ (leads_to g w x y) g.n (λ i m. ap (imp (stays g w x i)) (ap (λ (t : ℕ). member t y) (up i m) ∙ upto-member g i y ∙ or_swap (pre g y i) (eqb y i)))

  pub settled_is : (us : List ℕ) (b r : ℕ) → g.n ≤ 64 → Upto g us → b ≡ before g x → b < 2 ^ 64 → r < 2 ^ 64
      → ((y : ℕ) → y < 64 → member r y ≡ every (leads us y) s) → bit_or b r ≡ gather (settled_by g w x) 64
  unfolding settled_by pre
  settled_is us b r n up eb hb hr h =
      gather-is (settled_by g w x) 64 _ (or_lt 64 b r hb hr)
      (λ y l. member-or b r y ∙ ap₂ (λ (p q : Bool). p || q) (ap (λ (t : ℕ). member t y) eb) (h y l ∙ leading-is us n up y))

-- ---- 8: the refuges

module _ (s ok e : ℕ) (ws : List ℕ) (w : ℕ) where
  pub not-later : (k : ℕ) → k < w → shelters s ok e ws w k ≡ false
  unfolding shelters
  not-later k h = and-no-l (ltb w (suc k)) _ (le-ltb w (suc k) h)

  pub later : (k : ℕ) → w ≤ k → subset_of s (get_or ws k 0) && subset_of (bit_and e (get_or ws k 0)) ok ≡ shelters s ok e ws w k
  unfolding shelters
  later k h = and-go (ltb w (suc k)) _ (lt-ltb w (suc k) (suc-le-suc h))

pub refuges-are : (g : Network) (w x s ok : ℕ) (ws : List ℕ) → ws ≡ g.way → s ≡ staying g w x → ok ≡ gather (settled_by g w x) 64
    → any (shelters s ok g.exposed ws w) g.a ≡ any (later_refuge g w x) g.a
unfolding shelters later_refuge refuge safe exposed in_way way_of subset_of kept
refuges-are g w x s ok ws ew es eo =
    rw (ew, es, eo)
    (any-ext _ (later_refuge g w x) g.a (λ j l.
    ap (λ (b : Bool). ltb w (suc j) && (subset_of (staying g w x) (get_or g.way j 0) && b))
    (all-ext _ (safe g w x (suc j)) 64
    (λ y m. ap₂ imp (member-and g.exposed (get_or g.way j 0) y) (member-gather (settled_by g w x) 64 y m)))))
