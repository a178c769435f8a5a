-- A state passes the test exactly where it is sound.
-- Assumes nothing.
use mathlib.Core.Path.{◌≡◌, sym, ◌∙◌}
use mathlib.Core.Logic.{◌≢◌, inl, inr}
use mathlib.Core.Bool.{Bool, true, false, not, ◌&&◌, ◌||◌}
use Prim.Native.Nat.{ℕ, ◌≤◌, ◌<◌}
use native.Mathlib.Omega.{arith}
use lib.Dec.{leb}
use lib.Bits.{bit_and, bit_or}
use lib.ListN.{length, get_or-eq_default}
use borrow.Author.Tests.{leb-true, le-leb, not-true}
use Rattle.bounded.proofs.Bools.{clash, same?, split?, and_l, and_r, ◌&◌, or_cases, or_l, or_r, not-i, off, imp-e, imp-i}
use Rattle.bounded.proofs.Tests.{all-i, all-e}
use Rattle.sets.specs.Sets.{member, without, subset_of, some}
use Rattle.sets.proofs.Facts.{subset-e, subset-i, apart-e, apart-i, neither-e, neither-i, some-i, some-member, both-i, both-e, either-e, either_l, either_r, without-i, without-e}
use Rattle.sets.proofs.Gather.{gather-lt}
use Rattle.desks.proofs.Laws.{kept-e, kept-i}
use Rattle.network.specs.Network.{in_way, pre, firm, exposed}
use Rattle.network.specs.declared.Network.{Network}
use Rattle.network.proofs.Facts.{Shape}
use Rattle.standing.specs.Standing.{free, requested, held, lost, returning, matters}
use Rattle.standing.specs.Ways.{preceding, lost_in, held_firm}
use Rattle.standing.proofs.Facts.{preceding-i, preceding-e}
use Rattle.run.specs.State.{code, standing, here}
use Rattle.run.specs.Sound.{code_known, codes_known, way_known, zero_past, rest_zero, all_founded, lost_exposed, requested_inside, returning_outside, quiet, ways_before, passed_over, earlier_dead, firm_inside, desks_kept, lost_pending, sound}
use Rattle.run.specs.declared.Run.{Run}
use Rattle.run.proofs.Facts.{Core, Sound, is-i, is-e, coded-i, coded-e, some-coded, none-coded, firm-i, firm-e, inside, lost-i, lost-e}

-- the requested, held and returning bookings
abbrev active : Network → Run → ℕ
active g r = bit_or (standing g r).requested (bit_or (standing g r).held (standing g r).returning)

-- the lost bookings of the current way
abbrev gone : Network → Run → ℕ
gone g r = bit_and (standing g r).lost (here g r)

-- ---- a sound state passes

module _ (g : Network) (sh : Shape g) (r : Run) (s : Sound g r) where
  c : Core g r
  c = s.core

  active-e : (b : ℕ) → member (active g r) b ≡ true → (code r b ≢ free) × (code r b ≢ lost)
  active-e b e = elim (either-e (standing g r).requested (bit_or (standing g r).held (standing g r).returning) b e) [
    | inl z ↦ omega (arith, (coded-e g r requested b z).1)
    | inr y ↦ elim (either-e (standing g r).held (standing g r).returning b y) [
      | inl z ↦ omega (arith, (coded-e g r held b z).1)
      | inr z ↦ omega (arith, (coded-e g r returning b z).1)
    ]
  ]

  -- what precedes a member of a set is held, if each member is in use, and in the current way if it is lost
  based : (t : ℕ) → ((v : ℕ) → member t v ≡ true → (code r v ≢ free) × (code r v ≡ lost → in_way g r.way v ≡ true)) → (u : ℕ) → u < 64
      → member (preceding g t) u ≡ true → member (standing g r).held u ≡ true
  unfolding c
  based t f u h m =
      let p = preceding-e g t u m in
      let k = f p.0 p.2 in
      coded-i g r held u (sh.pre-n u p.0 p.3).0 (c.preds u p.0 k.0 k.1 p.3)

  leaves : (q : ℕ) → some (without (standing g r).held (here g r)) || some (standing g r).returning ≡ true → code r q ≢ requested
  unfolding without in_way c
  leaves q e m = elim (or_cases (some (without (standing g r).held (here g r))) (some (standing g r).returning) e) [
    | inl z ↦
        (let i = some-member (without (standing g r).held (here g r)) (gather-lt _ 64) z in
        let t = without-e (standing g r).held (here g r) i.0 i.1 in
        c.quiet-outside i.0 q (coded-e g r held i.0 t.1).1 t.2 m)
    | inr z ↦ (let t = some-coded g r returning z in c.quiet-returning t.0 q t.2 m)
  ]

  pub sound-i : sound g r ≡ true
  unfolding sound codes_known code_known way_known rest_zero zero_past all_founded lost_exposed requested_inside returning_outside quiet earlier_dead passed_over firm_inside desks_kept lost_pending in_way firm exposed c
  sound-i =
      all-i (code_known r) 64 (λ b h. le-leb _ _ (c.codes b))
      & le-leb _ _ c.way
      & all-i (zero_past g r) 64 (λ b h. imp-i _ _ (λ e. is-i r free b (c.past b (leb-true _ _ e))))
      & subset-i (preceding g (active g r)) (standing g r).held (based (active g r) (λ v m. let a = active-e v m in (a.0, λ z. absurd (a.1 z))))
      & subset-i (standing g r).lost g.exposed (λ b h m. c.shown b (coded-e g r lost b m).1)
      & subset-i (standing g r).requested (here g r) (λ b h m. c.asked b (coded-e g r requested b m).1)
      & apart-i (standing g r).returning (bit_or g.firm (here g r)) (λ b h m.
      let t = c.going b (coded-e g r returning b m).1 in neither-i g.firm (here g r) b t.0 t.1)
      & imp-i _ _ (λ e. not-i _ (off (some (standing g r).requested) (λ z. let q = some-coded g r requested z in leaves q.0 e q.2)))
      & all-i (passed_over g (standing g r)) (ways_before g r.way) (λ k h. not-i _ (c.earlier k h))
      & subset-i (held_firm g (standing g r)) (here g r) (λ b h m. let t = firm-e g r b m in c.firm-in b t.0 t.1)
      & kept-i g.limit g.desk (matters (standing g r)) c.desks
      & subset-i (preceding g (gone g r)) (standing g r).held
      (based (gone g r) (λ v m. let t = both-e (standing g r).lost (here g r) v m in (omega (arith, (coded-e g r lost v t.0).1), λ z. t.1)))
      & imp-i _ _ (λ e.
      let l = lost-e g r r.way e in
      let q = s.waits l.0 l.2 l.1 in
      some-i (standing g r).requested q.0 (coded-i g r requested q.0 (inside g r c.past q.0 (omega (arith, q.1))) q.1))

-- ---- one sentence after the other

-- the sentences of the rule, all but the last
pub record Sentences (g : Network) (r : Run) : Type 0 where
  pub formed : codes_known r && (way_known g r && rest_zero g r) ≡ true
  pub founds : all_founded g (standing g r) ≡ true
  pub exposes : lost_exposed g (standing g r) ≡ true
  pub requests : requested_inside (standing g r) (here g r) ≡ true
  pub returns : returning_outside g (standing g r) (here g r) ≡ true
  pub quiets : quiet (standing g r) (here g r) ≡ true
  pub earlier : earlier_dead g (standing g r) r.way ≡ true
  pub firms : firm_inside g (standing g r) (here g r) ≡ true
  pub desks : desks_kept g (standing g r) ≡ true

pub sentences : (g : Network) (r : Run) → sound g r ≡ true → Sentences g r
unfolding sound
sentences g r e =
    let e1 = and_r (codes_known r) _ e in
    let e2 = and_r (way_known g r) _ e1 in
    let e3 = and_r (rest_zero g r) _ e2 in
    let e4 = and_r (all_founded g (standing g r)) _ e3 in
    let e5 = and_r (lost_exposed g (standing g r)) _ e4 in
    let e6 = and_r (requested_inside (standing g r) (here g r)) _ e5 in
    let e7 = and_r (returning_outside g (standing g r) (here g r)) _ e6 in
    let e8 = and_r (quiet (standing g r) (here g r)) _ e7 in
    let e9 = and_r (earlier_dead g (standing g r) r.way) _ e8 in
    let e10 = and_r (firm_inside g (standing g r) (here g r)) _ e9 in
    record {
      formed = and_l (codes_known r) _ e & (and_l (way_known g r) _ e1 & and_l (rest_zero g r) _ e2);
      founds = and_l (all_founded g (standing g r)) _ e3;
      exposes = and_l (lost_exposed g (standing g r)) _ e4;
      requests = and_l (requested_inside (standing g r) (here g r)) _ e5;
      returns = and_l (returning_outside g (standing g r) (here g r)) _ e6;
      quiets = and_l (quiet (standing g r) (here g r)) _ e7;
      earlier = and_l (earlier_dead g (standing g r) r.way) _ e8;
      firms = and_l (firm_inside g (standing g r) (here g r)) _ e9;
      desks = and_l (desks_kept g (standing g r)) _ e10;
    }

-- one sentence that fails is enough: x is what its test gave
pub fails : (g : Network) (r : Run) (a : Bool) → (Sentences g r → a ≡ true) → (x : Bool) → x ≡ a → not x ≡ true → false ≡ sound g r
fails g r a p x e n = sym (off (sound g r) (λ s. clash a (p (sentences g r s)) (sym e ∙ not-true x n)))

-- the last sentence decides where all others hold
pub sound-last : (g : Network) (r : Run) → Sentences g r → lost_pending g (standing g r) (here g r) ≡ sound g r
unfolding sound
sound-last g r p =
    let f = and_r (codes_known r) _ p.formed in
    rw (and_l (codes_known r) _ p.formed, and_l (way_known g r) _ f, and_r (way_known g r) _ f, p.founds, p.exposes, p.requests, p.returns, p.quiets, p.earlier, p.firms, p.desks)

-- a way that is known is one of the plan's, whatever the other sentences say
pub way-few : (g : Network) (r : Run) (x : Bool) → codes_known r && (way_known g r && x) ≡ true → g.a ≤ 16 → r.way ≤ 16
unfolding way_known
way-few g r x e h = omega (arith, leb-true r.way g.a (and_l (leb r.way g.a) _ (and_r (codes_known r) _ e)))

pub sound-way : (g : Network) (r : Run) → sound g r ≡ true → g.a ≤ 16 → r.way ≤ 16
unfolding sound
sound-way g r e h = way-few g r _ e h

-- ---- a state that passes is sound

module _ (g : Network) (sh : Shape g) (r : Run) (size : length r.code ≡ 64) (t : Sentences g r) (last : lost_pending g (standing g r) (here g r) ≡ true) where
  known : way_known g r && rest_zero g r ≡ true
  known = and_r (codes_known r) _ t.formed

  outside : (b : ℕ) → 64 ≤ b → code r b ≡ free
  unfolding code
  outside b h = get_or-eq_default r.code 0 (omega arith)

  past-f : (b : ℕ) → g.n ≤ b → code r b ≡ free
  unfolding rest_zero zero_past
  past-f b h = elim (split? b 64) [
    | inl l ↦ is-e r free b (imp-e (leb g.n b) _ (all-e (zero_past g r) 64 (and_r (way_known g r) _ known) b l) (le-leb _ _ h))
    | inr l ↦ outside b l
  ]

  codes-f : (b : ℕ) → code r b ≤ returning
  unfolding codes_known code_known
  codes-f b = elim (split? b 64) [ inl l ↦ leb-true _ _ (all-e (code_known r) 64 (and_l (codes_known r) _ t.formed) b l) | inr l ↦ omega (arith, outside b l) ]

  in-n : (b : ℕ) → code r b ≢ free → b < g.n
  in-n b n = inside g r past-f b n

  low : (b : ℕ) → b < g.n → b < 64
  low b h = omega (arith, sh.bookings)

  active-i : (b : ℕ) → code r b ≢ free → code r b ≢ lost → member (active g r) b ≡ true
  active-i b n m =
      let h = in-n b n in
      let hr = bit_or (standing g r).held (standing g r).returning in
      elim (same? (code r b) requested) [
        | inl z ↦ either_l (standing g r).requested hr b (coded-i g r requested b h z)
        | inr n1 ↦ either_r (standing g r).requested hr b (elim (same? (code r b) held) [
          | inl z ↦ either_l (standing g r).held (standing g r).returning b (coded-i g r held b h z)
          | inr n2 ↦ either_r (standing g r).held (standing g r).returning b (coded-i g r returning b h (omega (arith, codes-f b)))
        ])
      ]

  -- what precedes a member of such a set is held
  based-e : (s : ℕ) → subset_of (preceding g s) (standing g r).held ≡ true → (u v : ℕ) → member s v ≡ true → pre g u v ≡ true → code r u ≡ held
  based-e s e u v m p =
      let h = sh.pre-n u v p in
      (coded-e g r held u (subset-e (preceding g s) (standing g r).held u e (low u h.0) (preceding-i g s u v (low u h.0) h.1 m p))).1

  preds-f : (u v : ℕ) → code r v ≢ free → (code r v ≡ lost → in_way g r.way v ≡ true) → pre g u v ≡ true → code r u ≡ held
  unfolding all_founded lost_pending in_way
  preds-f u v n i p = elim (same? (code r v) lost) [
    | inl l ↦ based-e (gone g r) (and_l (subset_of (preceding g (gone g r)) (standing g r).held) _ last) u v
        (both-i (standing g r).lost (here g r) v (coded-i g r lost v (in-n v n) l) (i l)) p
    | inr m ↦ based-e (active g r) t.founds u v (active-i v n m) p
  ]

  quiet-f : (q : ℕ) → some (without (standing g r).held (here g r)) || some (standing g r).returning ≡ true → code r q ≢ requested
  unfolding quiet
  quiet-f q e m = none-coded g r requested (not-true _ (imp-e (some (without (standing g r).held (here g r)) || some (standing g r).returning) _ t.quiets e)) q (in-n q (omega arith)) m

  sentences-sound : Sound g r
  unfolding way_known lost_exposed requested_inside returning_outside earlier_dead passed_over firm_inside desks_kept lost_pending in_way firm exposed
  sentences-sound =
      record {
        core = record {
          size = size;
          codes = codes-f;
          way = leb-true _ _ (and_l (way_known g r) _ known);
          past = past-f;
          preds = preds-f;
          shown = λ b m. let h = in-n b (omega arith) in subset-e (standing g r).lost g.exposed b t.exposes (low b h) (coded-i g r lost b h m);
          asked = λ b m. let h = in-n b (omega arith) in subset-e (standing g r).requested (here g r) b t.requests (low b h) (coded-i g r requested b h m);
          going = λ b m.
              let h = in-n b (omega arith) in
              neither-e g.firm (here g r) b (apart-e (standing g r).returning (bit_or g.firm (here g r)) b t.returns (low b h) (coded-i g r returning b h m));
          quiet-outside = λ b q m o. let h = in-n b (omega arith) in
              quiet-f q (or_l (some (without (standing g r).held (here g r))) _
              (some-i (without (standing g r).held (here g r)) b (without-i (standing g r).held (here g r) b (low b h) (coded-i g r held b h m) o)));
          quiet-returning = λ b q m.
              quiet-f q (or_r (some (without (standing g r).held (here g r))) _ (some-i (standing g r).returning b (coded-i g r returning b (in-n b (omega arith)) m)));
          earlier = λ k h. not-true _ (all-e (passed_over g (standing g r)) (ways_before g r.way) t.earlier k h);
          firm-in = λ b m z.
              let h = in-n b (omega arith) in
              subset-e (held_firm g (standing g r)) (here g r) b t.firms (low b h) (firm-i g r b h m z);
          desks = kept-e g.limit g.desk (matters (standing g r)) t.desks;
        };
        waits = λ b l i.
            let z = lost-i g sh.bookings r r.way b (in-n b (omega arith)) i l in
            let q = some-coded g r requested (imp-e (lost_in (standing g r) (here g r)) _ (and_r (subset_of (preceding g (gone g r)) (standing g r).held) _ last) z) in
            (q.0, q.2);
      }

pub sound-e : (g : Network) → Shape g → (r : Run) → length r.code ≡ 64 → sound g r ≡ true → Sound g r
sound-e g sh r size e = let t = sentences g r e in sentences-sound g sh r size t (sound-last g r t ∙ e)
