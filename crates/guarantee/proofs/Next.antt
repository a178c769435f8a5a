-- Next order keeps a state sound, waits only for a reply, and what holds at its ends.
-- Assumes nothing.
use mathlib.Core.Path.{◌≡◌}
use mathlib.Core.Logic.{◌≢◌, ◌⊎◌, inl, inr}
use mathlib.Core.Bool.{Bool, true, false, not, ◌&&◌}
use Prim.Native.Nat.{ℕ, ◌<◌}
use native.Mathlib.Omega.{arith}
use lib.Bits.{bit_or}
use borrow.Author.Tests.{not-true}
use Rattle.bounded.proofs.Bools.{clash, which, same?, off, and_l, and_r, ◌&◌, not-i}
use Rattle.bounded.proofs.Tests.{any-i}
use Rattle.bounded.proofs.Extreme.{extreme}
use Rattle.sets.specs.Sets.{some}
use Rattle.sets.proofs.Facts.{subset-e, subset-i, both-i, either-e, either_l, either_r, without-i}
use Rattle.network.specs.Network.{in_way, before, pre, firm}
use Rattle.network.specs.declared.Network.{Network}
use Rattle.verdict.proofs.Facts.{Passes}
use Rattle.standing.specs.Standing.{free, requested, held, lost, returning, coded}
use Rattle.standing.specs.Ways.{precedes_some, ready, lost_in}
use Rattle.standing.proofs.Facts.{precedes-i, precedes-e}
use Rattle.run.specs.State.{code, is, standing, here, put}
use Rattle.run.specs.Orders.{passed, may_return, to_return, may_request, to_request}
use Rattle.run.specs.declared.Run.{Run}
use Rattle.run.specs.declared.Ordered.{Ordered}
use Rattle.run.specs.declared.Order.TheVariants.{Wait}
use Rattle.run.proofs.Facts.{Core, Sound, is-i, is-e, coded-i, coded-e, some-coded, none-coded, inside, lost-i, lost-e}
use Rattle.run.proofs.Cases.{Idle, Done, NextCase, blocked, gives, busy, asks, pends, over, flies, return-facts, request-facts, none_passed, has_room}
use Rattle.guarantee.proofs.Change.{Fits, hit, miss, change}

-- the held and returning bookings
abbrev kept : Network → Run → ℕ
kept g r = bit_or (standing g r).held (standing g r).returning

module _ (g : Network) (ok : Passes g) (r : Run) (c : Core g r) where
  in-n : (b : ℕ) → code r b ≢ free → b < g.n
  in-n b d = inside g r c.past b d

  low : (b : ℕ) → b < g.n → b < 64
  low b h = omega (arith, ok.shape.bookings)

  -- no booking has a code that none has
  none_is : (k b : ℕ) → k ≢ free → some (coded r.code g.n k) ≡ false → code r b ≢ k
  none_is k b d e m = none-coded g r k e b (in-n b (omega arith)) m

  not-lost : lost_in (standing g r) (here g r) ≡ false → (b : ℕ) → code r b ≡ lost → in_way g r.way b ≡ true → ⊥
  not-lost u b e i = clash (lost_in (standing g r) (here g r)) (lost-i g ok.shape.bookings r r.way b (in-n b (omega arith)) i e) u

  -- rule 2 finds a booking while one is held outside the current way: of these a last one in the order precedes nothing held
  pub no-loose : Idle g r → (b : ℕ) → code r b ≡ held → in_way g r.way b ≡ true
  unfolding to_return may_return in_way
  no-loose i b e = elim (which (in_way g r.way b)) [
    | inl z ↦ z
    | inr o ↦
        (let t = extreme (pre g) ok.irreflexive ok.shape.transitive loose g.n (any-i loose g.n b (in-n b (omega arith)) (is-i r held b e & not-i _ o)) in
        let m = t.0 in
        let x = t.1 in
        let out : in_way g r.way m ≡ false = not-true _ (and_r (is r held m) _ x.passes) in
        let f : precedes_some g (kept g r) m ≡ false =
        off (precedes_some g (kept g r) m) (λ q.
        let w = precedes-e g (kept g r) m q in
        let v = w.0 in
        elim (either-e (standing g r).held (standing g r).returning v w.2) [
          | inl y ↦ clash (pre g m v) w.3 (x.apart v w.1 (is-i r held v (coded-e g r held v y).1 & not-i _ (outside m v out w.3)))
          | inr y ↦ none_is returning v (omega arith) i.none-returning (coded-e g r returning v y).1
        ]) in
        let p : passed g (standing g r) m ≡ false =
        none_passed g ok.shape.some-matter r (λ q. c.quiet-outside b q e o) (λ q. none_is returning q (omega arith) i.none-returning) m in
        clash (to_return g (standing g r) (here g r) m)
        ((without-i (standing g r).held (here g r) m (low m x.below) (coded-i g r held m x.below (is-e r held m (and_l (is r held m) _ x.passes))) out & not-i _ f) & not-i _ p)
        (i.kept m (low m x.below)))
  ]
    where
      loose : ℕ → Bool
      loose a = is r held a && not (in_way g r.way a)

      outside : (a v : ℕ) → in_way g r.way a ≡ false → pre g a v ≡ true → in_way g r.way v ≡ false
      outside a v o p = off (in_way g r.way v) (λ y. clash (in_way g r.way a) (ok.closed r.way a v c.way y p) o)

  -- where the run ends, a booking of the current way that is not held is free
  free-or-held : Done g r → (b : ℕ) → in_way g r.way b ≡ true → code r b ≢ held → code r b ≡ free
  free-or-held d b i n =
      let n3 : code r b ≢ lost = λ e. not-lost d.idle.unlost b e i in
      omega (arith, c.codes b, none_is requested b (omega arith) d.none-requested, none_is returning b (omega arith) d.idle.none-returning)

  -- rule 4 finds a booking while one of the current way is free: of these a first one in the order has all predecessors held
  pub all_held : Done g r → (b : ℕ) → in_way g r.way b ≡ true → code r b ≡ held
  unfolding to_request may_request ready pre in_way
  all_held d b i = elim (same? (code r b) held) [
    | inl e ↦ e
    | inr n ↦
        (let t = extreme (λ u v. pre g v u) ok.irreflexive (λ u v w e f. ok.shape.transitive w v u f e) unmet g.n
        (any-i unmet g.n b (ok.shape.way-n r.way b c.way i) (is-i r free b (free-or-held d b i n) & i)) in
        let m = t.0 in
        let x = t.1 in
        let im : in_way g r.way m ≡ true = and_r (is r free m) _ x.passes in
        let f : ready g (standing g r) m ≡ true =
        subset-i (before g m) (standing g r).held (λ u h e.
        let iu = ok.closed r.way u m c.way im e in
        let l = (ok.shape.pre-n u m e).0 in
        coded-i g r held u l (elim (same? (code r u) held) [
          | inl z ↦ z
          | inr z ↦ clash (pre g u m) e (x.apart u l (is-i r free u (free-or-held d u iu z) & iu))
        ])) in
        let p : passed g (standing g r) m ≡ false =
        none_passed g ok.shape.some-matter r (λ q. none_is requested q (omega arith) d.none-requested) (λ q. none_is returning q (omega arith) d.idle.none-returning) m in
        clash (to_request g (standing g r) (here g r) m)
        ((both-i (standing g r).free (here g r) m (coded-i g r free m x.below (is-e r free m (and_l (is r free m) _ x.passes))) im & f) & not-i _ p) (d.full m x.below))
  ]
    where
      unmet : ℕ → Bool
      unmet a = is r free a && in_way g r.way a

  -- where the run ends, what is outside the current way is neither held nor awaited
  pub none-else : Done g r → (b : ℕ) → in_way g r.way b ≡ false → (code r b ≢ held) × (code r b ≢ requested) × (code r b ≢ returning)
  none-else d b o =
      (λ e. clash (in_way g r.way b) (no-loose d.idle b e) o, none_is requested b (omega arith) d.none-requested, none_is returning b (omega arith) d.idle.none-returning)

module _ (g : Network) (ok : Passes g) (r : Run) (s : Sound g r) where
  c' : Core g r
  c' = s.core

  -- the state after an order
  after-order : (x v : ℕ) → v ≢ lost → lost_in (standing g r) (here g r) ≡ false → Fits g r x v → Sound g (put r x v)
  unfolding c'
  after-order x v d u f =
      record {
        core = change g ok r c' x v f;
        waits = λ b l i. elim (same? b x) [
          | inl p ↦ absurd (omega (arith, hit g ok r c' x v f b p))
          | inr n ↦ absurd (not-lost g ok r c' u b (omega (arith, miss g ok r c' x v f b n)) i)
        ];
      }

  pub return_fits : (x : ℕ) → lost_in (standing g r) (here g r) ≡ false → to_return g (standing g r) (here g r) x ≡ true → Fits g r x returning
  unfolding c'
  return_fits x u e =
      let t = return-facts g r x e in
      let m : code r x ≡ held = t.is_held in
      let soft : firm g x ≡ false = off (firm g x) (λ z. clash (in_way g r.way x) (c'.firm-in x m z) t.outside) in
      record {
        booking = t.booking;
        small = omega arith;
        unlost = omega arith;
        ready = λ a w p. c'.preds w x (omega arith) (λ z. absurd (omega arith)) p;
        lets = λ w a i p.
            let h = inside g r c'.past w a in
            let n1 : code r w ≢ requested = c'.quiet-outside x w m t.outside in
            let n2 : code r w ≢ held = λ z.
            clash (precedes_some g (kept g r) x)
            (precedes-i g (kept g r) x w h (either_l (standing g r).held (standing g r).returning w (coded-i g r held w h z)) p) t.loose in
            let n3 : code r w ≢ lost = λ z. not-lost g ok r c' u w z (i z) in
            let n4 : code r w ≢ returning = λ z.
            clash (precedes_some g (kept g r) x)
            (precedes-i g (kept g r) x w h (either_r (standing g r).held (standing g r).returning w (coded-i g r returning w h z)) p) t.loose in
            absurd (omega (arith, c'.codes w));
        shown = λ z. absurd (omega arith);
        asked = λ z. absurd (omega arith);
        going = λ z. (soft, t.outside);
        quiet-outside = λ z. absurd (omega arith);
        quiet-returning = λ z. absurd (omega arith);
        loose = λ z. absurd (omega arith);
        alone = λ z q a. c'.quiet-outside x q m t.outside a;
        room = λ z d. has_room g (standing g r) x d t.taken-on;
        keeps = λ z a. clash (firm g x) a soft;
        firm-in = λ z. absurd (omega arith);
      }

  pub request-fits : (y : ℕ) → Idle g r → to_request g (standing g r) (here g r) y ≡ true → Fits g r y requested
  unfolding c' ready pre
  request-fits y d e =
      let t = request-facts g r y e in
      let m : code r y ≡ free = t.is_free in
      record {
        booking = t.booking;
        small = omega arith;
        unlost = omega arith;
        ready = λ n u p. (coded-e g r held u (subset-e (before g y) (standing g r).held u t.based (low g ok r c' u (ok.shape.pre-n u y p).0) p)).1;
        lets = λ w n l p. absurd (omega (arith, c'.preds y w n l p));
        shown = λ z. absurd (omega arith);
        asked = λ z. t.inside;
        going = λ z. absurd (omega arith);
        quiet-outside = λ z b k o. clash (in_way g r.way b) (no-loose g ok r c' d b k) o;
        quiet-returning = λ z b k. none_is g ok r c' returning b (omega arith) d.none-returning k;
        loose = λ z. absurd (omega arith);
        alone = λ z. absurd (omega arith);
        room = λ z d. has_room g (standing g r) y d t.taken-on;
        keeps = λ z. absurd (omega arith);
        firm-in = λ z. absurd (omega arith);
      }

  pub next-sound : {t : Ordered} → NextCase g r t → Sound g t.run
  next-sound (blocked e) = s
  next-sound (gives x u e) = after-order x returning (omega arith) u (return_fits x u e)
  next-sound (busy e) = s
  next-sound (asks y d e) = after-order y requested (omega arith) d.unlost (request-fits y d e)
  next-sound (pends e) = s
  next-sound (over d e) = s
  next-sound (flies d e) = s

  -- next order waits only where something is requested or returning
  pub waits-for : {t : Ordered} → NextCase g r t → t.order ≡ Wait → (b : ℕ) × ((code r b ≡ requested) ⊎ (code r b ≡ returning))
  waits-for (blocked e) p = let l = lost-e g r r.way e in let q = s.waits l.0 l.2 l.1 in (q.0, inl q.1)
  waits-for (gives x u e) p = clash true (cc) (cc)
  waits-for (busy e) p = let q = some-coded g r returning e in (q.0, inr q.2)
  waits-for (asks y d e) p = clash true (cc) (cc)
  waits-for (pends e) p = let q = some-coded g r requested e in (q.0, inl q.2)
  waits-for (over d e) p = clash true (cc) (cc)
  waits-for (flies d e) p = clash true (cc) (cc)
