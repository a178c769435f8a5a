-- Replies to different bookings, with no order taken between them, on the plain machine: two of them, then a list. Each is answered as if it came
-- alone, and from a sound state all orders lead to the same state.
-- Assumes nothing.
use mathlib.Core.Path.{◌≡◌, refl, sym, ap, ap₂, ◌∙◌}
use mathlib.Core.Logic.{◌≢◌}
use mathlib.Core.Bool.{Bool, true, false, ◌&&◌, ◌||◌, cond}
use mathlib.Core.List.{List, [], ◌∷◌, ◌++◌, map}
use Prim.Native.Nat.{ℕ, zero, suc, ◌≤◌, ◌<◌}
use native.Mathlib.Omega.{arith}
use lib.Dec.{eqb, ltb}
use lib.Seq.{get_or-set_same, get_or-set_other, set_comm}
use borrow.Author.Tests.{eqb-false, ne_eqb, not-true}
use Rattle.bounded.proofs.Bools.{and_l, and_r, and-no-r, clash}
use Rattle.sets.specs.Sets.{member}
use Rattle.sets.proofs.Members.{member-zero}
use Rattle.network.specs.declared.Network.{Network}
use Rattle.verdict.proofs.Facts.{Passes}
use Rattle.standing.specs.Standing.{free, requested, held, lost, returning, code_is, coded}
use Rattle.run.specs.State.{code, is, standing, put}
use Rattle.run.specs.Replies.{Y, N, G, K, settle, after_no, fits, misfits, reply, Replied}
use Rattle.run.specs.declared.Run.{Run}
use Rattle.run.proofs.Facts.{Core, Sound, coded-i}
use Rattle.run.proofs.Cases.{ReplyCase, misfit, confirmed, refused, again, returned, kept, reply-case}
use Rattle.run.proofs.Exits.{still-decides, settled, reply-y, reply-n, reply-g, reply-k}
use Rattle.guarantee.specs.Answers.{reply_bits}
use Rattle.guarantee.specs.Machine.{Asked, next_order, replied, reply_to, answer, after, machine_answers, final}
use Rattle.guarantee.specs.AnyOrder.{Rearranged, every, is_reply, no_order, not_to, different}
use Rattle.guarantee.proofs.Moved.{settle-code, moved}
use Rattle.guarantee.proofs.Rearranged.{every_front, every-rearranged}

-- ---- when a reply fits

-- whether one of four tests holds, as a reply makes them
fit-test : (a b c d e : Bool) (r1 r2 r3 r4 r0 : Run)
    → (cond a (cond b (fits r1) (cond c (fits r2) (cond d (fits r3) (cond e (fits r4) (misfits r0))))) (misfits r0)).taken ≡ a && (b || (c || (d || e)))
fit-test true true c d e r1 r2 r3 r4 r0 = refl
fit-test true false true d e r1 r2 r3 r4 r0 = refl
fit-test true false false true e r1 r2 r3 r4 r0 = refl
fit-test true false false false true r1 r2 r3 r4 r0 = refl
fit-test true false false false false r1 r2 r3 r4 r0 = refl
fit-test false b c d e r1 r2 r3 r4 r0 = refl

module _ (g : Network) where
  -- a reply of letter l to a booking x that has code c fits
  fitting : ℕ → ℕ → ℕ → Bool
  fitting l x c = ltb x g.n && ((eqb c requested && eqb l Y) || ((eqb c requested && eqb l N) || ((eqb c returning && eqb l G) || (eqb c returning && eqb l K))))

  -- so its booking's code decides
  fits-by-code : (r : Run) (l x : ℕ) → (reply g r l x).taken ≡ fitting l x (code r x)
  unfolding reply fitting code code_is
  fits-by-code r l x =
      fit-test (ltb x g.n) (is r requested x && eqb l Y) (is r requested x && eqb l N) (is r returning x && eqb l G) (is r returning x && eqb l K)
      (settle g (put r x held)) (settle g (put r x (after_no g x))) (put r x free) (put r x held) r

  -- ---- what a reply does

  -- the code v that an answered booking x gets: it has no open order any more
  abbrev Answered : ℕ → ℕ → Type 0
  Answered x v = (x < g.n) × (v ≤ lost) × (v ≢ requested)

  -- in every state in which its booking has the code that it has in r
  data Effect (l x : ℕ) (r : Run) : Type 0 where
    none : (reply g r l x).taken ≡ false → ((t : Run) → code t x ≡ code r x → (reply g t l x).run ≡ t) → Effect l x r
    decides : (v : ℕ) → Answered x v → code r x ≡ requested → ((t : Run) → code t x ≡ requested → (reply g t l x).run ≡ settle g (put t x v)) → Effect l x r
    ends : (v : ℕ) → Answered x v → code r x ≡ returning → ((t : Run) → code t x ≡ returning → (reply g t l x).run ≡ put t x v) → Effect l x r

  untaken : (r : Run) (l x : ℕ) {t : Replied} → ReplyCase g r l x t → t.taken ≡ false → t.run ≡ r
  untaken r l x misfit n = refl
  untaken r l x (confirmed h m e) n = clash true refl n
  untaken r l x (refused h m e z) n = clash true refl n
  untaken r l x (again h m e z) n = clash true refl n
  untaken r l x (returned h m e) n = clash true refl n
  untaken r l x (kept h m e) n = clash true refl n

  run_is : (t : Replied) (u : Run) → fits u ≡ t → t.run ≡ u
  run_is t u e = sym (ap (λ (v : Replied). v.run) e)

  effect-by : (r : Run) (l x : ℕ) {t : Replied} → ReplyCase g r l x t → t.taken ≡ fitting l x (code r x) → Effect l x r
  unfolding after_no
  effect-by r l x misfit n = none (fits-by-code r l x ∙ sym n) (λ t e. untaken t l x (reply-case g t l x) (fits-by-code t l x ∙ ap (fitting l x) e ∙ sym n))
  effect-by r l x (confirmed h m e) n = decides held (h, omega arith, omega arith) m (λ t c. run_is _ _ (reply-y g t l x h c e (settle g (put t x held)) refl))
  effect-by r l x (refused h m e z) n = decides lost (h, omega arith, omega arith) m (λ t c. run_is _ _ (reply-n g t l x h c e lost (settle g (put t x lost)) (rw z refl) refl))
  effect-by r l x (again h m e z) n = decides free (h, omega arith, omega arith) m (λ t c. run_is _ _ (reply-n g t l x h c e free (settle g (put t x free)) (rw z refl) refl))
  effect-by r l x (returned h m e) n = ends free (h, omega arith, omega arith) m (λ t c. run_is _ _ (reply-g g t l x h c e (put t x free) refl))
  effect-by r l x (kept h m e) n = ends held (h, omega arith, omega arith) m (λ t c. run_is _ _ (reply-k g t l x h c e (put t x held) refl))

  effect : (r : Run) (l x : ℕ) → Effect l x r
  effect r l x = effect-by r l x (reply-case g r l x) (fits-by-code r l x)

  -- ---- the other bookings

  put_other : (r : Run) (x v y : ℕ) → y ≢ x → code (put r x v) y ≡ code r y
  unfolding code
  put_other r x v y d = get_or-set_other r.code x y v 0 d

  other-code : (r : Run) (l x y : ℕ) → y ≢ x → Effect l x r → code (reply g r l x).run y ≡ code r y
  other-code r l x y d (none n f) = rw (f r refl) refl
  other-code r l x y d (decides v a m f) = rw (f r m) (settle-code g (put r x v) y ∙ put_other r x v y d)
  other-code r l x y d (ends v a m f) = rw (f r m) (put_other r x v y d)

  -- a reply changes no other booking's code
  same_code : (r : Run) (l x y : ℕ) → y ≢ x → code (reply g r l x).run y ≡ code r y
  same_code r l x y d = other-code r l x y d (effect r l x)

  fits-alike : (r : Run) (l x m y : ℕ) → y ≢ x → (reply g (reply g r l x).run m y).taken ≡ (reply g r m y).taken
  fits-alike r l x m y d = fits-by-code (reply g r l x).run m y ∙ ap (fitting m y) (same_code r l x y d) ∙ sym (fits-by-code r m y)

  -- ---- two replies

  -- while a request is open the way stays
  way-stays : (r : Run) (y : ℕ) → y < g.n → code r y ≡ requested → settle g r ≡ r
  way-stays r y h e =
      sym (settled g r (standing g r) refl r.way
      (still-decides g (standing g r) r.way (λ z. clash (member (coded r.code g.n requested) y) (coded-i g r requested y h e) (rw z (member-zero y)))))

  put-swap : (r : Run) (x v y w : ℕ) → x ≢ y → put (put r x v) y w ≡ put (put r y w) x v
  put-swap r x v y w d = ap (λ (cs : List ℕ). record { way = r.way; code = cs }) (set_comm r.code x y v w d)

  -- one of the two does nothing
  idle-first : (r : Run) (l x m y : ℕ) → x ≢ y → ((t : Run) → code t x ≡ code r x → (reply g t l x).run ≡ t)
      → (reply g (reply g r l x).run m y).run ≡ (reply g (reply g r m y).run l x).run
  idle-first r l x m y d f = ap (λ (t : Run). (reply g t m y).run) (f r refl) ∙ sym (f (reply g r m y).run (same_code r m y x d))

  -- the other request is still open after the first decision, so the way stays until the second
  decided-then : (r : Run) (l x v m y w : ℕ) → y ≢ x → y < g.n → code r x ≡ requested → code r y ≡ requested
      → ((t : Run) → code t x ≡ requested → (reply g t l x).run ≡ settle g (put t x v)) → ((t : Run) → code t y ≡ requested → (reply g t m y).run ≡ settle g (put t y w))
      → (reply g (reply g r l x).run m y).run ≡ settle g (put (put r x v) y w)
  decided-then r l x v m y w d h ex ey f p =
      let e : code (put r x v) y ≡ requested = put_other r x v y d ∙ ey in
      ap (λ (t : Run). (reply g t m y).run) (f r ex ∙ way-stays (put r x v) y h e) ∙ p (put r x v) e

  module _ (r : Run) (c : Core g r) (l x m y : ℕ) (d : x ≢ y) where
    flipped : y ≢ x
    flipped e = d (sym e)

    two-effects : Effect l x r → Effect m y r → (reply g (reply g r l x).run m y).run ≡ (reply g (reply g r m y).run l x).run
    two-effects (none n f) q = idle-first r l x m y d f
    two-effects (decides v a ex f) (none n p) = sym (idle-first r m y l x flipped p)
    two-effects (decides v a ex f) (decides w b ey p) =
        decided-then r l x v m y w flipped b.0 ex ey f p ∙ ap (settle g) (put-swap r x v y w d) ∙ sym (decided-then r m y w l x v d a.0 ey ex p f)
    two-effects (decides v a ex f) (ends w b ey p) = absurd (c.quiet-returning y x ey ex)
    two-effects (ends v a ex f) (none n p) = sym (idle-first r m y l x flipped p)
    two-effects (ends v a ex f) (decides w b ey p) = absurd (c.quiet-returning x y ex ey)
    two-effects (ends v a ex f) (ends w b ey p) =
        let e : code (put r x v) y ≡ returning = put_other r x v y flipped ∙ ey in
        let o : code (put r y w) x ≡ returning = put_other r y w x d ∙ ex in
        ap (λ (t : Run). (reply g t m y).run) (f r ex) ∙ p (put r x v) e ∙ put-swap r x v y w d
        ∙ sym (ap (λ (t : Run). (reply g t l x).run) (p r ey) ∙ f (put r y w) o)

  -- ---- the same by the bookings' numbers

  less : (x y : ℕ) → suc x ≢ suc y → x ≢ y
  less x y d e = d (ap suc e)

  pub fits-same : (r : Run) (l b m c : ℕ) → b ≢ c → (reply_to g (after g r (replied m c)) l b).taken ≡ (reply_to g r l b).taken
  unfolding reply_to after
  fits-same r l zero m c d = refl
  fits-same r l (suc x) m zero d = refl
  fits-same r l (suc x) m (suc y) d = fits-alike r m y l x (less x y d)

  pub answered-alike : (r : Run) (l b m c : ℕ) → b ≢ c → answer g (after g r (replied m c)) (replied l b) ≡ answer g r (replied l b)
  unfolding answer
  answered-alike r l b m c d = ap (reply_bits b) (fits-same r l b m c d)

  pub two-replies : (r : Run) → Core g r → (l b m c : ℕ) → b ≢ c
      → after g (after g r (replied l b)) (replied m c) ≡ after g (after g r (replied m c)) (replied l b)
  unfolding reply_to after
  two-replies r k l zero m c d = refl
  two-replies r k l (suc x) m zero d = refl
  two-replies r k l (suc x) m (suc y) d = two-effects r k l x m y (less x y d) (effect r l x) (effect r m y)

  -- ---- lists

  to-other : (b l c : ℕ) → not_to b (replied l c) ≡ true → c ≢ b
  unfolding not_to
  to-other b l c e = eqb-false c b (not-true _ e)

  -- what is answered to others is the same after a reply to b
  pub others-alike : (r : Run) (l b : ℕ) (qs : List Asked) → no_order qs ≡ true → every (not_to b) qs ≡ true
      → map (answer g (after g r (replied l b))) qs ≡ map (answer g r) qs
  unfolding no_order every is_reply
  others-alike r l b [] o n = refl
  others-alike r l b (next_order ∷ qs) o n = clash false o refl
  others-alike r l b (replied m c ∷ qs) o n =
      let d = to-other b m c (and_l (not_to b (replied m c)) _ n) in
      ap₂ ◌∷◌ (answered-alike r m c l b d) (others-alike r l b qs o (and_r (not_to b (replied m c)) _ n))

  -- each reply of a list is answered as if it came alone
  pub each-alone : (r : Run) (qs : List Asked) → no_order qs ≡ true → different qs ≡ true → machine_answers g r qs ≡ map (answer g r) qs
  unfolding no_order every is_reply different machine_answers
  each-alone r [] o d = refl
  each-alone r (next_order ∷ qs) o d = clash false o refl
  each-alone r (replied l b ∷ qs) o d =
      ap (λ (xs : List ℕ). answer g r (replied l b) ∷ xs)
      (each-alone (after g r (replied l b)) qs o (and_r (every (not_to b) qs) _ d) ∙ others-alike r l b qs o (and_l (every (not_to b) qs) _ d))

module _ (g : Network) (ok : Passes g) where
  -- ---- one booking

  -- a booking that is not requested and not returning has no reply that fits
  closed : (r : Run) (x : ℕ) → code r x ≢ requested → code r x ≢ returning → (m : ℕ) → (reply g r m x).taken ≡ false
  unfolding fitting
  closed r x d e m = fits-by-code g r m x ∙ rw (ne_eqb (code r x) requested d, ne_eqb (code r x) returning e) (and-no-r (ltb x g.n) _ refl)

  -- a reply that fits closes its booking
  closes : (r : Run) → Sound g r → (l x : ℕ) → (reply g r l x).taken ≡ true → Effect g l x r → (code (reply g r l x).run x ≢ requested) × (code (reply g r l x).run x ≢ returning)
  unfolding code
  closes r s l x t (none n f) = clash (reply g r l x).taken t n
  closes r s l x t (decides v a m f) =
      let c = settle-code g (put r x v) x ∙ get_or-set_same r.code x v 0 (omega (arith, s.core.size, ok.shape.bookings, a.0)) in
      rw (f r m) (λ z. a.2 (sym c ∙ z), λ z. omega (arith, a.1, c))
  closes r s l x t (ends v a m f) =
      let c = get_or-set_same r.code x v 0 (omega (arith, s.core.size, ok.shape.bookings, a.0)) in
      rw (f r m) (λ z. a.2 (sym c ∙ z), λ z. omega (arith, a.1, c))

  -- after it no second one fits
  pub once : (r : Run) → Sound g r → (l b : ℕ) → (reply_to g r l b).taken ≡ true → (m : ℕ) → (reply_to g (after g r (replied l b)) m b).taken ≡ false
  unfolding reply_to after
  once r s l zero t m = refl
  once r s l (suc x) t m = let c = closes r s l x t (effect g r l x) in closed (reply g r l x).run x c.0 c.1 m

  -- ---- lists, from a sound state

  -- a reply may come first
  to_front : (r : Run) → Sound g r → (l b : ℕ) (front rest : List Asked) → no_order front ≡ true → every (not_to b) front ≡ true
      → final g r (front ++ (replied l b ∷ rest)) ≡ final g (after g r (replied l b)) (front ++ rest)
  unfolding no_order every is_reply final
  to_front r s l b [] rest o n = refl
  to_front r s l b (next_order ∷ front) rest o n = clash false o refl
  to_front r s l b (replied m c ∷ front) rest o n =
      let d = to-other g b m c (and_l (not_to b (replied m c)) _ n) in
      to_front (after g r (replied m c)) (moved g ok r s (replied m c)).sound l b front rest o (and_r (not_to b (replied m c)) _ n)
      ∙ ap (λ (t : Run). final g t (front ++ rest)) (two-replies g r s.core m c l b d)

  -- every order of a list leads to the same state
  pub same-final : (r : Run) → Sound g r → (qs ps : List Asked) → no_order qs ≡ true → different qs ≡ true → Rearranged qs ps → final g r ps ≡ final g r qs
  unfolding no_order every is_reply different final Rearranged
  same-final r s [] ps o d p = rw p refl
  same-final r s (next_order ∷ qs) ps o d p = clash false o refl
  same-final r s (replied l b ∷ qs) ps o d p =
      let front : List Asked = p.0 in
      let rest : List Asked = p.1 in
      let o' = every_front is_reply front rest (every-rearranged is_reply qs (front ++ rest) p.3 o) in
      let n = every_front (not_to b) front rest (every-rearranged (not_to b) qs (front ++ rest) p.3 (and_l (every (not_to b) qs) _ d)) in
      rw p.2 (to_front r s l b front rest o' n
      ∙ same-final (after g r (replied l b)) (moved g ok r s (replied l b)).sound qs (front ++ rest) o (and_r (every (not_to b) qs) _ d) p.3)
