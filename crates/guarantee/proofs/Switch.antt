-- The switch: where the current way has a lost booking and nothing is requested. A network that passes is never stranded.
-- Assumes nothing.
use mathlib.Core.Path.{◌≡◌, refl, ap}
use mathlib.Core.Logic.{◌≢◌, inl, inr}
use mathlib.Core.Bool.{true, false, not, ◌&&◌}
use Prim.Native.Nat.{ℕ, zero, suc, ◌≤◌, ◌<◌}
use native.Mathlib.Omega.{arith}
use borrow.Author.Tests.{not-true}
use Rattle.bounded.proofs.Bools.{clash, same?, split?, off, which, and_l, and_r, ◌&◌, not-i, by_cond}
use Rattle.sets.specs.Sets.{some}
use Rattle.network.specs.Network.{in_way, pre, firm}
use Rattle.network.specs.declared.Network.{Network}
use Rattle.verdict.proofs.Facts.{Passes, Stays}
use Rattle.network.proofs.Facts.{no_way}
use Rattle.standing.specs.Standing.{requested, held, lost, returning}
use Rattle.standing.specs.Ways.{lost_in, live_at, first_live}
use Rattle.run.specs.State.{code, standing, here, turn}
use Rattle.run.specs.Replies.{to_switch, settle}
use Rattle.run.specs.Sound.{ways_before}
use Rattle.run.specs.declared.Run.{Run}
use Rattle.run.proofs.Facts.{Core, Sound, Live, live-e, live-i, inside, lost-e, lost-i, some-coded, none-coded}
use Rattle.run.proofs.Cases.{FirstLive, at, nowhere, first_live_lem}

-- x is lost in the current way, and nothing is requested or returning
module _ (g : Network) (ok : Passes g) (r : Run) (c : Core g r) (x : ℕ) (lx : code r x ≡ lost) (ix : in_way g r.way x ≡ true) where
  stays : (h : ℕ) → code r h ≡ held → firm g h ≡ true → Stays g r.way x h
  stays h e z =
      record {
        is-firm = z;
        inside = c.firm-in h e z;
        other = λ p. omega (arith, ap (code r) p);
        apart = off (pre g x h) (λ q. omega (arith, c.preds x h (omega arith) (λ y. absurd (omega arith)) q));
      }

  -- if a firm booking is held, a later way is live
  refuge : (h : ℕ) → code r h ≡ held → firm g h ≡ true → (j : ℕ) × (r.way < j) × (j ≤ g.a) × Live g r j
  refuge h e z =
      let p = ok.refuge r.way x h c.way (c.shown x lx) ix (stays h e z) in
      let j = p.0 in
      let t = p.1 in (
        j,
        t.later,
        t.listed,
        record {
          unlost = λ y i l. elim (t.safe y (c.shown y l) i) [
            | inl q ↦ omega (arith, c.preds y x (omega arith) (λ n. ix) q)
            | inr k ↦ elim (k h (stays h e z)) [
              | inl q ↦ omega (arith, ap (code r) q)
              | inr q ↦ omega (arith, c.preds y h (omega arith) (λ n. absurd (omega arith)) q)
            ]
          ];
          has-firm = λ b d n. t.has b (stays b d n);
        },
      )

  dead : ((i : ℕ) → i < g.a → live_at g (standing g r) i ≡ false) → (j : ℕ) → r.way < j → j ≤ g.a → Live g r j → ⊥
  dead b zero h l p = omega arith
  dead b (suc j) h l p = clash (live_at g (standing g r) j) (live-i g r j p) (b j l)

  -- never stranded: with a firm booking held, the switch finds a way
  pub never-stranded : (h : ℕ) → code r h ≡ held → firm g h ≡ true → ((i : ℕ) → i < g.a → live_at g (standing g r) i ≡ false) → ⊥
  never-stranded h e z b = let p = refuge h e z in dead b p.0 p.1 p.2 p.3

  -- the way found is later than the current one
  pub later : (k : ℕ) → live_at g (standing g r) k ≡ true → r.way ≤ k
  unfolding ways_before
  later k a = go r.way refl
    where
      go : (w : ℕ) → r.way ≡ w → w ≤ k
      go zero e = omega arith
      go (suc m) e = elim (split? k m) [
        | inl h ↦ clash (live_at g (standing g r) k) a (c.earlier k (rw e h))
        | inr h ↦ elim (same? m k) [
          | inl p ↦ absurd ((live-e g ok.shape.bookings r k c.past a).unlost x (rw (← p, ← e) ix) lx)
          | inr d ↦ omega arith
        ]
      ]

  module _ (none : (q : ℕ) → code r q ≢ requested) (stopped : (b : ℕ) → code r b ≢ returning) where
    -- the state after the switch is sound, if its way has no lost booking and all that is held and firm
    turned : (w : ℕ) → w ≤ g.a → Live g r w → ((k : ℕ) → k < ways_before g w → live_at g (standing g r) k ≡ false) → Sound g (turn r w)
    unfolding code
    turned w h l b =
        record {
          core = record {
            size = c.size;
            codes = c.codes;
            way = h;
            past = c.past;
            preds = λ u v n i e. c.preds u v n (λ q. absurd (l.unlost v (i q) q)) e;
            shown = c.shown;
            asked = λ q e. absurd (none q e);
            going = λ q e. absurd (stopped q e);
            quiet-outside = λ p q e o m. none q m;
            quiet-returning = λ p q e m. none q m;
            earlier = b;
            firm-in = l.has-firm;
            desks = c.desks;
          };
          waits = λ q e i. absurd (l.unlost q i e);
        }

    switched : Sound g (turn r (first_live g (standing g r)))
    unfolding ways_before
    switched = go (first_live_lem g (standing g r))
      where
        go : {w : ℕ} → FirstLive g (standing g r) w → Sound g (turn r w)
        go (at k h a b) = turned (suc k) h (live-e g ok.shape.bookings r k c.past a) b
        go (nowhere b) =
            turned 0 (omega arith) (record { unlost = λ q i e. clash (in_way g 0 q) i (no_way g q); has-firm = λ q e z. absurd (never-stranded q e z b) }) b

-- what follows a Y or an N
pub settled : (g : Network) → Passes g → (r : Run) → Core g r → ((b : ℕ) → code r b ≢ returning) → Sound g (settle g r)
unfolding settle to_switch
settled g ok r c stopped =
    by_cond (Sound g)
    (λ e.
    let l = lost-e g r r.way (and_r (not (some (standing g r).requested)) _ e) in
    switched g ok r c l.0 l.2 l.1
    (λ q m. none-coded g r requested (not-true _ (and_l (not (some (standing g r).requested)) _ e)) q (inside g r c.past q (omega arith)) m) stopped)
    (λ e. record {
      core = c;
      waits = λ b l i. elim (which (some (standing g r).requested)) [
        | inl p ↦ (let m = some-coded g r requested p in (m.0, m.2))
        | inr p ↦ (let z = lost-i g ok.shape.bookings r r.way b (inside g r c.past b (omega arith)) i l in
            clash (not (some (standing g r).requested) && lost_in (standing g r) (here g r)) (not-i _ p & z) e)
      ];
    })
