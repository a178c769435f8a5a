-- The cases of a reply, and that a reply keeps a state sound.
-- Assumes nothing.
use mathlib.Core.Path.{◌≡◌}
use mathlib.Core.Logic.{◌≢◌, inl, inr}
use mathlib.Core.Bool.{true}
use Prim.Native.Nat.{ℕ, ◌≤◌, ◌<◌}
use native.Mathlib.Omega.{arith}
use Rattle.bounded.proofs.Bools.{clash, same?}
use Rattle.network.specs.Network.{in_way, firm, exposed}
use Rattle.network.specs.declared.Network.{Network}
use Rattle.verdict.proofs.Facts.{Passes}
use Rattle.standing.specs.Standing.{free, requested, held, lost, returning}
use Rattle.run.specs.State.{code, put}
use Rattle.run.specs.Replies.{settle, Replied}
use Rattle.run.specs.declared.Run.{Run}
use Rattle.run.proofs.Facts.{Core, Sound}
use Rattle.run.proofs.Cases.{ReplyCase, misfit, confirmed, refused, again, returned, kept}
use Rattle.guarantee.proofs.Change.{Fits, hit, miss, change}
use Rattle.guarantee.proofs.Switch.{settled}

module _ (g : Network) (ok : Passes g) (r : Run) (s : Sound g r) (b : ℕ) (h : b < g.n) (v : ℕ) where
  c : Core g r
  c = s.core

  pub requested-fits : code r b ≡ requested → v ≤ lost → v ≢ requested → (v ≡ lost → exposed g b ≡ true) → Fits g r b v
  unfolding c
  requested-fits m d1 d2 x =
      record {
        booking = h;
        small = omega arith;
        unlost = omega arith;
        ready = λ n u e. c.preds u b (omega arith) (λ z. absurd (omega arith)) e;
        lets = λ w n i e. absurd (omega (arith, c.preds b w n i e));
        shown = x;
        asked = λ e. absurd (d2 e);
        going = λ e. absurd (omega arith);
        quiet-outside = λ e. absurd (d2 e);
        quiet-returning = λ e. absurd (d2 e);
        loose = λ e o. clash (in_way g r.way b) (c.asked b m) o;
        alone = λ e. absurd (omega arith);
        room = λ o. absurd (elim o [ inl z ↦ omega arith | inr z ↦ omega arith ]);
        keeps = λ e. absurd (omega arith);
        firm-in = λ e z. c.asked b m;
      }

  -- nothing is returning
  pub requested-stopped : (m : code r b ≡ requested) (f : Fits g r b v) → v ≤ lost → (y : ℕ) → code (put r b v) y ≡ returning → ⊥
  unfolding c
  requested-stopped m f d y e =
      elim (same? y b) [ inl p ↦ omega (arith, hit g ok r c b v f y p) | inr d ↦ c.quiet-returning y b (omega (arith, miss g ok r c b v f y d)) m ]

  requested-sound : code r b ≡ requested → v ≤ lost → v ≢ requested → (v ≡ lost → exposed g b ≡ true) → Sound g (settle g (put r b v))
  unfolding c
  requested-sound m d1 d2 x =
      let f = requested-fits m d1 d2 x in
      settled g ok (put r b v) (change g ok r c b v f) (requested-stopped m f d1)

  pub returning-fits : code r b ≡ returning → v ≤ held → v ≢ requested → Fits g r b v
  unfolding c
  returning-fits m d1 d2 =
      record {
        booking = h;
        small = omega arith;
        unlost = omega arith;
        ready = λ n u e. c.preds u b (omega arith) (λ z. absurd (omega arith)) e;
        lets = λ w n i e. absurd (omega (arith, c.preds b w n i e));
        shown = λ e. absurd (omega arith);
        asked = λ e. absurd (d2 e);
        going = λ e. absurd (omega arith);
        quiet-outside = λ e. absurd (d2 e);
        quiet-returning = λ e. absurd (d2 e);
        loose = λ e o q n. c.quiet-returning b q m n;
        alone = λ e. absurd (omega arith);
        room = λ o. absurd (elim o [ inl z ↦ omega arith | inr z ↦ omega arith ]);
        keeps = λ e. absurd (omega arith);
        firm-in = λ e z. clash (firm g b) z (c.going b m).0;
      }

  returning-sound : code r b ≡ returning → v ≤ held → v ≢ requested → Sound g (put r b v)
  unfolding c
  returning-sound m d1 d2 =
      let f = returning-fits m d1 d2 in
      record {
        core = change g ok r c b v f;
        waits = λ x l i. elim (same? x b) [
          | inl p ↦ absurd (omega (arith, hit g ok r c b v f x p))
          | inr d ↦ (let q = s.waits x (omega (arith, miss g ok r c b v f x d)) i in absurd (c.quiet-returning b q.0 m q.1))
        ];
      }

pub reply-sound : (g : Network) → Passes g → (r : Run) → Sound g r → (l b : ℕ) {t : Replied} → ReplyCase g r l b t → Sound g t.run
reply-sound g ok r s l b misfit = s
reply-sound g ok r s l b (confirmed h m e) = requested-sound g ok r s b h held m (omega arith) (omega arith) (λ z. absurd (omega arith))
reply-sound g ok r s l b (refused h m e x) = requested-sound g ok r s b h lost m (omega arith) (omega arith) (λ z. x)
reply-sound g ok r s l b (again h m e x) = requested-sound g ok r s b h free m (omega arith) (omega arith) (λ z. absurd (omega arith))
reply-sound g ok r s l b (returned h m e) = returning-sound g ok r s b h free m (omega arith) (omega arith)
reply-sound g ok r s l b (kept h m e) = returning-sound g ok r s b h held m (omega arith) (omega arith)
