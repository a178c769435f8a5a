-- One booking's code changes and the way stays: what keeps a state sound. Every order and every reply is such a change.
-- Assumes nothing.
use mathlib.Core.Path.{◌≡◌, refl, ◌∙◌}
use mathlib.Core.Logic.{◌≢◌, ◌⊎◌, inl, inr}
use mathlib.Core.Bool.{true, false}
use Prim.Native.Nat.{ℕ, ◌≤◌, ◌<◌}
use native.Mathlib.Omega.{arith}
use lib.ListN.{get_or, length-set}
use lib.Seq.{get_or-set_same, get_or-set_other}
use Rattle.bounded.proofs.Bools.{clash, same?, which}
use Rattle.sets.specs.Sets.{member}
use Rattle.desks.specs.Desks.{open_at}
use Rattle.desks.proofs.Laws.{open-mono, open-one}
use Rattle.network.specs.Network.{in_way, pre, firm, exposed, desk_of}
use Rattle.network.specs.declared.Network.{Network}
use Rattle.verdict.proofs.Facts.{Passes}
use Rattle.standing.specs.Standing.{free, requested, held, lost, returning, matters}
use Rattle.run.specs.State.{code, standing, put}
use Rattle.run.specs.declared.Run.{Run}
use Rattle.run.proofs.Facts.{Core, matter-i, matter-e, live-later}

-- what lets booking x get code v in a sound state
pub record Fits (g : Network) (r : Run) (x v : ℕ) : Type 0 where
  pub booking : x < g.n
  pub small : v ≤ returning
  -- a lost booking stays lost, and a held firm one stays held
  pub unlost : code r x ≢ lost
  pub keeps : code r x ≡ held → firm g x ≡ true → ⊥
  -- what precedes x is held unless x becomes free, and x is held if a booking in use stands on it
  pub ready : v ≢ free → (u : ℕ) → pre g u x ≡ true → code r u ≡ held
  pub lets : (w : ℕ) → code r w ≢ free → (code r w ≡ lost → in_way g r.way w ≡ true) → pre g x w ≡ true → v ≡ held
  -- what its kind and the current way allow
  pub shown : v ≡ lost → exposed g x ≡ true
  pub asked : v ≡ requested → in_way g r.way x ≡ true
  pub going : v ≡ returning → (firm g x ≡ false) × (in_way g r.way x ≡ false)
  pub firm-in : v ≡ held → firm g x ≡ true → in_way g r.way x ≡ true
  -- nothing is requested while something is held outside the current way or returning
  pub quiet-outside : v ≡ requested → (b : ℕ) → code r b ≡ held → in_way g r.way b ≡ false → ⊥
  pub quiet-returning : v ≡ requested → (b : ℕ) → code r b ≢ returning
  pub loose : v ≡ held → in_way g r.way x ≡ false → (q : ℕ) → code r q ≢ requested
  pub alone : v ≡ returning → (q : ℕ) → code r q ≢ requested
  -- where x becomes a matter, its desk has room for it
  pub room : (v ≡ requested) ⊎ (v ≡ returning) → (d : ℕ) → d < 8 → member (desk_of g d) x ≡ true → open_at g.desk (matters (standing g r)) d < g.limit

module _ (g : Network) (ok : Passes g) (r : Run) (c : Core g r) (x v : ℕ) (f : Fits g r x v) where
  pub hit : (b : ℕ) → b ≡ x → code (put r x v) b ≡ v
  unfolding code
  hit b p = rw p (get_or-set_same r.code x v 0 (omega (arith, f.booking, c.size, ok.shape.bookings)))

  pub miss : (b : ℕ) → b ≢ x → code (put r x v) b ≡ code r b
  unfolding code
  miss b d = get_or-set_other r.code x b v 0 d

  past : (b : ℕ) → g.n ≤ b → code (put r x v) b ≡ free
  past b h = miss b (omega (arith, f.booking)) ∙ c.past b h

  -- what is open after the change and is not x was open before
  open-before : (b : ℕ) → b ≢ x → member (matters (standing g (put r x v))) b ≡ true → member (matters (standing g r)) b ≡ true
  open-before b d e = let m = matter-e g (put r x v) b e in matter-i g r b m.0 (elim m.1 [ inl z ↦ inl (omega (arith, miss b d)) | inr z ↦ inr (omega (arith, miss b d)) ])

  desk-kept : (d : ℕ) → d < 8 → open_at g.desk (matters (standing g (put r x v))) d ≤ g.limit
  unfolding desk_of
  desk-kept d h = elim (which (member (get_or g.desk d 0) x)) [
    | inl e ↦ elim (which (member (matters (standing g (put r x v))) x)) [
      | inl o ↦ (let m = matter-e g (put r x v) x o in
          omega (
            arith,
            open-one g.desk d (matters (standing g (put r x v))) (matters (standing g r)) x open-before,
            f.room (elim m.1 [ inl z ↦ inl (omega (arith, hit x refl)) | inr z ↦ inr (omega (arith, hit x refl)) ]) d h e,
          ))
      | inr n ↦ fewer d h (λ b i o p. absurd (clash (member (matters (standing g (put r x v))) x) (rw p at o) n))
    ]
    | inr e ↦ fewer d h (λ b i o p. absurd (clash (member (get_or g.desk d 0) x) (rw p at i) e))
  ]
    where
      -- where x is no matter of the desk, it has no more open than before
      fewer : (d : ℕ) → d < 8 → ((b : ℕ) → member (get_or g.desk d 0) b ≡ true → member (matters (standing g (put r x v))) b ≡ true → b ≢ x)
          → open_at g.desk (matters (standing g (put r x v))) d ≤ g.limit
      fewer d h other =
          omega (arith, c.desks d h, open-mono g.desk d (matters (standing g (put r x v))) (matters (standing g r)) (λ b l i o. open-before b (other b i o) o))

  pub change : Core g (put r x v)
  change =
      record {
        size = length-set r.code x v ∙ c.size;
        codes = λ b. elim (same? b x) [ inl p ↦ omega (arith, hit b p, f.small) | inr d ↦ omega (arith, miss b d, c.codes b) ];
        way = c.way;
        past = past;
        preds = λ u w a l e. elim (same? u x) [
          | inl p ↦ hit u p ∙ elim (same? w x) [
            | inl q ↦ clash (pre g x x) (rw (p, q) at e) (ok.irreflexive x)
            | inr d ↦ f.lets w (omega (arith, miss w d)) (λ z. l (omega (arith, miss w d))) (rw p at e)
          ]
          | inr d ↦ miss u d ∙ elim (same? w x) [
            | inl q ↦ f.ready (omega (arith, hit w q)) u (rw q at e)
            | inr h ↦ c.preds u w (omega (arith, miss w h)) (λ z. l (omega (arith, miss w h))) e
          ]
        ];
        shown = λ b e. elim (same? b x) [ inl p ↦ rw p (f.shown (omega (arith, hit b p))) | inr d ↦ c.shown b (omega (arith, miss b d)) ];
        asked = λ b e. elim (same? b x) [ inl p ↦ rw p (f.asked (omega (arith, hit b p))) | inr d ↦ c.asked b (omega (arith, miss b d)) ];
        going = λ b e. elim (same? b x) [ inl p ↦ rw p (f.going (omega (arith, hit b p))) | inr d ↦ c.going b (omega (arith, miss b d)) ];
        quiet-outside = λ b q e o m. elim (same? q x) [
          | inl p ↦ elim (same? b x) [ inl z ↦ omega (arith, hit q p, hit b z) | inr d ↦ f.quiet-outside (omega (arith, hit q p)) b (omega (arith, miss b d)) o ]
          | inr h ↦ elim (same? b x) [
            | inl z ↦ f.loose (omega (arith, hit b z)) (rw z at o) q (omega (arith, miss q h))
            | inr d ↦ c.quiet-outside b q (omega (arith, miss b d)) o (omega (arith, miss q h))
          ]
        ];
        quiet-returning = λ b q e m. elim (same? q x) [
          | inl p ↦ elim (same? b x) [ inl z ↦ omega (arith, hit q p, hit b z) | inr d ↦ f.quiet-returning (omega (arith, hit q p)) b (omega (arith, miss b d)) ]
          | inr h ↦ elim (same? b x) [
            | inl z ↦ f.alone (omega (arith, hit b z)) q (omega (arith, miss q h))
            | inr d ↦ c.quiet-returning b q (omega (arith, miss b d)) (omega (arith, miss q h))
          ]
        ];
        earlier = λ k h. live-later g ok.shape.bookings r (put r x v) k past
            (λ b e. elim (same? b x) [ inl p ↦ absurd (f.unlost (rw p at e)) | inr d ↦ miss b d ∙ e ])
            (λ b e z. elim (same? b x) [ inl p ↦ absurd (f.keeps (rw p at e) (rw p at z)) | inr d ↦ miss b d ∙ e ])
            (c.earlier k h);
        firm-in = λ b e q. elim (same? b x) [ inl p ↦ rw p (f.firm-in (omega (arith, hit b p)) (rw p at q)) | inr d ↦ c.firm-in b (omega (arith, miss b d)) q ];
        desks = desk-kept;
      }
