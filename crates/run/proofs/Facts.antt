-- What codes, a live way and a sound state are, as facts without bounds; the tests of codes and live ways cross over here.
-- Assumes nothing.
use mathlib.Core.Path.{◌≡◌}
use mathlib.Core.Logic.{◌≢◌, ◌⊎◌, inl, inr}
use mathlib.Core.Bool.{true, false, not}
use Prim.Native.Nat.{ℕ, suc, ◌≤◌, ◌<◌}
use native.Mathlib.Omega.{arith}
use lib.ListN.{length}
use borrow.Author.Tests.{not-true}
use Rattle.bounded.proofs.Bools.{clash, off, split?, and_l, and_r, ◌&◌, not-i}
use Rattle.sets.specs.Sets.{member, some}
use Rattle.sets.proofs.Facts.{subset-e, subset-i, meet-i, meet-e, both-i, both-e, either-e, either_l, either_r}
use Rattle.desks.specs.Desks.{open_at}
use Rattle.network.specs.Network.{way_of, in_way, pre, firm, exposed}
use Rattle.network.specs.declared.Network.{Network}
use Rattle.standing.specs.Standing.{free, requested, held, lost, returning, coded, matters}
use Rattle.standing.specs.Ways.{lost_in, held_firm, live, live_at}
use Rattle.standing.proofs.Facts.{is-i as list-i, is-e as list-e, coded-i as in-i, coded-e as in_e, some-coded as some_in, none-coded as none_in}
use Rattle.run.specs.State.{code, is, standing}
use Rattle.run.specs.Sound.{ways_before}
use Rattle.run.specs.declared.Run.{Run}

-- ---- codes

module _ (r : Run) (c b : ℕ) where
  pub is-i : code r b ≡ c → is r c b ≡ true
  unfolding code
  is-i e = list-i r.code c b e

  pub is-e : is r c b ≡ true → code r b ≡ c
  unfolding code
  is-e e = list-e r.code c b e

module _ (g : Network) (r : Run) (c : ℕ) where
  pub coded-i : (b : ℕ) → b < g.n → code r b ≡ c → member (coded r.code g.n c) b ≡ true
  unfolding code
  coded-i b h e = in-i r.code g.n c b h e

  pub coded-e : (b : ℕ) → member (coded r.code g.n c) b ≡ true → (b < g.n) × (code r b ≡ c)
  unfolding code
  coded-e b e = in_e r.code g.n c b e

  pub some-coded : some (coded r.code g.n c) ≡ true → (b : ℕ) × (b < g.n) × (code r b ≡ c)
  unfolding code
  some-coded e = some_in r.code g.n c e

  pub none-coded : some (coded r.code g.n c) ≡ false → (b : ℕ) → b < g.n → code r b ≢ c
  unfolding code
  none-coded e b h z = none_in r.code g.n c e b h z

-- the open matters
module _ (g : Network) (r : Run) (b : ℕ) where
  pub matter-i : b < g.n → (code r b ≡ requested) ⊎ (code r b ≡ returning) → member (matters (standing g r)) b ≡ true
  unfolding matters
  matter-i h o = elim o [
    | inl e ↦ either_l (standing g r).requested (standing g r).returning b (coded-i g r requested b h e)
    | inr e ↦ either_r (standing g r).requested (standing g r).returning b (coded-i g r returning b h e)
  ]

  pub matter-e : member (matters (standing g r)) b ≡ true → (b < g.n) × ((code r b ≡ requested) ⊎ (code r b ≡ returning))
  unfolding matters
  matter-e e = elim (either-e (standing g r).requested (standing g r).returning b e) [
    | inl m ↦ (let t = coded-e g r requested b m in (t.0, inl t.1))
    | inr m ↦ (let t = coded-e g r returning b m in (t.0, inr t.1))
  ]

  pub no-matter : code r b ≢ requested → code r b ≢ returning → member (matters (standing g r)) b ≡ false
  no-matter n o = off (member (matters (standing g r)) b) (λ e. elim (matter-e e).1 [ inl z ↦ n z | inr z ↦ o z ])

-- the held firm bookings
module _ (g : Network) (r : Run) (b : ℕ) where
  pub firm-i : b < g.n → code r b ≡ held → firm g b ≡ true → member (held_firm g (standing g r)) b ≡ true
  unfolding held_firm firm
  firm-i h e f = both-i (standing g r).held g.firm b (coded-i g r held b h e) f

  pub firm-e : member (held_firm g (standing g r)) b ≡ true → (code r b ≡ held) × (firm g b ≡ true)
  unfolding held_firm firm
  firm-e e = let t = both-e (standing g r).held g.firm b e in ((coded-e g r held b t.0).1, t.1)

-- ---- soundness as facts

-- bytes past n are zero
abbrev pub Past : Network → Run → Type 0
Past g r = (b : ℕ) → g.n ≤ b → code r b ≡ free

-- all of soundness but that something is requested where the current way has a lost booking
pub record Core (g : Network) (r : Run) : Type 0 where
  -- 64 codes of at most 4, a way of at most a, zero past n
  pub size : length r.code ≡ 64
  pub codes : (b : ℕ) → code r b ≤ 4
  pub way : r.way ≤ g.a
  pub past : Past g r
  -- a requested, held or returning booking, and a lost one in the current way, has all predecessors held
  pub preds : (u v : ℕ) → code r v ≢ free → (code r v ≡ lost → in_way g r.way v ≡ true) → pre g u v ≡ true → code r u ≡ held
  -- lost ones are exposed, requested ones in the current way, returning ones not firm and outside it, held firm ones in it
  pub shown : (b : ℕ) → code r b ≡ lost → exposed g b ≡ true
  pub asked : (b : ℕ) → code r b ≡ requested → in_way g r.way b ≡ true
  pub going : (b : ℕ) → code r b ≡ returning → (firm g b ≡ false) × (in_way g r.way b ≡ false)
  pub firm-in : (b : ℕ) → code r b ≡ held → firm g b ≡ true → in_way g r.way b ≡ true
  -- nothing is requested while something is held outside the current way or returning
  pub quiet-outside : (b q : ℕ) → code r b ≡ held → in_way g r.way b ≡ false → code r q ≢ requested
  pub quiet-returning : (b q : ℕ) → code r b ≡ returning → code r q ≢ requested
  -- the ways before the current one are not live
  pub earlier : (k : ℕ) → k < ways_before g r.way → live_at g (standing g r) k ≡ false
  -- no desk has more matters open than the limit
  pub desks : (d : ℕ) → d < 8 → open_at g.desk (matters (standing g r)) d ≤ g.limit

pub record Sound (g : Network) (r : Run) : Type 0 where
  pub core : Core g r
  pub waits : (b : ℕ) → code r b ≡ lost → in_way g r.way b ≡ true → (q : ℕ) × (code r q ≡ requested)

-- a code that is not free is a booking's
pub inside : (g : Network) (r : Run) → Past g r → (b : ℕ) → code r b ≢ free → b < g.n
inside g r past b h = elim (split? b g.n) [ inl l ↦ l | inr l ↦ absurd (h (past b l)) ]

-- ---- live ways

-- no booking of way w is lost, and every held firm one is in it
pub record Live (g : Network) (r : Run) (w : ℕ) : Type 0 where
  pub unlost : (b : ℕ) → in_way g w b ≡ true → code r b ≢ lost
  pub has-firm : (b : ℕ) → code r b ≡ held → firm g b ≡ true → in_way g w b ≡ true

pub lost-e : (g : Network) (r : Run) (w : ℕ) → lost_in (standing g r) (way_of g w) ≡ true → (b : ℕ) × (in_way g w b ≡ true) × (code r b ≡ lost)
unfolding lost_in in_way
lost-e g r w e = let t = meet-e (way_of g w) (standing g r).lost e in (t.0, t.2, (coded-e g r lost t.0 t.3).1)

pub live-i : (g : Network) (r : Run) (k : ℕ) → Live g r (suc k) → live_at g (standing g r) k ≡ true
unfolding live_at live in_way
live-i g r k l =
    let way = way_of g (suc k) in
    not-i _ (off (lost_in (standing g r) way) (λ e. let p = lost-e g r (suc k) e in l.unlost p.0 p.1 p.2))
    & subset-i (held_firm g (standing g r)) way (λ b h m. let t = firm-e g r b m in l.has-firm b t.0 t.1)

module _ (g : Network) (small : g.n ≤ 64) where
  pub lost-i : (r : Run) (w b : ℕ) → b < g.n → in_way g w b ≡ true → code r b ≡ lost → lost_in (standing g r) (way_of g w) ≡ true
  unfolding lost_in in_way
  lost-i r w b h e l = meet-i (way_of g w) (standing g r).lost b (omega arith) e (coded-i g r lost b h l)

  pub live-e : (r : Run) (k : ℕ) → Past g r → live_at g (standing g r) k ≡ true → Live g r (suc k)
  unfolding live_at live in_way
  live-e r k c e =
      let way = way_of g (suc k) in
      let unlost = lost_in (standing g r) way in
      record {
        unlost = λ b p q. clash unlost (lost-i r (suc k) b (inside g r c b (omega arith)) p q) (not-true _ (and_l (not unlost) _ e));
        has-firm = λ b p q.
            let h = inside g r c b (omega arith) in
            subset-e (held_firm g (standing g r)) way b (and_r (not unlost) _ e) (omega arith) (firm-i g r b h p q);
      }

  -- lost bookings stay lost and held firm ones stay held: a way that is not live stays so
  pub live-later : (r s : Run) (k : ℕ) → Past g s
      → ((b : ℕ) → code r b ≡ lost → code s b ≡ lost) → ((b : ℕ) → code r b ≡ held → firm g b ≡ true → code s b ≡ held)
      → live_at g (standing g r) k ≡ false → live_at g (standing g s) k ≡ false
  live-later r s k c losses holds e =
      off (live_at g (standing g s) k) (λ p.
      let l = live-e s k c p in
      clash (live_at g (standing g r) k)
      (live-i g r k (record { unlost = λ b q z. l.unlost b q (losses b z); has-firm = λ b q z. l.has-firm b (holds b q z) z })) e)
