-- What one call does: the state stays sound, the counts follow the codes, and the potential pays for the event.
-- Assumes nothing.
use mathlib.Core.Path.{◌≡◌, refl, ◌∙◌}
use mathlib.Core.Logic.{◌≢◌, inl, inr}
use mathlib.Core.Bool.{true, false, ◌&&◌, ◌||◌}
use Prim.Native.Nat.{ℕ, zero, suc, ◌+◌, ◌*◌, ◌≤◌, ◌<◌}
use native.Mathlib.Nat.{le_refl}
use native.Mathlib.Omega.{arith}
use lib.Dec.{eqb}
use borrow.Author.Tests.{eq-eqb, ne_eqb}
use Rattle.bounded.specs.Bounded.{one}
use Rattle.bounded.proofs.Bools.{same?, by_cond, clash}
use Rattle.network.specs.Network.{in_way, firm, exposed, repeats}
use Rattle.network.specs.declared.Network.{Network}
use Rattle.verdict.proofs.Facts.{Passes}
use Rattle.standing.specs.Standing.{free, requested, held, lost, returning}
use Rattle.standing.specs.Ways.{first_live}
use Rattle.run.specs.State.{code, standing, here, put, turn}
use Rattle.run.specs.Replies.{Y, N, G, K, to_switch, settle, Replied}
use Rattle.run.specs.declared.Run.{Run}
use Rattle.run.specs.declared.Ordered.{Ordered}
use Rattle.run.proofs.Facts.{Sound}
use Rattle.run.proofs.Cases.{NextCase, blocked, gives, busy, asks, pends, over, flies, next-case, return-facts, request-facts, ReplyCase, misfit, confirmed as yes', refused, again as again', returned as returned', kept, reply-case}
use Rattle.guarantee.specs.Answers.{pack, kind_of, refusal_of, place_of, order_bits, place9, reply_bits}
use Rattle.guarantee.specs.Machine.{Asked, next_order, replied, reply_to, answer, after}
use Rattle.guarantee.specs.Counted.{sends, accepts, confirmed, returned, ordered, answered, event, again}
use Rattle.guarantee.proofs.Numbers.{small-9}
use Rattle.guarantee.proofs.Change.{Fits, hit, miss, change}
use Rattle.guarantee.proofs.Reply.{requested-fits, requested-stopped, returning-fits, reply-sound}
use Rattle.guarantee.proofs.Next.{return_fits, request-fits, next-sound}
use Rattle.guarantee.proofs.Potential.{weight, potential, potential-put, potential-settle}

-- ---- the parts of an answer

pub kind-pack : (k f p : ℕ) → f < 256 → p < 65536 → kind_of (pack k f p) ≡ k
unfolding kind_of pack
kind-pack k f p h l = omega arith

pub refusal-pack : (k f p : ℕ) → f < 256 → p < 65536 → refusal_of (pack k f p) ≡ f
unfolding refusal_of pack
refusal-pack k f p h l = omega arith

pub place-pack : (k f p : ℕ) → p < 65536 → place_of (pack k f p) ≡ p
unfolding place_of pack
place-pack k f p h = omega arith

-- ---- what the counts follow

-- confirmed and not given back: held or returning
abbrev pub hold : ℕ → ℕ
hold zero = 0
hold (suc zero) = 0
hold (suc (suc zero)) = 1
hold (suc (suc (suc zero))) = 0
hold (suc (suc (suc (suc c)))) = 1

-- a reply is awaited: requested or returning
abbrev pub awaits : ℕ → ℕ
awaits zero = 0
awaits (suc zero) = 1
awaits (suc (suc zero)) = 0
awaits (suc (suc (suc zero))) = 0
awaits (suc (suc (suc (suc c)))) = 1

-- what a call q, answered with x, does to a state
pub record Moved (g : Network) (r : Run) (q : Asked) (x : ℕ) (s : Run) : Type 0 where
  pub sound : Sound g s
  pub holds : (b : ℕ) → confirmed (suc b) q x + hold (code r b) ≡ returned (suc b) q x + hold (code s b)
  pub opens : (b : ℕ) → ordered (suc b) q x + awaits (code r b) ≡ answered (suc b) q x + awaits (code s b)
  pub firms : (b : ℕ) → firm g b ≡ true → returned (suc b) q x ≡ 0
  pub cost : event q x + potential g s ≤ potential g r + 2 * again g q x

-- only booking y changes
swing : (h : ℕ → ℕ) (r s : Run) (y : ℕ) (k m : ℕ → ℕ) → ((b : ℕ) → b ≢ y → code s b ≡ code r b)
    → k y + h (code r y) ≡ m y + h (code s y) → ((b : ℕ) → b ≢ y → k b ≡ m b) → (b : ℕ) → k b + h (code r b) ≡ m b + h (code s b)
swing h r s y k m miss here there b = elim (same? b y) [ inl p ↦ rw p here | inr d ↦ rw (miss b d, there b d) ]

-- the switch changes no code
pub settle-code : (g : Network) (r : Run) (b : ℕ) → code (settle g r) b ≡ code r b
unfolding settle code
settle-code g r b = by_cond (λ (s : Run). code s b ≡ code r b) {t = to_switch (standing g r) (here g r)} {a = turn r (first_live g (standing g r))} {b = r} (λ e. refl) (λ e. refl)

-- a test with another number fails
other : (y b : ℕ) → b ≢ y → eqb (suc y) (suc b) ≡ false
other y b d = ne_eqb (suc y) (suc b) (λ e. d (omega arith))

itself : (y : ℕ) → eqb (suc y) (suc y) ≡ true
itself y = eq-eqb (suc y) (suc y) refl

module _ (g : Network) (ok : Passes g) (r : Run) (s : Sound g r) where
  -- an order that sends nothing, and a reply that is refused, change nothing
  order-idle : (x : ℕ) → sends x ≡ false → Moved g r next_order x r
  unfolding confirmed returned ordered answered event again
  order-idle x e =
      record { sound = s; holds = λ b. refl; opens = λ b. rw e; firms = λ b z. refl; cost = rw e (omega arith) }

  reply-idle : (l n x : ℕ) → accepts x ≡ false → Moved g r (replied l n) x r
  unfolding confirmed returned ordered answered event again
  reply-idle l n x e =
      record { sound = s; holds = λ b. rw e; opens = λ b. rw e; firms = λ b z. rw e; cost = rw e (omega arith) }

  -- booking y becomes v, and perhaps the way changes
  module _ (y v : ℕ) (f : Fits g r y v) (t : Run) (st : Sound g t) (tc : (b : ℕ) → code t b ≡ code (put r y v) b) (tp : potential g t ≤ potential g (put r y v)) where
    now : code t y ≡ v
    now = tc y ∙ hit g ok r s.core y v f y refl

    rest : (b : ℕ) → b ≢ y → code t b ≡ code r b
    rest b d = tc b ∙ miss g ok r s.core y v f b d

    -- an order for y
    order-one : (x : ℕ) → sends x ≡ true → place_of x ≡ suc y → hold (code r y) ≡ hold v → 1 + awaits (code r y) ≡ awaits v
        → 1 + weight (in_way g r.way y) v ≤ weight (in_way g r.way y) (code r y) → Moved g r next_order x t
    unfolding confirmed returned ordered answered event again
    order-one x e p h o le =
        record {
          sound = st;
          holds = swing hold r t y (λ b. 0) (λ b. 0) rest (rw now (omega arith)) (λ b d. refl);
          opens = swing awaits r t y (λ b. one (sends x && eqb (place_of x) (suc b))) (λ b. 0) rest (rw (e, p, itself y, now) (omega arith)) (λ b d. rw (e, p, other y b d));
          firms = λ b z. refl;
          cost = rw e (omega (arith, potential-put g ok r s.core y v f));
        }

    -- an accepted reply of letter l to y
    reply-one : (l x : ℕ) → accepts x ≡ true → one (eqb l Y) + hold (code r y) ≡ one (eqb l G) + hold v → awaits (code r y) ≡ requested + awaits v
        → (firm g y ≡ true → one (eqb l G) ≡ 0)
        → 1 + weight (in_way g r.way y) v ≤ weight (in_way g r.way y) (code r y) + 2 * one ((eqb l N && repeats g y) || eqb l K)
        → Moved g r (replied l (suc y)) x t
    unfolding confirmed returned ordered answered event again
    reply-one l x e h o fi le =
        record {
          sound = st;
          holds = swing hold r t y (λ b. one (accepts x && (eqb (suc y) (suc b) && eqb l Y))) (λ b. one (accepts x && (eqb (suc y) (suc b) && eqb l G))) rest
              (rw (e, itself y, now) h) (λ b d. rw (e, other y b d));
          opens = swing awaits r t y (λ b. 0) (λ b. one (accepts x && eqb (suc y) (suc b))) rest (rw (e, itself y, now) (omega arith)) (λ b d. rw (e, other y b d));
          firms = λ b z. elim (same? b y) [ inl p ↦ rw (p, e, itself y) (fi (rw p at z)) | inr d ↦ rw (e, other y b d) ];
          cost = rw e (omega (arith, potential-put g ok r s.core y v f));
        }

  -- ---- next order

  order-moved : {t : Ordered} → NextCase g r t → Moved g r next_order (order_bits t.order) t.run
  unfolding order_bits sends kind_of pack
  order-moved (blocked e) = order-idle _ refl
  order-moved (gives y u e) =
      let k = return-facts g r y e in
      let m : code r y ≡ held = k.is_held in
      let l : suc y < 65536 = omega (arith, k.booking, ok.shape.bookings) in
      order-one y returning (return_fits g ok r s y u e) (put r y returning) (next-sound g ok r s (gives y u e)) (λ b. refl) (le_refl _)
      (pack 2 0 (suc y)) (rw (kind-pack 2 0 (suc y) (omega arith) l)) (place-pack 2 0 (suc y) l) (rw m) (rw m) (rw (k.outside, m) (omega arith))
  order-moved (busy e) = order-idle _ refl
  order-moved (asks y d e) =
      let k = request-facts g r y e in
      let m : code r y ≡ free = k.is_free in
      let l : suc y < 65536 = omega (arith, k.booking, ok.shape.bookings) in
      order-one y requested (request-fits g ok r s y d e) (put r y requested) (next-sound g ok r s (asks y d e)) (λ b. refl) (le_refl _)
      (pack 1 0 (suc y)) (rw (kind-pack 1 0 (suc y) (omega arith) l)) (place-pack 1 0 (suc y) l) (rw m) (rw m) (rw (k.inside, m) (omega arith))
  order-moved (pends e) = order-idle _ refl
  order-moved (over d e) = order-idle _ refl
  order-moved (flies d e) = order-idle _ (rw (kind-pack 4 0 r.way (omega arith) (omega (arith, s.core.way, ok.shape.few))))

  -- ---- replies

  accepted : (y : ℕ) → y < g.n → accepts (pack 6 0 (suc y)) ≡ true
  unfolding accepts
  accepted y h = rw (kind-pack 6 0 (suc y) (omega arith) (omega (arith, ok.shape.bookings)))

  refused-9 : (n : ℕ) → accepts (pack 0 9 (place9 n)) ≡ false
  unfolding accepts
  refused-9 n = rw (kind-pack 0 9 (place9 n) (omega arith) (omega (arith, small-9 n)))

  -- to a requested booking
  requested-moved : (l y v : ℕ) → (h : y < g.n) (m : code r y ≡ requested) (d1 : v ≤ lost) (d2 : v ≢ requested) (z : v ≡ lost → exposed g y ≡ true) → Sound g (settle g (put r y v))
      → one (eqb l Y) ≡ hold v → one (eqb l G) ≡ 0 → awaits v ≡ 0 → 1 + weight true v ≤ 3 + 2 * one ((eqb l N && repeats g y) || eqb l K)
      → Moved g r (replied l (suc y)) (pack 6 0 (suc y)) (settle g (put r y v))
  requested-moved l y v h m d1 d2 z st is_y not-g aw le =
      let f = requested-fits g ok r s y h v m d1 d2 z in
      reply-one y v f (settle g (put r y v)) st (settle-code g (put r y v))
      (potential-settle g (put r y v) (change g ok r s.core y v f) (requested-stopped g ok r s y h v m f d1) ok)
      l (pack 6 0 (suc y)) (accepted y h) (rw m (omega arith)) (rw m (omega arith)) (λ q. not-g) (rw (s.core.asked y m, m) le)

  -- to a returning booking
  returning-moved : (l y v : ℕ) → (h : y < g.n) (m : code r y ≡ returning) (d1 : v ≤ held) (d2 : v ≢ requested) → Sound g (put r y v)
      → one (eqb l Y) ≡ 0 → 1 ≡ one (eqb l G) + hold v → awaits v ≡ 0 → 1 + weight false v ≤ 1 + 2 * one ((eqb l N && repeats g y) || eqb l K)
      → Moved g r (replied l (suc y)) (pack 6 0 (suc y)) (put r y v)
  returning-moved l y v h m d1 d2 st not-y is-g aw le =
      let k = s.core.going y m in
      reply-one y v (returning-fits g ok r s y h v m d1 d2) (put r y v) st (λ b. refl) (le_refl _)
      l (pack 6 0 (suc y)) (accepted y h) (rw m (omega arith)) (rw m (omega arith)) (λ q. clash (firm g y) q k.0) (rw (k.1, m) le)

  reply-moved : (l y : ℕ) {t : Replied} → ReplyCase g r l y t → Moved g r (replied l (suc y)) (reply_bits (suc y) t.taken) t.run
  unfolding reply_bits repeats
  reply-moved l y misfit = reply-idle l (suc y) _ (refused-9 (suc y))
  reply-moved l y (yes' h m e) =
      rw e (requested-moved Y y held h m (omega arith) (omega arith) (λ z. absurd (omega arith)) (reply-sound g ok r s l y (yes' h m e)) refl refl refl (omega arith))
  reply-moved l y (refused h m e x) =
      rw e (requested-moved N y lost h m (omega arith) (omega arith) (λ z. x) (reply-sound g ok r s l y (refused h m e x)) refl refl refl (omega arith))
  reply-moved l y (again' h m e x) =
      rw e (requested-moved N y free h m (omega arith) (omega arith) (λ z. absurd (omega arith)) (reply-sound g ok r s l y (again' h m e x)) refl refl refl (rw x (omega arith)))
  reply-moved l y (returned' h m e) =
      rw e (returning-moved G y free h m (omega arith) (omega arith) (reply-sound g ok r s l y (returned' h m e)) refl refl refl (omega arith))
  reply-moved l y (kept h m e) =
      rw e (returning-moved K y held h m (omega arith) (omega arith) (reply-sound g ok r s l y (kept h m e)) refl refl refl (omega arith))

  pub moved : (q : Asked) → Moved g r q (answer g r q) (after g r q)
  unfolding answer after reply_to reply_bits
  moved next_order = order-moved (next-case g r)
  moved (replied l zero) = reply-idle l zero _ (refused-9 zero)
  moved (replied l (suc y)) = reply-moved l y (reply-case g r l y)
