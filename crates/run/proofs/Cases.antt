-- The cases of the first live way, of next order and of a reply, each with what is known in it. Theorems go by these cases.
-- Assumes nothing.
use mathlib.Core.Path.{◌≡◌}
use mathlib.Core.Logic.{◌≢◌}
use mathlib.Core.Bool.{true, false, ◌&&◌}
use Prim.Native.Nat.{ℕ, suc, ◌≤◌, ◌<◌}
use lib.Dec.{eqb}
use lib.Bits.{bit_and, bit_or}
use borrow.Author.Tests.{ltb-true, eqb-true, eqb-false, not-true}
use Rattle.bounded.specs.Bounded.{first}
use Rattle.bounded.proofs.Bools.{by_cond, and_l, and_r}
use Rattle.bounded.proofs.First.{Least, first-least, first-none}
use Rattle.sets.specs.Sets.{member, without, some}
use Rattle.sets.proofs.Facts.{both-e, without-e}
use Rattle.desks.specs.Desks.{open_at}
use Rattle.desks.proofs.Laws.{nothing-open, room}
use Rattle.network.specs.Network.{in_way, exposed, desk_of}
use Rattle.network.specs.declared.Network.{Network}
use Rattle.standing.specs.Standing.{free, requested, held, lost, returning, matters}
use Rattle.standing.specs.Ways.{precedes_some, ready, lost_in, live_at, first_live}
use Rattle.standing.specs.declared.Standing.{Standing}
use Rattle.run.specs.State.{code, is, standing, here, put}
use Rattle.run.specs.Orders.{passed, may_return, to_return, may_request, to_request, unchanged, ending, next}
use Rattle.run.specs.Replies.{Y, N, G, K, settle, after_no, fits, misfits, reply, Replied}
use Rattle.run.specs.declared.Run.{Run}
use Rattle.run.specs.declared.Ordered.{Ordered}
use Rattle.run.specs.declared.Order.{Order}
use Rattle.run.specs.declared.Order.TheVariants.{Request, Return, Wait, Flown, Off}
use Rattle.run.proofs.Facts.{is-e, coded-e, no-matter}

-- ---- the first live way

pub data FirstLive (g : Network) (s : Standing) : ℕ → Type 0 where
  at : (k : ℕ) → k < g.a → live_at g s k ≡ true → ((i : ℕ) → i < k → live_at g s i ≡ false) → FirstLive g s (suc k)
  nowhere : ((i : ℕ) → i < g.a → live_at g s i ≡ false) → FirstLive g s 0

pub first_live_lem : (g : Network) (s : Standing) → FirstLive g s (first_live g s)
unfolding first_live
first_live_lem g s = by_cond (FirstLive g s) (λ e. at k (ltb-true _ _ e) (l.at (ltb-true _ _ e)) l.before) (λ e. nowhere (first-none (live_at g s) g.a e))
  where
    k : ℕ
    k = first (live_at g s) g.a

    l : Least (live_at g s) g.a k
    l = first-least (live_at g s) g.a

-- ---- next order

-- rules 1 to 3 do not apply
pub record Idle (g : Network) (r : Run) : Type 0 where
  pub unlost : lost_in (standing g r) (here g r) ≡ false
  pub kept : (b : ℕ) → b < 64 → to_return g (standing g r) (here g r) b ≡ false
  pub none-returning : some (standing g r).returning ≡ false

-- rules 1 to 5 do not apply
pub record Done (g : Network) (r : Run) : Type 0 where
  pub idle : Idle g r
  pub full : (b : ℕ) → b < g.n → to_request g (standing g r) (here g r) b ≡ false
  pub none-requested : some (standing g r).requested ≡ false

pub data NextCase (g : Network) (r : Run) : Ordered → Type 0 where
  blocked : lost_in (standing g r) (here g r) ≡ true → NextCase g r (unchanged Wait r)
  gives : (x : ℕ) → lost_in (standing g r) (here g r) ≡ false → to_return g (standing g r) (here g r) x ≡ true → NextCase g r (record { order = Return x; run = put r x returning })
  busy : some (standing g r).returning ≡ true → NextCase g r (unchanged Wait r)
  asks : (y : ℕ) → Idle g r → to_request g (standing g r) (here g r) y ≡ true → NextCase g r (record { order = Request y; run = put r y requested })
  pends : some (standing g r).requested ≡ true → NextCase g r (unchanged Wait r)
  over : Done g r → r.way ≡ 0 → NextCase g r (unchanged Off r)
  flies : Done g r → r.way ≢ 0 → NextCase g r (unchanged (Flown r.way) r)

pub next-case : (g : Network) (r : Run) → NextCase g r (next g r)
unfolding next ending
next-case g r =
    by_cond P blocked
    (λ u. by_cond P (λ e. gives x u ((first-least (to_return g (standing g r) (here g r)) 64).at (ltb-true _ _ e)))
    (λ e. by_cond P busy
    (λ s.
    let i : Idle g r = record { unlost = u; kept = first-none (to_return g (standing g r) (here g r)) 64 e; none-returning = s } in
    by_cond P (λ z. asks y i ((first-least (to_request g (standing g r) (here g r)) g.n).at (ltb-true _ _ z)))
    (λ z. by_cond P pends
    (λ q.
    let d : Done g r = record { idle = i; full = first-none (to_request g (standing g r) (here g r)) g.n z; none-requested = q } in
    by_cond E (λ w. over d (eqb-true _ _ w)) (λ w. flies d (eqb-false _ _ w)))))))
  where
    P : Ordered → Type 0
    P = NextCase g r

    E : Order → Type 0
    E o = NextCase g r (unchanged o r)

    x : ℕ
    x = first (to_return g (standing g r) (here g r)) 64

    y : ℕ
    y = first (to_request g (standing g r) (here g r)) g.n

-- a booking to return
pub record Returns (g : Network) (r : Run) (x : ℕ) : Type 0 where
  pub booking : x < g.n
  pub is_held : code r x ≡ held
  pub outside : in_way g r.way x ≡ false
  pub loose : precedes_some g (bit_or (standing g r).held (standing g r).returning) x ≡ false
  pub taken-on : passed g (standing g r) x ≡ false

pub return-facts : (g : Network) (r : Run) (x : ℕ) → to_return g (standing g r) (here g r) x ≡ true → Returns g r x
unfolding to_return may_return in_way
return-facts g r x e =
    let may = may_return g (standing g r) (here g r) x in
    let out = member (without (standing g r).held (here g r)) x in
    let t = without-e (standing g r).held (here g r) x (and_l out _ (and_l may _ e)) in
    let h = coded-e g r held x t.1 in
    record { booking = h.0; is_held = h.1; outside = t.2; loose = not-true _ (and_r out _ (and_l may _ e)); taken-on = not-true _ (and_r may _ e) }

-- a booking to request
pub record Requests (g : Network) (r : Run) (y : ℕ) : Type 0 where
  pub booking : y < g.n
  pub is_free : code r y ≡ free
  pub inside : in_way g r.way y ≡ true
  pub based : ready g (standing g r) y ≡ true
  pub taken-on : passed g (standing g r) y ≡ false

pub request-facts : (g : Network) (r : Run) (y : ℕ) → to_request g (standing g r) (here g r) y ≡ true → Requests g r y
unfolding to_request may_request in_way
request-facts g r y e =
    let may = may_request g (standing g r) (here g r) y in
    let wanted = member (bit_and (standing g r).free (here g r)) y in
    let t = both-e (standing g r).free (here g r) y (and_l wanted _ (and_l may _ e)) in
    let h = coded-e g r free y t.0 in
    record { booking = h.0; is_free = h.1; inside = t.1; based = and_r wanted _ (and_l may _ e); taken-on = not-true _ (and_r may _ e) }

-- with nothing requested or returning no order is passed over: a limit is 1 or more
pub none_passed : (g : Network) → 1 ≤ g.limit → (r : Run) → ((b : ℕ) → code r b ≢ requested) → ((b : ℕ) → code r b ≢ returning)
    → (b : ℕ) → passed g (standing g r) b ≡ false
unfolding passed
none_passed g h r n o = nothing-open g.limit g.desk (matters (standing g r)) h (λ b. no-matter g r b (n b) (o b))

-- where an order was not passed over, its desk has room
pub has_room : (g : Network) (s : Standing) (b d : ℕ) → passed g s b ≡ false → d < 8 → member (desk_of g d) b ≡ true → open_at g.desk (matters s) d < g.limit
unfolding passed desk_of
has_room g s b d e h m = room g.limit g.desk (matters s) b d e h m

-- ---- replies

-- what a reply of letter l to booking b is
pub data ReplyCase (g : Network) (r : Run) (l b : ℕ) : Replied → Type 0 where
  misfit : ReplyCase g r l b (misfits r)
  confirmed : b < g.n → code r b ≡ requested → l ≡ Y → ReplyCase g r l b (fits (settle g (put r b held)))
  refused : b < g.n → code r b ≡ requested → l ≡ N → exposed g b ≡ true → ReplyCase g r l b (fits (settle g (put r b lost)))
  again : b < g.n → code r b ≡ requested → l ≡ N → exposed g b ≡ false → ReplyCase g r l b (fits (settle g (put r b free)))
  returned : b < g.n → code r b ≡ returning → l ≡ G → ReplyCase g r l b (fits (put r b free))
  kept : b < g.n → code r b ≡ returning → l ≡ K → ReplyCase g r l b (fits (put r b held))

pub reply-case : (g : Network) (r : Run) (l b : ℕ) → ReplyCase g r l b (reply g r l b)
unfolding reply after_no
reply-case g r l b =
    by_cond P
    (λ h. by_cond P (λ e. with requested Y e (confirmed (ltb-true _ _ h)))
    (λ z. by_cond P (λ e. by_cond Q (λ x. with requested N e (λ m i. refused (ltb-true _ _ h) m i x)) (λ x. with requested N e (λ m i. again (ltb-true _ _ h) m i x)))
    (λ z. by_cond P (λ e. with returning G e (returned (ltb-true _ _ h)))
    (λ z. by_cond P (λ e. with returning K e (kept (ltb-true _ _ h))) (λ z. misfit)))))
    (λ z. misfit)
  where
    P : Replied → Type 0
    P = ReplyCase g r l b

    Q : ℕ → Type 0
    Q v = P (fits (settle g (put r b v)))

    with : {A : Type 0} (c m : ℕ) → is r c b && eqb l m ≡ true → (code r b ≡ c → l ≡ m → A) → A
    with c m e f = f (is-e r c b (and_l (is r c b) _ e)) (eqb-true _ _ (and_r (is r c b) _ e))
