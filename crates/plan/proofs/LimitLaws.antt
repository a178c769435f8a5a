-- The tests of the limits as facts.
-- Assumes nothing.
use mathlib.Core.Path.{◌≡◌}
use mathlib.Core.Logic.{◌⊎◌, inl, inr}
use mathlib.Core.Bool.{true, ◌&&◌}
use Prim.Native.Nat.{ℕ, ◌≤◌, ◌<◌}
use native.Mathlib.Omega.{arith}
use lib.Dec.{eqb, leb, ltb}
use borrow.Author.Tests.{leb-true, le-leb, eqb-true, eq-eqb, ltb-true, lt-ltb}
use Rattle.bounded.proofs.Bools.{and_l, and_r, ◌&◌, or_cases, or_l, or_r}
use Rattle.plan.specs.Limits.{most_bookings, most_links, most_ways, most_matters, most_desks, C, P, R, D, is_kind, is_desk, within, ours, counted, limits, rises, in_sequence}
use Rattle.plan.specs.declared.Limits.{Limits}

-- ---- from lo to hi

pub within-lo : (lo x hi : ℕ) → within lo x hi ≡ true → lo ≤ x
unfolding within
within-lo lo x hi e = leb-true lo x (and_l (leb lo x) (leb x hi) e)

pub within-hi : (lo x hi : ℕ) → within lo x hi ≡ true → x ≤ hi
unfolding within
within-hi lo x hi e = leb-true x hi (and_r (leb lo x) (leb x hi) e)

pub within-i : (lo x hi : ℕ) → lo ≤ x → x ≤ hi → within lo x hi ≡ true
unfolding within
within-i lo x hi p q = le-leb lo x p & le-leb x hi q

-- ---- the counts

-- of a plan that a caller with such limits takes
pub record Counted (most : Limits) (n m a : ℕ) : Type 0 where
  pub some_booking : 1 ≤ n
  pub bookings : n ≤ most.bookings
  pub links : m ≤ most.links
  pub some_way : 1 ≤ a
  pub ways : a ≤ most.ways

module _ (most : Limits) (n m a : ℕ) where
  pub counted-e : counted most n m a ≡ true → Counted most n m a
  unfolding counted
  counted-e e =
      let l : within 1 n most.bookings ≡ true = and_l (within 1 n most.bookings) _ e in
      let r : within 0 m most.links && within 1 a most.ways ≡ true = and_r (within 1 n most.bookings) _ e in
      let w : within 1 a most.ways ≡ true = and_r (within 0 m most.links) _ r in
      record {
        some_booking = within-lo 1 n most.bookings l;
        bookings = within-hi 1 n most.bookings l;
        links = within-hi 0 m most.links (and_l (within 0 m most.links) _ r);
        some_way = within-lo 1 a most.ways w;
        ways = within-hi 1 a most.ways w;
      }

  pub counted-i : Counted most n m a → counted most n m a ≡ true
  unfolding counted
  counted-i l =
      within-i 1 n most.bookings l.some_booking l.bookings
      & within-i 0 m most.links (omega arith) l.links
      & within-i 1 a most.ways l.some_way l.ways

pub record Limited (n m a limit : ℕ) : Type 0 where
  pub some_booking : 1 ≤ n
  pub bookings : n ≤ most_bookings
  pub links : m ≤ most_links
  pub some_way : 1 ≤ a
  pub ways : a ≤ most_ways
  pub some-matter : 1 ≤ limit
  pub matters : limit ≤ most_matters

pub limited : (n m a limit : ℕ) → limits n m a limit ≡ true → Limited n m a limit
unfolding limits ours
limited n m a limit e =
    let c : Counted ours n m a = counted-e ours n m a (and_l (counted ours n m a) _ e) in
    let o : within 1 limit most_matters ≡ true = and_r (counted ours n m a) _ e in
    record {
      some_booking = c.some_booking;
      bookings = c.bookings;
      links = c.links;
      some_way = c.some_way;
      ways = c.ways;
      some-matter = within-lo 1 limit most_matters o;
      matters = within-hi 1 limit most_matters o;
    }

pub limited-i : (n m a limit : ℕ) → Limited n m a limit → limits n m a limit ≡ true
unfolding limits ours
limited-i n m a limit l =
    counted-i ours n m a (record { some_booking = l.some_booking; bookings = l.bookings; links = l.links; some_way = l.some_way; ways = l.ways })
    & within-i 1 limit most_matters l.some-matter l.matters

-- ---- desks

pub desk-known : (d : ℕ) → is_desk d ≡ true → (1 ≤ d) × (d ≤ most_desks)
unfolding is_desk
desk-known d e = (within-lo 1 d most_desks e, within-hi 1 d most_desks e)

-- ---- kinds

-- what holds of each letter holds of every kind
pub each-kind : (T : ℕ → Type 0) → T C → T P → T R → T D → (k : ℕ) → is_kind k ≡ true → T k
unfolding is_kind
each-kind T c p r d k e = elim (or_cases (eqb k C) _ e) [
  | inl z ↦ rw (eqb-true k C z) c
  | inr x ↦ elim (or_cases (eqb k P) _ x) [
    | inl z ↦ rw (eqb-true k P z) p
    | inr y ↦ elim (or_cases (eqb k R) _ y) [ inl z ↦ rw (eqb-true k R z) r | inr z ↦ rw (eqb-true k D z) d ]
  ]
]

-- ---- links

pub rises-cases : (lastFrom last_to u v : ℕ) → rises lastFrom last_to u v ≡ true → (lastFrom < u) ⊎ ((lastFrom ≡ u) × (last_to < v))
unfolding rises
rises-cases lastFrom last_to u v e = elim (or_cases (ltb lastFrom u) _ e) [
  | inl l ↦ inl (ltb-true lastFrom u l)
  | inr q ↦ inr (eqb-true lastFrom u (and_l (eqb lastFrom u) _ q), ltb-true last_to v (and_r (eqb lastFrom u) _ q))
]

-- a link between two of the bookings 1 to n, after the link from lastFrom to last_to
pub record Sequenced (n lastFrom last_to u v : ℕ) : Type 0 where
  pub start : (1 ≤ u) × (u ≤ n)
  pub end : (1 ≤ v) × (v ≤ n)
  pub rising : (lastFrom < u) ⊎ ((lastFrom ≡ u) × (last_to < v))

pub sequenced : (n lastFrom last_to u v : ℕ) → in_sequence n lastFrom last_to u v ≡ true → Sequenced n lastFrom last_to u v
unfolding in_sequence
sequenced n lastFrom last_to u v e =
    let f : within 1 u n ≡ true = and_l (within 1 u n) _ e in
    let r : within 1 v n && rises lastFrom last_to u v ≡ true = and_r (within 1 u n) _ e in
    let t : within 1 v n ≡ true = and_l (within 1 v n) _ r in
    record {
      start = (within-lo 1 u n f, within-hi 1 u n f);
      end = (within-lo 1 v n t, within-hi 1 v n t);
      rising = rises-cases lastFrom last_to u v (and_r (within 1 v n) _ r);
    }

pub sequence-i : (n lastFrom last_to u v : ℕ) → (1 ≤ u) × (u ≤ n) → (1 ≤ v) × (v ≤ n) → (lastFrom < u) ⊎ ((lastFrom ≡ u) × (last_to < v)) → in_sequence n lastFrom last_to u v ≡ true
unfolding in_sequence rises
sequence-i n lastFrom last_to u v h k r =
    within-i 1 u n h.0 h.1
    & within-i 1 v n k.0 k.1
    & elim r [
      | inl l ↦ or_l (ltb lastFrom u) _ (lt-ltb _ _ l)
      | inr l ↦ or_r (ltb lastFrom u) _ (eq-eqb _ _ l.0 & lt-ltb _ _ l.1)
    ]
