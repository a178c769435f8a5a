-- The round trips of the lines of all bookings and of all links: what is written is read back (`bookings-read`, `links-read`), and accepted
-- lines are, to the byte, what is written of what was read, whose entries are good (`bookings-accepted`, `links-accepted`). `letter_at` and
-- `desk-at` say which letter and which desk a booking's line has.
-- Assumes nothing.
use Prim.Native.Nat.{ℕ, zero, suc, ◌+◌, ◌*◌, ◌^◌, ◌<◌, ◌≤◌}
use mathlib.Core.Path.{◌≡◌, refl, sym, ap, ◌∙◌}
use mathlib.Core.Logic.{inl, inr}
use mathlib.Core.List.{List, ◌∷◌, ◌++◌, append_assoc}
use mathlib.Core.Bool.{true, ◌&&◌}
use native.Mathlib.Nat.{add-zero}
use native.Mathlib.Omega.{arith}
use native.Mathlib.Numerals.{add-one}
use lib.ListN.{length, get_or, take, drop, set, length-set}
use lib.Seq.{drop-drop, take_at, drop_at, take-add, get_or-set_same, get_or-set_other}
use Rattle.bounded.proofs.Bools.{clash, and_l, and_r, ◌&◌, same?}
use Rattle.plan.specs.Judging.{Judged}
use Rattle.plan.specs.Record.{booking_at, link_at}
use Rattle.plan.specs.Limits.{is_kind, is_desk, in_sequence}
use Rattle.lines.specs.Form.{booking_bytes, link_bytes}
use Rattle.lines.specs.Booking.{booking_text, kind_in, desk_in, booking_of}
use Rattle.lines.specs.Link.{link_text, link_of}
use Rattle.lines.specs.Bookings.{bookings_text, after_booking, bookings_of}
use Rattle.lines.specs.Links.{Links, links_text, after_link, links_of}
use Rattle.std.specs.Prelude.{Result, Ok, Err}
use Rattle.lines.specs.LineFault.{fault_on}
use Rattle.lines.specs.declared.LineFault.{LineFault}
use Rattle.lines.specs.declared.Bookings.{Bookings}
use Rattle.bounded.proofs.Filled.{filled}
use Rattle.lines.proofs.Lengths.{booking-length, link-length}
use Rattle.lines.proofs.RoundTrip.{its-kind, its-desk, BookingIs, booking-read, booking-accepted, LinkIs, link-read, link-accepted}

-- ---- bookings

-- the line of the b-th booking from index i on, and then the rest
line_at : (n i b : ℕ) (ks ds rest : List ℕ) → b < n
    → (after : List ℕ) × (drop (booking_bytes * b) (bookings_text n i ks ds ++ rest) ≡ booking_text (i + b + 1) (get_or ks (i + b) 0) (get_or ds (i + b) 0) ++ after)
unfolding bookings_text
line_at zero i b ks ds rest h = absurd (omega arith)
line_at (suc n) i zero ks ds rest h =
    (bookings_text n (i + 1) ks ds ++ rest, rw (add-zero i) (append_assoc (booking_text (i + 1) (get_or ks i 0) (get_or ds i 0)) _ _))
line_at (suc n) i (suc b) ks ds rest h =
    let t : List ℕ = booking_text (i + 1) (get_or ks i 0) (get_or ds i 0) in
    let r : List ℕ = bookings_text n (i + 1) ks ds ++ rest in
    let e : t ++ bookings_text n (i + 1) ks ds ++ rest ≡ t ++ r = append_assoc t _ _ in
    let m : booking_bytes * suc b ≡ booking_bytes + booking_bytes * b = omega arith in
    let d : drop booking_bytes (t ++ r) ≡ r = drop_at t r booking_bytes (booking-length (i + 1) (get_or ks i 0) (get_or ds i 0)) in
    let p : i + 1 + b ≡ i + suc b = omega arith in
    let l = line_at n (i + 1) b ks ds rest (omega arith) in
    (l.0, rw (e, m, ← (drop-drop (booking_bytes * b) booking_bytes (t ++ r)), d) (rw p at l.1))

-- its letter, and its desk
pub letter_at : (n i b : ℕ) (ks ds rest : List ℕ) → b < n → kind_in (drop (booking_bytes * b) (bookings_text n i ks ds ++ rest)) ≡ get_or ks (i + b) 0
letter_at n i b ks ds rest h =
    let l = line_at n i b ks ds rest h in
    rw l.1 (its-kind (i + b + 1) (get_or ks (i + b) 0) (get_or ds (i + b) 0) l.0)

pub desk-at : (n i b : ℕ) (ks ds rest : List ℕ) → b < n → get_or ds (i + b) 0 < 10 ^ 4
    → desk_in (drop (booking_bytes * b) (bookings_text n i ks ds ++ rest)) ≡ get_or ds (i + b) 0
desk-at n i b ks ds rest h q =
    let l = line_at n i b ks ds rest h in
    rw l.1 (its-desk (i + b + 1) (get_or ks (i + b) 0) (get_or ds (i + b) 0) l.0 q)

pub bookings-read : (n i : ℕ) (ks ds rest ak ad : List ℕ) → i + n < 10 ^ 4 → ((j : ℕ) → i ≤ j → j < i + n → booking_at ks ds j ≡ true)
    → bookings_of n i (bookings_text n i ks ds ++ rest) ak ad ≡ record { judged = Ok tt; kind = filled n i ks ak; desk = filled n i ds ad }
unfolding bookings_of bookings_text filled booking_at
bookings-read zero i ks ds rest ak ad h q = refl
bookings-read (suc n) i ks ds rest ak ad h q =
    let b : List ℕ = booking_text (i + 1) (get_or ks i 0) (get_or ds i 0) in
    let s : List ℕ = bookings_text n (i + 1) ks ds ++ rest in
    let e : booking_text (i + 1) (get_or ks i 0) (get_or ds i 0) ++ bookings_text n (i + 1) ks ds ++ rest ≡ b ++ s = append_assoc b _ _ in
    let t : take booking_bytes (b ++ s) ≡ b = take_at b _ booking_bytes (booking-length _ _ _) in
    let d : drop booking_bytes (b ++ s) ≡ s = drop_at b _ booking_bytes (booking-length _ _ _) in
    let g : is_kind (get_or ks i 0) && is_desk (get_or ds i 0) ≡ true = q i (omega arith) (omega arith) in
    let r : booking_of b (i + 1) ≡ Ok (get_or ks i 0, get_or ds i 0) =
    booking-read (i + 1) (get_or ks i 0) (get_or ds i 0) (omega arith) (and_l (is_kind (get_or ks i 0)) _ g) (and_r (is_kind (get_or ks i 0)) _ g) in
    rw (e, t, d, r)
    (bookings-read n (i + 1) ks ds rest (set ak i (get_or ks i 0)) (set ad i (get_or ds i 0)) (omega arith) (λ j l u. q j (omega arith) (omega arith)))

pub record BookingsAre (n i : ℕ) (rest ak ad ks ds : List ℕ) : Type 0 where
  pub text : take (booking_bytes * n) rest ≡ bookings_text n i ks ds
  pub good : (j : ℕ) → i ≤ j → j < i + n → booking_at ks ds j ≡ true
  pub kept : (j : ℕ) → j < i → (get_or ks j 0 ≡ get_or ak j 0) × (get_or ds j 0 ≡ get_or ad j 0)

pub bookings-accepted : (n i : ℕ) (rest ak ad ks ds : List ℕ) → i + n ≤ length ak → i + n ≤ length ad
    → bookings_of n i rest ak ad ≡ record { judged = Ok tt; kind = ks; desk = ds } → BookingsAre n i rest ak ad ks ds
unfolding bookings_of bookings_text booking_at
bookings-accepted zero i rest ak ad ks ds h m e =
    let k : ak ≡ ks = ap (λ (r : Bookings). r.kind) e in
    let d : ad ≡ ds = ap (λ (r : Bookings). r.desk) e in
    record {
      text = refl;
      good = λ j l u. absurd (omega arith);
      kept = λ j l. (ap (λ (r : List ℕ). get_or r j 0) (sym k), ap (λ (r : List ℕ). get_or r j 0) (sym d));
    }
bookings-accepted (suc n) i rest ak ad ks ds h m e =
    go (λ k d. bookings-accepted n (i + 1) (drop booking_bytes rest) (set ak i k) (set ad i d) ks ds (rw length-set (omega arith)) (rw length-set (omega arith)))
    (booking_of (take booking_bytes rest) (i + 1)) refl e
  where
    go : ((k d : ℕ) → bookings_of n (i + 1) (drop booking_bytes rest) (set ak i k) (set ad i d) ≡ record { judged = Ok tt; kind = ks; desk = ds }
        → BookingsAre n (i + 1) (drop booking_bytes rest) (set ak i k) (set ad i d) ks ds)
        → (b : Result (ℕ × ℕ) LineFault) → booking_of (take booking_bytes rest) (i + 1) ≡ b
        → after_booking b (i + 2) ak ad (λ k d. bookings_of n (i + 1) (drop booking_bytes rest) (set ak i k) (set ad i d)) ≡ record { judged = Ok tt; kind = ks; desk = ds }
        → BookingsAre (suc n) i rest ak ad ks ds
    go more (Ok (k, d)) f g =
        let a : BookingsAre n (i + 1) (drop booking_bytes rest) (set ak i k) (set ad i d) ks ds = more k d g in
        let l : BookingIs (take booking_bytes rest) (i + 1) k d = booking-accepted (take booking_bytes rest) (i + 1) k d f in
        let v : get_or ks i 0 ≡ k = (a.kept i (omega arith)).0 ∙ get_or-set_same ak i k 0 (omega arith) in
        let w : get_or ds i 0 ≡ d = (a.kept i (omega arith)).1 ∙ get_or-set_same ad i d 0 (omega arith) in
        let c : booking_bytes * suc n ≡ booking_bytes + booking_bytes * n = omega arith in
        record {
          text = rw (c, take-add booking_bytes (booking_bytes * n) rest, l.text, a.text, v, w);
          good = λ j p u. elim (same? j i) [ inl q ↦ rw (q, v, w) (l.known & l.desk) | inr o ↦ a.good j (omega arith) (omega arith) ];
          kept = λ j p. (
            (a.kept j (omega arith)).0 ∙ get_or-set_other ak i j k 0 (λ q. omega arith),
            (a.kept j (omega arith)).1 ∙ get_or-set_other ad i j d 0 (λ q. omega arith),
          );
        }
    go more (Err e) f g = let w : ◌≡◌ {A = Judged} (Err (fault_on e (i + 2))) (Ok tt) = ap (λ (r : Bookings). r.judged) g in clash true refl cc

-- ---- links

pub links-read : (n m i : ℕ) (us vs rest : List ℕ) (lastFrom last_to : ℕ) (au av : List ℕ) → n < 10 ^ 4
    → ((j : ℕ) → i ≤ j → j < i + m → link_at n us vs j ≡ true) → lastFrom ≡ get_or (0 ∷ us) i 0 → last_to ≡ get_or (0 ∷ vs) i 0
    → links_of n m i (links_text m i us vs ++ rest) lastFrom last_to au av ≡ record { judged = Ok tt; from = filled m i us au; to = filled m i vs av }
unfolding links_of links_text filled link_at
links-read n zero i us vs rest lastFrom last_to au av h g p q = refl
links-read n (suc m) i us vs rest lastFrom last_to au av h g p q =
    let b : List ℕ = link_text (get_or us i 0) (get_or vs i 0) in
    let r : List ℕ = links_text m (i + 1) us vs ++ rest in
    let a : link_text (get_or us i 0) (get_or vs i 0) ++ links_text m (i + 1) us vs ++ rest ≡ b ++ r = append_assoc b (links_text m (i + 1) us vs) rest in
    let t : take link_bytes (b ++ r) ≡ b = take_at b r link_bytes (link-length (get_or us i 0) (get_or vs i 0)) in
    let d : drop link_bytes (b ++ r) ≡ r = drop_at b r link_bytes (link-length (get_or us i 0) (get_or vs i 0)) in
    let s : in_sequence n lastFrom last_to (get_or us i 0) (get_or vs i 0) ≡ true = rw (p, q) (g i (omega arith) (omega arith)) in
    let x : get_or us i 0 ≡ get_or (0 ∷ us) (i + 1) 0 = rw add-one in
    let y : get_or vs i 0 ≡ get_or (0 ∷ vs) (i + 1) 0 = rw add-one in
    rw (a, t, d, link-read n lastFrom last_to (get_or us i 0) (get_or vs i 0) h s)
    (links-read n m (i + 1) us vs rest (get_or us i 0) (get_or vs i 0) (set au i (get_or us i 0)) (set av i (get_or vs i 0)) h (λ j l u. g j (omega arith) (omega arith)) x y)

pub record LinksAre (n m i : ℕ) (rest : List ℕ) (lastFrom last_to : ℕ) (au av us vs : List ℕ) : Type 0 where
  pub text : take (link_bytes * m) rest ≡ links_text m i us vs
  pub good : lastFrom ≡ get_or (0 ∷ us) i 0 → last_to ≡ get_or (0 ∷ vs) i 0 → (j : ℕ) → i ≤ j → j < i + m → link_at n us vs j ≡ true
  pub kept : (j : ℕ) → j < i → (get_or us j 0 ≡ get_or au j 0) × (get_or vs j 0 ≡ get_or av j 0)

pub links-accepted : (n m i : ℕ) (rest : List ℕ) (lastFrom last_to : ℕ) (au av us vs : List ℕ) → i + m ≤ length au → i + m ≤ length av
    → links_of n m i rest lastFrom last_to au av ≡ record { judged = Ok tt; from = us; to = vs } → LinksAre n m i rest lastFrom last_to au av us vs
unfolding links_of links_text link_at
links-accepted n zero i rest lastFrom last_to au av us vs h k e =
    let a : au ≡ us = ap (λ (r : Links). r.from) e in
    let b : av ≡ vs = ap (λ (r : Links). r.to) e in
    record {
      text = refl;
      good = λ p q j l u. absurd (omega arith);
      kept = λ j l. (ap (λ (r : List ℕ). get_or r j 0) (sym a), ap (λ (r : List ℕ). get_or r j 0) (sym b));
    }
links-accepted n (suc m) i rest lastFrom last_to au av us vs h k e =
    go (λ u v. links-accepted n m (i + 1) (drop link_bytes rest) u v (set au i u) (set av i v) us vs (rw length-set (omega arith)) (rw length-set (omega arith)))
    (link_of (take link_bytes rest) n lastFrom last_to) refl e
  where
    go : ((u v : ℕ) → links_of n m (i + 1) (drop link_bytes rest) u v (set au i u) (set av i v) ≡ record { judged = Ok tt; from = us; to = vs }
        → LinksAre n m (i + 1) (drop link_bytes rest) u v (set au i u) (set av i v) us vs)
        → (b : Result (ℕ × ℕ) LineFault) → link_of (take link_bytes rest) n lastFrom last_to ≡ b
        → after_link b (n + 2 + i) au av (λ u v. links_of n m (i + 1) (drop link_bytes rest) u v (set au i u) (set av i v)) ≡ record { judged = Ok tt; from = us; to = vs }
        → LinksAre n (suc m) i rest lastFrom last_to au av us vs
    go more (Ok (u, v)) f g =
        let a : LinksAre n m (i + 1) (drop link_bytes rest) u v (set au i u) (set av i v) us vs = more u v g in
        let l : LinkIs (take link_bytes rest) n lastFrom last_to u v = link-accepted (take link_bytes rest) n lastFrom last_to u v f in
        let x : get_or us i 0 ≡ u = (a.kept i (omega arith)).0 ∙ get_or-set_same au i u 0 (omega arith) in
        let y : get_or vs i 0 ≡ v = (a.kept i (omega arith)).1 ∙ get_or-set_same av i v 0 (omega arith) in
        let x' : u ≡ get_or (0 ∷ us) (i + 1) 0 = sym x ∙ rw add-one in
        let y' : v ≡ get_or (0 ∷ vs) (i + 1) 0 = sym y ∙ rw add-one in
        let c : link_bytes * suc m ≡ link_bytes + link_bytes * m = omega arith in
        record {
          text = rw (c, take-add link_bytes (link_bytes * m) rest, l.text, a.text, x, y);
          good = λ p q j o w. elim (same? j i) [ inl z ↦ rw (z, ← p, ← q, x, y) l.follows | inr d ↦ a.good x' y' j (omega arith) (omega arith) ];
          kept = λ j o. (
            (a.kept j (omega arith)).0 ∙ get_or-set_other au i j u 0 (λ q. omega arith),
            (a.kept j (omega arith)).1 ∙ get_or-set_other av i j v 0 (λ q. omega arith),
          );
        }
    go more (Err e) f g = let w : ◌≡◌ {A = Judged} (Err (fault_on e (n + 2 + i))) (Ok tt) = ap (λ (r : Links). r.judged) g in clash true refl cc
