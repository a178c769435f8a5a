-- Texts written piece by piece. `whole` is what the buffer is to hold in the end: what is left to write gives it, and each turn keeps that.
-- Assumes nothing.
use Prim.Native.Nat.{ℕ, suc, ◌+◌, ◌*◌, ◌-◌, ◌<◌, ◌≤◌}
use mathlib.Core.Path.{◌≡◌}
use mathlib.Core.List.{List, ◌++◌}
use native.Mathlib.Omega.{arith}
use lib.ListN.{length, get_or, take, drop}
use borrow.Rule.Slice.PartMut.{put_mid}
use lib.Seq.{sets}
use Rattle.decimal.proofs.Stores.{sets-append, put-front}
use Rattle.lines.specs.Form.{booking_bytes, link_bytes}
use Rattle.lines.specs.Booking.{booking_text}
use Rattle.lines.specs.Link.{link_text}
use Rattle.lines.specs.Bookings.{bookings_text}
use Rattle.lines.specs.Links.{links_text}
use Rattle.lines.proofs.Lengths.{booking-length, link-length}

-- ---- the lines of the bookings

bookings-step : (n i : ℕ) (ks ds : List ℕ) → i < n → bookings_text (n - i) i ks ds ≡ booking_text (i + 1) (get_or ks i 0) (get_or ds i 0) ++ bookings_text (n - (i + 1)) (i + 1) ks ds
unfolding bookings_text
bookings-step n i ks ds h =
    let e : n - i ≡ suc (n - (i + 1)) = omega arith in
    rw e

pub bookings-on : (n i k : ℕ) (buf line ks ds whole : List ℕ) → i < n → booking_bytes * n ≤ length buf → k ≡ length buf - booking_bytes * i
    → sets buf (booking_bytes * i) (bookings_text (n - i) i ks ds) ≡ whole → line ≡ sets (take k (drop (booking_bytes * i) buf)) 0 (booking_text (i + 1) (get_or ks i 0) (get_or ds i 0))
    → sets (put_mid (booking_bytes * i) k buf line) (booking_bytes * (i + 1)) (bookings_text (n - (i + 1)) (i + 1) ks ds) ≡ whole
bookings-on n i k buf line ks ds whole h fits m w e =
    let text : List ℕ = booking_text (i + 1) (get_or ks i 0) (get_or ds i 0) in
    let d : booking_bytes * (i + 1) ≡ booking_bytes * i + length text = rw booking-length (omega arith) in
    let f = put-front buf line (booking_bytes * i) k text (omega (arith, booking-length (i + 1) (get_or ks i 0) (get_or ds i 0))) (omega arith) e in
    rw (f, d, ← sets-append buf (booking_bytes * i) text (bookings_text (n - (i + 1)) (i + 1) ks ds), ← bookings-step n i ks ds h) w

pub bookings-all : (n i p : ℕ) (buf ks ds whole : List ℕ) → n ≤ i → sets buf p (bookings_text (n - i) i ks ds) ≡ whole → buf ≡ whole
unfolding bookings_text
bookings-all n i p buf ks ds whole h w =
    let e : n - i ≡ 0 = omega arith in
    rw e at w

-- ---- the lines of the links

links-step : (m i : ℕ) (us vs : List ℕ) → i < m → links_text (m - i) i us vs ≡ link_text (get_or us i 0) (get_or vs i 0) ++ links_text (m - (i + 1)) (i + 1) us vs
unfolding links_text
links-step m i us vs h =
    let e : m - i ≡ suc (m - (i + 1)) = omega arith in
    rw e

pub links-on : (m i k : ℕ) (buf line us vs whole : List ℕ) → i < m → link_bytes * m ≤ length buf → k ≡ length buf - link_bytes * i
    → sets buf (link_bytes * i) (links_text (m - i) i us vs) ≡ whole → line ≡ sets (take k (drop (link_bytes * i) buf)) 0 (link_text (get_or us i 0) (get_or vs i 0))
    → sets (put_mid (link_bytes * i) k buf line) (link_bytes * (i + 1)) (links_text (m - (i + 1)) (i + 1) us vs) ≡ whole
links-on m i k buf line us vs whole h fits n w e =
    let text : List ℕ = link_text (get_or us i 0) (get_or vs i 0) in
    let d : link_bytes * (i + 1) ≡ link_bytes * i + length text = rw link-length (omega arith) in
    let f = put-front buf line (link_bytes * i) k text (omega (arith, link-length (get_or us i 0) (get_or vs i 0))) (omega arith) e in
    rw (f, d, ← sets-append buf (link_bytes * i) text (links_text (m - (i + 1)) (i + 1) us vs), ← links-step m i us vs h) w

pub links-all : (m i p : ℕ) (buf us vs whole : List ℕ) → m ≤ i → sets buf p (links_text (m - i) i us vs) ≡ whole → buf ≡ whole
unfolding links_text
links-all m i p buf us vs whole h w =
    let e : m - i ≡ 0 = omega arith in
    rw e at w
