-- A booking or link line is refused with 1 or 3, and none past the last one.
-- Assumes nothing.
use mathlib.Core.List.{List}
use Prim.Native.Nat.{ℕ, zero, suc, ◌+◌, ◌≤◌}
use native.Mathlib.Omega.{arith}
use lib.ListN.{take, drop, set}
use Rattle.plan.proofs.RecordLaws.{Upto, further}
use Rattle.lines.specs.Form.{booking_bytes, link_bytes}
use Rattle.lines.specs.Bookings.{after_booking, bookings_of}
use Rattle.lines.specs.Booking.{booking_of}
use Rattle.lines.specs.Links.{Links, after_link, links_of}
use Rattle.lines.specs.Link.{link_of}
use Rattle.std.specs.Prelude.{Result, Ok, Err}
use Rattle.lines.specs.declared.LineFault.{LineFault}
use Rattle.lines.specs.declared.LineFault.TheVariants.{Malformed, OutOfSequence}
use Rattle.lines.specs.declared.Bookings.{Bookings}

bookings-next : (b : Result (ℕ × ℕ) LineFault) (l m : ℕ) (ks ds : List ℕ) (f : ℕ → ℕ → Bookings) → l ≤ m → ((k d : ℕ) → Upto m (f k d).judged) → Upto m (after_booking b l ks ds f).judged
bookings-next (Ok entry) l m ks ds f h n = n entry.0 entry.1
bookings-next (Err Malformed) l m ks ds f h n = record { place = h; few = omega arith }
bookings-next (Err OutOfSequence) l m ks ds f h n = record { place = h; few = omega arith }

pub bookings-small : (more i : ℕ) (rest ks ds : List ℕ) → Upto (i + more + 1) (bookings_of more i rest ks ds).judged
unfolding bookings_of
bookings-small zero i rest ks ds = record { place = omega arith; few = omega arith }
bookings-small (suc more) i rest ks ds =
    bookings-next (booking_of (take booking_bytes rest) (i + 1)) (i + 2) (i + suc more + 1) ks ds _ (omega arith)
    (λ k d. further (i + suc more + 1) (omega arith) (bookings-small more (i + 1) (drop booking_bytes rest) (set ks i k) (set ds i d)))

links-next : (b : Result (ℕ × ℕ) LineFault) (l m : ℕ) (us vs : List ℕ) (f : ℕ → ℕ → Links) → l ≤ m → ((u v : ℕ) → Upto m (f u v).judged) → Upto m (after_link b l us vs f).judged
links-next (Ok pair) l m us vs f h n = n pair.0 pair.1
links-next (Err Malformed) l m us vs f h n = record { place = h; few = omega arith }
links-next (Err OutOfSequence) l m us vs f h n = record { place = h; few = omega arith }

pub links-small : (n more i : ℕ) (rest : List ℕ) (lastFrom last_to : ℕ) (us vs : List ℕ) → Upto (n + 1 + i + more) (links_of n more i rest lastFrom last_to us vs).judged
unfolding links_of
links-small n zero i rest lastFrom last_to us vs = record { place = omega arith; few = omega arith }
links-small n (suc more) i rest lastFrom last_to us vs =
    links-next (link_of (take link_bytes rest) n lastFrom last_to) (n + 2 + i) (n + 1 + i + suc more) us vs _ (omega arith)
    (λ u v. further (n + 1 + i + suc more) (omega arith) (links-small n more (i + 1) (drop link_bytes rest) u v (set us i u) (set vs i v)))
