-- What the loop that reads the lines of the bookings has in hand at each turn. `whole` is the answer that all of the lines have: what is
-- left gives it, and each turn keeps that.
-- Assumes nothing.
use Prim.Native.Nat.{ℕ, suc, ◌+◌, ◌*◌, ◌-◌, ◌<◌, ◌≤◌}
use mathlib.Core.Path.{◌≡◌}
use mathlib.Core.List.{List}
use native.Mathlib.Omega.{arith}
use lib.ListN.{take, drop, set}
use lib.Seq.{drop-drop}
use Rattle.lines.specs.Form.{booking_bytes}
use Rattle.lines.specs.Booking.{booking_of}
use Rattle.lines.specs.Bookings.{after_booking, bookings_of}
use Rattle.std.specs.Prelude.{Result, Ok, Err}
use Rattle.lines.specs.LineFault.{fault_on}
use Rattle.lines.specs.declared.LineFault.{LineFault}
use Rattle.lines.specs.declared.Bookings.{Bookings}

-- one line, and the rest
step : (n i : ℕ) (rest ks ds : List ℕ) → i < n
    → bookings_of (n - i) i rest ks ds ≡ after_booking (booking_of (take booking_bytes rest) (i + 1)) (i + 2) ks ds (λ k d. bookings_of (n - (i + 1)) (i + 1) (drop booking_bytes rest) (set ks i k) (set ds i d))
unfolding bookings_of
step n i rest ks ds h =
    let e : n - i ≡ suc (n - (i + 1)) = omega arith in
    rw e

module _ (n at i : ℕ) (s ks ds line : List ℕ) (b : Result (ℕ × ℕ) LineFault) (whole : Bookings) (h : i < n) (l : line ≡ take booking_bytes (drop (at + booking_bytes * i) s)) (e : b ≡ booking_of line (i + 1))
    (w : bookings_of (n - i) i (drop (at + booking_bytes * i) s) ks ds ≡ whole) where
  turned : after_booking b (i + 2) ks ds (λ k d. bookings_of (n - (i + 1)) (i + 1) (drop (at + booking_bytes * (i + 1)) s) (set ks i k) (set ds i d)) ≡ whole
  turned =
      let d : at + booking_bytes * i + booking_bytes ≡ at + booking_bytes * (i + 1) = omega arith in
      rw (e, l, ← d, ← drop-drop booking_bytes (at + booking_bytes * i) s, ← step n i (drop (at + booking_bytes * i) s) ks ds h) w

  pub went_on : (k d : ℕ) → b ≡ Ok (k, d) → bookings_of (n - (i + 1)) (i + 1) (drop (at + booking_bytes * (i + 1)) s) (set ks i k) (set ds i d) ≡ whole
  went_on k d g = rw g at turned

  pub refused : (f : LineFault) → b ≡ Err f → record { judged = Err (fault_on f (i + 2)); kind = ks; desk = ds } ≡ whole
  refused f g = rw g at turned

pub ended : (n i : ℕ) (rest ks ds : List ℕ) (whole : Bookings) → n ≤ i → bookings_of (n - i) i rest ks ds ≡ whole → record { judged = Ok tt; kind = ks; desk = ds } ≡ whole
unfolding bookings_of
ended n i rest ks ds whole h w =
    let e : n - i ≡ 0 = omega arith in
    rw e at w
