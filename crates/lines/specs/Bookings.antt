-- The lines of the bookings 1, 2, .. n, which follow the head: booking b stands on line b + 1.
-- Assumes nothing.
use Rattle.std.specs.Prelude.{ℕ, zero, suc, ◌+◌, List, [], ◌++◌, get_or, take, drop, set, replicate, Result, Ok, Err}
use Rattle.plan.specs.Limits.{most_bookings}
use Rattle.lines.specs.Form.{booking_bytes, links_place}
use Rattle.lines.specs.Booking.{booking_text, kind_in, desk_in, booking_of}
use Rattle.lines.specs.LineFault.{fault_on}
use Rattle.lines.specs.declared.LineFault.{LineFault}
use Rattle.lines.specs.declared.Bookings.{Bookings}

-- the lines of so many bookings, from the booking at index i on
unfoldable pub bookings_text : ℕ → ℕ → List ℕ → List ℕ → List ℕ
bookings_text zero i ks ds = []
bookings_text (suc more) i ks ds = booking_text (i + 1) (get_or ks i 0) (get_or ds i 0) ++ bookings_text more (i + 1) ks ds

-- the letter and the desk on the line of the booking at index b, which begins where links would begin after b bookings
unfoldable pub letter_on : List ℕ → ℕ → ℕ
letter_on s b = kind_in (drop (links_place b) s)

unfoldable pub desk_on : List ℕ → ℕ → ℕ
desk_on s b = desk_in (drop (links_place b) s)

-- on with the kind and the desk that a line holds, or refused at line l with those so far
abbrev pub after_booking : Result (ℕ × ℕ) LineFault → ℕ → List ℕ → List ℕ → (ℕ → ℕ → Bookings) → Bookings
after_booking (Ok entry) l ks ds next = next entry.0 entry.1
after_booking (Err fault) l ks ds next = record { judged = Err (fault_on fault l); kind = ks; desk = ds }

-- the kinds and desks that so many lines of the rest of a sheet give, from the booking at index i on
unfoldable pub bookings_of : ℕ → ℕ → List ℕ → List ℕ → List ℕ → Bookings
bookings_of zero i rest ks ds = record { judged = Ok tt; kind = ks; desk = ds }
bookings_of (suc more) i rest ks ds =
    after_booking (booking_of (take booking_bytes rest) (i + 1)) (i + 2) ks ds (λ k d. bookings_of more (i + 1) (drop booking_bytes rest) (set ks i k) (set ds i d))

-- no kind and no desk yet
unfoldable pub no_bookings : List ℕ
no_bookings = replicate most_bookings 0
