-- How long the texts are.
-- Assumes nothing.
use Prim.Native.Nat.{ℕ, zero, suc, ◌+◌, ◌*◌}
use mathlib.Core.Path.{◌≡◌, refl}
use mathlib.Core.List.{List}
use native.Mathlib.Omega.{arith}
use lib.ListN.{length, length-append}
use Rattle.decimal.specs.Decimal.{columns, columns_to}
use Rattle.plan.specs.Limits.{most_bookings, most_links}
use Rattle.lines.specs.Form.{head_bytes, booking_bytes, link_bytes}
use Rattle.lines.specs.Head.{head_text}
use Rattle.lines.specs.Booking.{booking_text}
use Rattle.lines.specs.Link.{link_text}
use Rattle.lines.specs.Bookings.{bookings_text, no_bookings}
use Rattle.plan.specs.Links.{no_links}
use Rattle.lines.specs.Links.{links_text}

pub head-length : (n m a limit : ℕ) → length (head_text n m a limit) ≡ head_bytes
unfolding head_text columns columns_to
head-length n m a limit = refl

pub booking-length : (x k d : ℕ) → length (booking_text x k d) ≡ booking_bytes
unfolding booking_text columns columns_to
booking-length x k d = refl

pub link-length : (u v : ℕ) → length (link_text u v) ≡ link_bytes
unfolding link_text columns columns_to
link-length u v = refl

pub bookings-length : (n i : ℕ) (ks ds : List ℕ) → length (bookings_text n i ks ds) ≡ booking_bytes * n
unfolding bookings_text
bookings-length zero i ks ds = refl
bookings-length (suc n) i ks ds = rw (length-append, booking-length, bookings-length n (i + 1) ks ds) (omega arith)

pub links-length : (m i : ℕ) (us vs : List ℕ) → length (links_text m i us vs) ≡ link_bytes * m
unfolding links_text
links-length zero i us vs = refl
links-length (suc m) i us vs = rw (length-append, link-length, links-length m (i + 1) us vs) (omega arith)

pub no-bookings-length : length no_bookings ≡ most_bookings
unfolding no_bookings
no-bookings-length = refl

pub no-links-length : length no_links ≡ most_links
unfolding no_links
no-links-length = refl
