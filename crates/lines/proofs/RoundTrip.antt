-- A line that is written of good values is read as these values, and an accepted line is, to the byte, what is written of what was read.
-- Assumes nothing.
use Prim.Native.Nat.{ℕ, ◌^◌, ◌<◌, ◌≤◌}
use mathlib.Core.Path.{◌≡◌, refl, ap, ◌∙◌, sym}
use mathlib.Core.List.{List, [], ◌++◌, append-nil}
use mathlib.Core.Bool.{Bool, true, false, ◌&&◌, cond}
use native.Mathlib.Omega.{arith}
use lib.Dec.{eqb}
use borrow.Author.Tests.{eq-eqb, eqb-true}
use Rattle.bounded.proofs.Bools.{clash}
use Rattle.decimal.specs.Decimal.{columns, columns_to, same_bytes}
use Rattle.decimal.proofs.Bytes.{same_refl, same-eq}
use Rattle.decimal.proofs.Fields.{number-in}
use Rattle.plan.specs.Limits.{most_desks, is_kind, is_desk, counted, limits, in_sequence}
use Rattle.plan.specs.declared.Limits.{Limits}
use Rattle.plan.proofs.LimitLaws.{Limited, limited, desk-known, sequenced}
use Rattle.lines.specs.Head.{head_text, booking_count_in, link_count_in, way_count_in, limit_in, is_head, counts_of, head_of}
use Rattle.lines.specs.Booking.{booking_text, number_in, kind_in, desk_in, is_booking, entry_of, booking_of}
use Rattle.lines.specs.Link.{link_text, from_in, to_in, is_link, pair_of, link_of}
use Rattle.std.specs.Prelude.{Result, Ok, Err}
use Rattle.lines.specs.declared.Counts.{Counts}
use Rattle.lines.specs.declared.HeadFault.{HeadFault}
use Rattle.lines.specs.declared.HeadFault.TheVariants as H
use Rattle.lines.specs.declared.LineFault.{LineFault}
use Rattle.lines.specs.declared.LineFault.TheVariants as L

-- ---- the head

module _ (n m a limit : ℕ) where
  first : n < 10 ^ 4 → booking_count_in (head_text n m a limit) ≡ n
  unfolding head_text columns columns_to
  first h = number-in 4 1 n (head_text n m a limit) h refl

  second : m < 10 ^ 4 → link_count_in (head_text n m a limit) ≡ m
  unfolding head_text columns columns_to
  second h = number-in 4 5 m (head_text n m a limit) h refl

  third : a < 10 ^ 4 → way_count_in (head_text n m a limit) ≡ a
  unfolding head_text columns columns_to
  third h = number-in 4 9 a (head_text n m a limit) h refl

  -- its limit, whatever follows the line
  pub its-limit : (rest : List ℕ) → limit < 10 ^ 4 → limit_in (head_text n m a limit ++ rest) ≡ limit
  unfolding head_text columns columns_to
  its-limit rest h = number-in 4 13 limit (head_text n m a limit ++ rest) h refl

  pub head_read : (most : Limits) → limits n m a limit ≡ true → counted most n m a ≡ true → head_of most (head_text n m a limit) ≡ Ok (record { bookings = n; links = m; ways = a; limit = limit })
  unfolding head_of is_head counts_of
  head_read most e c =
      let l : Limited n m a limit = limited n m a limit e in
      let o : limit_in (head_text n m a limit) ≡ limit = rw append-nil at (its-limit [] (omega arith)) in
      rw (first (omega arith), second (omega arith), third (omega arith), o, same_refl (head_text n m a limit), e, c)

pub record HeadIs (most : Limits) (line : List ℕ) (n m a limit : ℕ) : Type 0 where
  pub text : line ≡ head_text n m a limit
  pub fit : limits n m a limit ≡ true
  pub taken : counted most n m a ≡ true
  pub bookings : booking_count_in line ≡ n
  pub ways : way_count_in line ≡ a

pub head-accepted : (most : Limits) (line : List ℕ) (n m a limit : ℕ) → head_of most line ≡ Ok (record { bookings = n; links = m; ways = a; limit = limit }) → HeadIs most line n m a limit
unfolding head_of is_head counts_of
head-accepted most line n m a limit =
    go (same_bytes line (head_text (booking_count_in line) (link_count_in line) (way_count_in line) (limit_in line)))
    (limits (booking_count_in line) (link_count_in line) (way_count_in line) (limit_in line))
    (counted most (booking_count_in line) (link_count_in line) (way_count_in line)) (same-eq _ _) refl refl
  where
    go : (b c d : Bool) → (b ≡ true → line ≡ head_text (booking_count_in line) (link_count_in line) (way_count_in line) (limit_in line))
        → limits (booking_count_in line) (link_count_in line) (way_count_in line) (limit_in line) ≡ c → counted most (booking_count_in line) (link_count_in line) (way_count_in line) ≡ d
        → cond {A = Result Counts HeadFault} b (cond c (cond d (Ok (record { bookings = booking_count_in line; links = link_count_in line; ways = way_count_in line; limit = limit_in line })) (Err H.Oversize)) (Err H.OutOfLimits)) (Err H.Malformed) ≡ Ok (record { bookings = n; links = m; ways = a; limit = limit })
        → HeadIs most line n m a limit
    go true true true h l t e =
        let r : Counts = record { bookings = booking_count_in line; links = link_count_in line; ways = way_count_in line; limit = limit_in line } in
        let g : r ≡ record { bookings = n; links = m; ways = a; limit = limit } = cc in
        let x : booking_count_in line ≡ n = ap (λ (r : Counts). r.bookings) g in
        let y : link_count_in line ≡ m = ap (λ (r : Counts). r.links) g in
        let z : way_count_in line ≡ a = ap (λ (r : Counts). r.ways) g in
        let o : limit_in line ≡ limit = ap (λ (r : Counts). r.limit) g in
        record { text = h refl ∙ rw (x, y, z, o); fit = rw (x, y, z, o) at l; taken = rw (x, y, z) at t; bookings = x; ways = z }
    go true true false h l t e = clash true refl cc
    go true false d h l t e = clash true refl cc
    go false c d h l t e = clash true refl cc

-- the numbers of a head that was read are within the limits
pub head-limits : (most : Limits) (line : List ℕ) (h : Result Counts HeadFault) (n m a limit : ℕ) → h ≡ head_of most line → h ≡ Ok (record { bookings = n; links = m; ways = a; limit = limit }) → Limited n m a limit
head-limits most line h n m a limit e g = limited n m a limit (head-accepted most line n m a limit (sym e ∙ g)).fit

-- ---- a booking

its-number : (x k d : ℕ) → x < 10 ^ 4 → number_in (booking_text x k d) ≡ x
unfolding booking_text columns columns_to
its-number x k d h = number-in 4 1 x (booking_text x k d) h refl

-- its kind and its desk, whatever follows the line
pub its-kind : (x k d : ℕ) (rest : List ℕ) → kind_in (booking_text x k d ++ rest) ≡ k
unfolding kind_in booking_text columns columns_to
its-kind x k d rest = refl

pub its-desk : (x k d : ℕ) (rest : List ℕ) → d < 10 ^ 4 → desk_in (booking_text x k d ++ rest) ≡ d
unfolding booking_text columns columns_to
its-desk x k d rest h = number-in 4 7 d (booking_text x k d ++ rest) h refl

pub booking-read : (x k d : ℕ) → x < 10 ^ 4 → is_kind k ≡ true → is_desk d ≡ true → booking_of (booking_text x k d) x ≡ Ok (k, d)
unfolding booking_of is_booking entry_of
booking-read x k d h q r =
    let l : (1 ≤ d) × (d ≤ most_desks) = desk-known d r in
    let o : desk_in (booking_text x k d) ≡ d = rw append-nil at (its-desk x k d [] (omega arith)) in
    rw (its-number x k d h, rw append-nil at (its-kind x k d []), o, same_refl (booking_text x k d), q, eq-eqb x x refl, r)

pub record BookingIs (line : List ℕ) (x k d : ℕ) : Type 0 where
  pub text : line ≡ booking_text x k d
  pub known : is_kind k ≡ true
  pub desk : is_desk d ≡ true

pub booking-accepted : (line : List ℕ) (x k d : ℕ) → booking_of line x ≡ Ok (k, d) → BookingIs line x k d
unfolding booking_of is_booking entry_of
booking-accepted line x k d =
    go (same_bytes line (booking_text (number_in line) (kind_in line) (desk_in line))) (is_kind (kind_in line)) (eqb (number_in line) x) (is_desk (desk_in line))
    (same-eq _ _) refl (eqb-true _ _) refl
  where
    go : (b c f g : Bool) → (b ≡ true → line ≡ booking_text (number_in line) (kind_in line) (desk_in line)) → is_kind (kind_in line) ≡ c
        → (f ≡ true → number_in line ≡ x) → is_desk (desk_in line) ≡ g
        → cond {A = Result (ℕ × ℕ) LineFault} (b && c) (cond (f && g) (Ok (kind_in line, desk_in line)) (Err L.OutOfSequence)) (Err L.Malformed) ≡ Ok (k, d) → BookingIs line x k d
    go true true true true h l n o e =
        let g : ◌≡◌ {A = ℕ × ℕ} (kind_in line, desk_in line) (k, d) = cc in
        let y : kind_in line ≡ k = ap (λ (p : ℕ × ℕ). p.0) g in
        let z : desk_in line ≡ d = ap (λ (p : ℕ × ℕ). p.1) g in
        record { text = h refl ∙ rw (n refl, y, z); known = rw y at l; desk = rw z at o }
    go true true true false h l n o e = clash true refl cc
    go true true false g h l n o e = clash true refl cc
    go true false f g h l n o e = clash true refl cc
    go false c f g h l n o e = clash true refl cc

-- ---- a link

module _ (n lastFrom last_to u v : ℕ) where
  from_in_lem : u < 10 ^ 4 → from_in (link_text u v) ≡ u
  unfolding link_text columns columns_to
  from_in_lem h = number-in 4 1 u (link_text u v) h refl

  to_in_lem : v < 10 ^ 4 → to_in (link_text u v) ≡ v
  unfolding link_text columns columns_to
  to_in_lem h = number-in 4 5 v (link_text u v) h refl

  pub link-read : n < 10 ^ 4 → in_sequence n lastFrom last_to u v ≡ true → link_of (link_text u v) n lastFrom last_to ≡ Ok (u, v)
  unfolding link_of is_link pair_of
  link-read h e =
      let b = sequenced n lastFrom last_to u v e in
      rw (from_in_lem (omega arith), to_in_lem (omega arith), same_refl (link_text u v), e)

pub record LinkIs (line : List ℕ) (n lastFrom last_to u v : ℕ) : Type 0 where
  pub text : line ≡ link_text u v
  pub follows : in_sequence n lastFrom last_to u v ≡ true

pub link-accepted : (line : List ℕ) (n lastFrom last_to u v : ℕ) → link_of line n lastFrom last_to ≡ Ok (u, v) → LinkIs line n lastFrom last_to u v
unfolding link_of is_link pair_of
link-accepted line n lastFrom last_to u v =
    go (same_bytes line (link_text (from_in line) (to_in line))) (in_sequence n lastFrom last_to (from_in line) (to_in line)) (same-eq _ _) refl
  where
    go : (b c : Bool) → (b ≡ true → line ≡ link_text (from_in line) (to_in line)) → in_sequence n lastFrom last_to (from_in line) (to_in line) ≡ c
        → cond {A = Result (ℕ × ℕ) LineFault} b (cond c (Ok (from_in line, to_in line)) (Err L.OutOfSequence)) (Err L.Malformed) ≡ Ok (u, v) → LinkIs line n lastFrom last_to u v
    go true true h l e =
        let g : ◌≡◌ {A = ℕ × ℕ} (from_in line, to_in line) (u, v) = cc in
        let x : from_in line ≡ u = ap (λ (p : ℕ × ℕ). p.0) g in
        let y : to_in line ≡ v = ap (λ (p : ℕ × ℕ). p.1) g in
        record { text = h refl ∙ rw (x, y); follows = rw (x, y) at l }
    go true false h l e = clash true refl cc
    go false c h l e = clash true refl cc
