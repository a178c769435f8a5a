-- How many bytes decide what a sheet is to a caller (`sheet-front`): two texts that begin alike give the same lines, as far as they are alike.
-- Assumes nothing.
use mathlib.Core.Path.{◌≡◌, refl, sym, ap, ap₂, fun_ext, ◌∙◌}
use mathlib.Core.Logic.{inl, inr}
use mathlib.Core.Bool.{◌&&◌, cond}
use mathlib.Core.List.{List, [], ◌∷◌}
use Prim.Native.Nat.{ℕ, zero, suc, ◌+◌, ◌*◌, ◌-◌, ◌≤◌, ◌<◌}
use native.Mathlib.Nat.{zero-add, mul-suc, mul-le-mul}
use native.Mathlib.Omega.{arith}
use lib.ListN.{length, get_or, take, drop, set}
use lib.Seq.{take-nil, take_all, take-take, get_or-take, length-take-le}
use borrow.Author.Tests.{ne_eqb}
use Rattle.bounded.specs.Bounded.{all}
use Rattle.bounded.proofs.Bools.{which, split?}
use Rattle.sets.specs.Sets.{insert}
use Rattle.std.specs.Prelude.{Result, Ok, Err, is_ok}
use Rattle.decimal.specs.Decimal.{Field, field_of, field_at}
use Rattle.plan.specs.Limits.{within}
use Rattle.plan.specs.declared.Limits.{Limits}
use Rattle.plan.specs.declared.Fault.TheVariants.{Form}
use Rattle.plan.proofs.LimitLaws.{within-hi, Counted, counted-e}
use Rattle.lines.specs.Form.{head_bytes, booking_bytes, link_bytes, links_place, ways_place}
use Rattle.lines.specs.Head.{head_of}
use Rattle.lines.specs.Booking.{booking_of}
use Rattle.lines.specs.Bookings.{after_booking, bookings_of, no_bookings}
use Rattle.lines.specs.Link.{link_of}
use Rattle.plan.specs.Links.{no_links}
use Rattle.lines.specs.Links.{Links, after_link, links_of}
use Rattle.lines.specs.declared.Bookings.{Bookings}
use Rattle.lines.specs.declared.Counts.{Counts}
use Rattle.lines.specs.declared.HeadFault.{HeadFault}
use Rattle.lines.proofs.RoundTrip.{head-accepted}
use Rattle.ways.specs.WayText.{way_front_bytes, way_bytes}
use Rattle.ways.specs.Way.{number_there, sequence_or_form, after_number, gather_of, line_feed_at, members_of, count_of, after_count, way_line_of}
use Rattle.ways.specs.Ways.{after_way, ways_of, no_ways}
use Rattle.lines.specs.declared.LineFault.TheVariants.{Malformed, OutOfSequence}
use Rattle.ways.specs.declared.WayFault.{WayFault}
use Rattle.ways.specs.declared.Ways.{Ways}
use Rattle.ways.proofs.ReadLaws.{few-members}
use Rattle.sheet.specs.Sheet.{bookings_in, links_in, ways_in, refused_of, end_of, body_of, after_head, sheet_within}
use Rattle.sheet.specs.Text.{longest_within}

-- ---- two texts with the same first k bytes

record Alike (k : ℕ) (x y : List ℕ) : Type 0 where
  bytes : take k x ≡ take k y

-- a front without its first j bytes
drop-take : (j k : ℕ) (l : List ℕ) → drop j (take (j + k) l) ≡ take k (drop j l)
drop-take zero k l = ap (λ (i : ℕ). take i l) (zero-add k)
drop-take (suc j) k [] = ap (drop (suc j)) (take-nil (suc j + k)) ∙ sym (take-nil k)
drop-take (suc j) k (b ∷ l) = let e : suc j + k ≡ suc (j + k) = omega arith in rw e (drop-take j k l)

-- so k bytes from place j on are the same, if they are among the first i
from : {i : ℕ} {x y : List ℕ} (j k : ℕ) → j + k ≤ i → Alike i x y → Alike k (drop j x) (drop j y)
from {i} {x} {y} j k h e = record { bytes = sym (part x) ∙ ap (λ (l : List ℕ). drop j (take (j + k) l)) e.bytes ∙ part y }
  where
    part : (l : List ℕ) → drop j (take (j + k) (take i l)) ≡ take k (drop j l)
    part l = ap (drop j) (take-take (j + k) i l h) ∙ drop-take j k l

-- ---- the lines of bookings and links

bookings-alike : {x y : List ℕ} (more i : ℕ) (ks ds : List ℕ) → Alike (booking_bytes * more) x y → bookings_of more i x ks ds ≡ bookings_of more i y ks ds
unfolding bookings_of
bookings-alike zero i ks ds e = refl
bookings-alike (suc more) i ks ds e =
    ap₂ (λ (line : List ℕ) (next : ℕ → ℕ → Bookings). after_booking (booking_of line (i + 1)) (i + 2) ks ds next) (from 0 booking_bytes (omega arith) e).bytes
    (fun_ext (λ k. fun_ext (λ d. bookings-alike more (i + 1) (set ks i k) (set ds i d) (from booking_bytes (booking_bytes * more) (omega arith) e))))

links-alike : {x y : List ℕ} (n more i lastFrom last_to : ℕ) (us vs : List ℕ) → Alike (link_bytes * more) x y
    → links_of n more i x lastFrom last_to us vs ≡ links_of n more i y lastFrom last_to us vs
unfolding links_of
links-alike n zero i lastFrom last_to us vs e = refl
links-alike n (suc more) i lastFrom last_to us vs e =
    ap₂ (λ (line : List ℕ) (next : ℕ → ℕ → Links). after_link (link_of line n lastFrom last_to) (n + 2 + i) us vs next) (from 0 link_bytes (omega arith) e).bytes
    (fun_ext (λ u. fun_ext (λ v. links-alike n more (i + 1) u v (set us i u) (set vs i v) (from link_bytes (link_bytes * more) (omega arith) e))))

-- ---- the line of a way

-- whether its k fields are numbers
numbers-alike : {x y : List ℕ} (k : ℕ) → Alike (4 * k) x y → all (number_there x) k ≡ all (number_there y) k
unfolding all number_there field_at
numbers-alike zero e = refl
numbers-alike (suc k) e =
    ap₂ ◌&&◌ (numbers-alike k (from 0 (4 * k) (omega arith) e)) (ap (λ (l : List ℕ). is_ok (field_of 4 l)) (from (4 * k) 4 (omega arith) e).bytes)

-- what they give as a set
gather-alike : {x y : List ℕ} (n k last s : ℕ) → Alike (4 * k) x y → gather_of n last s k x ≡ gather_of n last s k y
unfolding gather_of field_at sequence_or_form
gather-alike n zero last s e = refl
gather-alike {x} {y} n (suc k) last s e =
    let f : Alike (4 * k) (drop 4 x) (drop 4 y) = from 4 (4 * k) (omega arith) e in
    rw ((from 0 4 (omega arith) e).bytes, numbers-alike k f)
    (ap (after_number (field_of 4 (take 4 y)) n last (cond (all (number_there (drop 4 y)) k) OutOfSequence Malformed))
    (fun_ext (λ z. gather-alike n k z (insert s (z - 1)) f)))

-- the line after its count, to the line feed
members_alike : (n k : ℕ) (x y : List ℕ) → Alike (way_bytes k) x y → members_of n k x ≡ members_of n k y
unfolding members_of line_feed_at
members_alike n k x y e =
    let at : ℕ = way_front_bytes + 4 * k in
    let f : get_or x (way_front_bytes + 4 * k) 0 ≡ get_or y (way_front_bytes + 4 * k) 0 =
    sym (get_or-take (way_bytes k) x at 0 (omega arith)) ∙ ap (λ (l : List ℕ). get_or l at 0) e.bytes ∙ get_or-take (way_bytes k) y at 0 (omega arith) in
    rw (f, gather-alike n k 0 0 (from way_front_bytes (4 * k) (omega arith) e))

-- the whole line: none is longer than that with all n bookings
way-alike : (n : ℕ) (x y : List ℕ) → Alike (way_bytes n) x y → way_line_of n x ≡ way_line_of n y
unfolding way_line_of
way-alike n x y e = ap (λ (l : List ℕ). after_count (count_of l) n x) (from 0 way_front_bytes (omega arith) e).bytes ∙ go (count_of (take way_front_bytes y))
  where
    go : (f : Field) → after_count f n x ≡ after_count f n y
    go (Ok k) = elim (which (within 1 k n)) [
      | inl w ↦ rw w (members_alike n k x y (from 0 (way_bytes k) (omega (arith, within-hi 1 k n w)) e))
      | inr w ↦ rw w refl
    ]
    go (Err _) = refl

-- ---- the lines of the ways

-- the same ways, which end at place b at the latest
record Ends (b : ℕ) (v w : Ways) : Type 0 where
  same : v ≡ w
  place : v.next ≤ b

-- on past one line
module _ (n l at b : ℕ) (ws : List ℕ) (f g : ℕ → ℕ → Ways) (h : at ≤ b) (more : (k s : ℕ) → k ≤ n → Ends b (f k s) (g k s)) where
  after-alike : (t : Result (ℕ × ℕ) WayFault) → ((w : ℕ × ℕ) → t ≡ Ok w → w.0 ≤ n) → Ends b (after_way t l at ws f) (after_way t l at ws g)
  after-alike (Ok w) few = more w.0 w.1 (few w refl)
  after-alike (Err fault) few = record { same = refl; place = h }

ways-alike : {x y : List ℕ} (n first more i at b : ℕ) (ws : List ℕ) → at + way_bytes n * more ≤ b → Alike (way_bytes n * more) x y
    → Ends b (ways_of n first more i at x ws) (ways_of n first more i at y ws)
unfolding ways_of
ways-alike n first zero i at b ws h e = record { same = refl; place = omega arith }
ways-alike {x} {y} n first (suc more) i at b ws h e =
    let m : way_bytes n * suc more ≡ way_bytes n * more + way_bytes n = mul-suc (way_bytes n) more in
    rw (way-alike n x y (from 0 (way_bytes n) (omega (arith, m)) e))
    (after-alike n (first + i) at b ws _ _ (omega (arith, m))
    (λ k s u. ways-alike {x = drop (way_bytes k) x} {y = drop (way_bytes k) y} n first more (i + 1) (at + way_bytes k) b (set ws i s) (omega (arith, m)) (from (way_bytes k) (way_bytes n * more) (omega (arith, m)) e))
    (way_line_of n y) (few-members n y))

-- ---- the sheet

-- two sheets that are alike as far as the longest, and both longer
module _ (most : Limits) (x y : List ℕ) (e : Alike (longest_within most) x y) (p : longest_within most < length x) (q : longest_within most < length y) where
  module _ (n m a limit : ℕ) (c : ways_place n m + way_bytes n * a ≤ longest_within most) where
    bookings : bookings_in n x ≡ bookings_in n y
    unfolding bookings_in
    bookings = bookings-alike n 0 no_bookings no_bookings (from head_bytes (booking_bytes * n) (omega arith) e)

    links : links_in n m x ≡ links_in n m y
    unfolding links_in
    links = links-alike n m 0 0 0 no_links no_links (from (links_place n) (link_bytes * m) (omega arith) e)

    ways : Ends (longest_within most) (ways_in n m a x) (ways_in n m a y)
    unfolding ways_in
    ways = ways-alike n (n + m + 2) a 0 (ways_place n m) (longest_within most) no_ways c (from (ways_place n m) (way_bytes n * a) c e)

    -- past the ways bytes remain
    unended : (s : List ℕ) → (ways_in n m a s).next ≤ longest_within most → longest_within most < length s → end_of n m a limit s ≡ refused_of (Err (Form (n + m + a + 2)))
    unfolding end_of
    unended s h l = rw (ne_eqb (ways_in n m a s).next (length s) (λ z. omega arith))

    body_alike : body_of n m a limit x ≡ body_of n m a limit y
    unfolding body_of
    body_alike = rw (unended x ways.place p, unended y (rw (← ways.same) ways.place) q, bookings, links, ways.same)

  sheet-alike : sheet_within most x ≡ sheet_within most y
  unfolding sheet_within longest_within
  sheet-alike = ap (λ (l : List ℕ). after_head (head_of most l) x) (from 0 head_bytes (omega arith) e).bytes ∙ go (head_of most (take head_bytes y)) refl
    where
      go : (h : Result Counts HeadFault) → head_of most (take head_bytes y) ≡ h → after_head h x ≡ after_head h y
      go (Ok counts) f =
          let n : ℕ = counts.bookings in
          let m : ℕ = counts.links in
          let a : ℕ = counts.ways in
          let limit : ℕ = counts.limit in
          let c : Counted most n m a = counted-e most n m a (head-accepted most (take head_bytes y) n m a limit f).taken in
          let l : way_bytes n ≤ way_bytes most.bookings = omega (arith, c.bookings) in
          body_alike n m a limit (omega (arith, c.bookings, c.links, mul-le-mul l c.ways))
      go (Err fault) f = refl

-- what lies past the longest sheet that a caller takes does not count: one byte more is enough to see that there is more
pub sheet-front : (most : Limits) (s : List ℕ) → sheet_within most (take (longest_within most + 1) s) ≡ sheet_within most s
sheet-front most s =
    let l : ℕ = longest_within most in
    elim (split? (longest_within most) (length s)) [
      | inl h ↦ sheet-alike most (take (l + 1) s) s (record { bytes = take-take l (l + 1) s (omega arith) }) (omega (arith, length-take-le (l + 1) s (omega arith))) h
      | inr h ↦ ap (sheet_within most) (take_all (l + 1) s (omega arith))
    ]
