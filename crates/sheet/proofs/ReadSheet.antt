-- The sheet of a record that is fine reads as that record (`sheet-read`), and how long it can be.
-- Assumes nothing.
use mathlib.Core.Path.{◌≡◌, refl, sym, ◌∙◌}
use mathlib.Core.List.{List, ◌++◌, [], append-nil}
use mathlib.Core.Bool.{true}
use Prim.Native.Nat.{ℕ, ◌+◌, ◌*◌, ◌≤◌}
use native.Mathlib.Nat.{mul-le-mul}
use native.Mathlib.Omega.{arith}
use lib.ListN.{length, get_or, length-append, take, drop}
use lib.Seq.{take_at, drop_at, drop-drop}
use borrow.Author.Tests.{eq-eqb}
use Rattle.bounded.proofs.Filled.{filled}
use Rattle.sets.proofs.Gather.{size-le}
use Rattle.plan.specs.declared.Plan.{Plan}
use Rattle.plan.specs.Judging.{is_fine}
use Rattle.plan.specs.Limits.{most_bookings, most_links, most_ways, ours, counted}
use Rattle.plan.specs.declared.Limits.{Limits}
use Rattle.plan.specs.Record.{record_of}
use Rattle.std.specs.Prelude.{Ok}
use Rattle.plan.proofs.LimitLaws.{Counted, Limited, limited-i}
use Rattle.plan.proofs.Valid.{valid, fine-entries, booking-fits, link_fits}
use Rattle.lines.specs.Form.{head_bytes, booking_bytes, link_bytes, links_place, ways_place}
use Rattle.lines.specs.Head.{head_text, head_of}
use Rattle.lines.specs.Bookings.{bookings_text, no_bookings}
use Rattle.plan.specs.Links.{no_links}
use Rattle.lines.specs.Links.{links_text}
use Rattle.lines.proofs.Lengths.{head-length, bookings-length, links-length}
use Rattle.lines.proofs.RoundTrip.{head_read}
use Rattle.lines.proofs.AllLines.{bookings-read, links-read}
use Rattle.ways.specs.WayText.{way_bytes, ways_text, ways_length}
use Rattle.ways.specs.Ways.{no_ways}
use Rattle.ways.proofs.WaysRoundTrip.{ways-length, all_read}
use Rattle.ways.proofs.TextLaws.{length_most, ways-most}
use Rattle.sheet.specs.Text.{sheet_text, sheet_length, longest_within}
use Rattle.sheet.specs.Sheet.{bookings_in, links_in, ways_in, plan_in, end_of, body_of, sheet_within}
use Rattle.sheet.proofs.Accepted.{sheet-fine, sheet-counted, sheet-accepted}

pub sheet-length : (p : Plan) → length (sheet_text p) ≡ sheet_length p
unfolding sheet_text sheet_length
sheet-length p =
    let h : List ℕ = head_text p.n p.m p.a p.limit in
    let k : List ℕ = bookings_text p.n 0 p.kind p.desk in
    let l : List ℕ = links_text p.m 0 p.from p.to in
    let w : List ℕ = ways_text p.a 0 p.way in
    omega (
      arith,
      length-append h (k ++ (l ++ w)),
      length-append k (l ++ w),
      length-append l w,
      head-length p.n p.m p.a p.limit,
      bookings-length p.n 0 p.kind p.desk,
      links-length p.m 0 p.from p.to,
      ways-length p.a p.way,
    )

-- the plan that is read
unfoldable pub read_plan : Plan → Plan
read_plan p = record {
  n = p.n;
  m = p.m;
  a = p.a;
  limit = p.limit;
  kind = filled p.n 0 p.kind no_bookings;
  desk = filled p.n 0 p.desk no_bookings;
  from = filled p.m 0 p.from no_links;
  to = filled p.m 0 p.to no_links;
  way = filled p.a 0 p.way no_ways;
}

module _ (p : Plan) (e : record_of p ≡ Ok tt) where
  fits : Limited p.n p.m p.a p.limit
  fits = (valid p e).counts

  the-head : (most : Limits) → counted most p.n p.m p.a ≡ true → head_of most (take head_bytes (sheet_text p)) ≡ Ok (record { bookings = p.n; links = p.m; ways = p.a; limit = p.limit })
  unfolding sheet_text
  the-head most c =
      rw (take_at (head_text p.n p.m p.a p.limit) (bookings_text p.n 0 p.kind p.desk ++ (links_text p.m 0 p.from p.to ++ ways_text p.a 0 p.way)) head_bytes (head-length p.n p.m p.a p.limit))
      (head_read p.n p.m p.a p.limit most (limited-i p.n p.m p.a p.limit fits) c)

  from-bookings : drop head_bytes (sheet_text p) ≡ bookings_text p.n 0 p.kind p.desk ++ (links_text p.m 0 p.from p.to ++ ways_text p.a 0 p.way)
  unfolding sheet_text
  from-bookings = drop_at (head_text p.n p.m p.a p.limit) _ head_bytes (head-length p.n p.m p.a p.limit)

  from-links : drop (links_place p.n) (sheet_text p) ≡ links_text p.m 0 p.from p.to ++ ways_text p.a 0 p.way
  from-links =
      sym (drop-drop (booking_bytes * p.n) head_bytes (sheet_text p)) ∙ rw from-bookings (drop_at (bookings_text p.n 0 p.kind p.desk) _ (booking_bytes * p.n) (bookings-length p.n 0 p.kind p.desk))

  from-ways : drop (ways_place p.n p.m) (sheet_text p) ≡ ways_text p.a 0 p.way ++ []
  from-ways =
      sym (drop-drop (link_bytes * p.m) (links_place p.n) (sheet_text p))
      ∙ rw from-links (drop_at (links_text p.m 0 p.from p.to) _ (link_bytes * p.m) (links-length p.m 0 p.from p.to))
      ∙ sym (append-nil (ways_text p.a 0 p.way))

  the-bookings : bookings_in p.n (sheet_text p) ≡ record { judged = Ok tt; kind = (read_plan p).kind; desk = (read_plan p).desk }
  unfolding bookings_in read_plan
  the-bookings =
      rw from-bookings
      (bookings-read p.n 0 p.kind p.desk _ no_bookings no_bookings (omega (arith, fits.bookings)) (λ j l u. booking-fits p (fine-entries p e) j (omega arith)))

  the_links : links_in p.n p.m (sheet_text p) ≡ record { judged = Ok tt; from = (read_plan p).from; to = (read_plan p).to }
  unfolding links_in read_plan
  the_links =
      rw from-links
      (links-read p.n p.m 0 p.from p.to _ 0 0 no_links no_links (omega (arith, fits.bookings)) (λ j l u. link_fits p (fine-entries p e) j (omega arith)) refl refl)

  the_ways : ways_in p.n p.m p.a (sheet_text p) ≡ record { judged = Ok tt; next = sheet_length p; way = (read_plan p).way }
  unfolding ways_in read_plan sheet_length
  the_ways =
      rw from-ways
      (all_read p.n (p.n + p.m + 2) p.a (ways_place p.n p.m) p.way [] fits.bookings
      (λ k h. record { some = (valid p e).taken k h; small = (valid p e).sets k h }))

  -- the sheet of a record that is fine reads as that record, to each caller that takes so much
  pub sheet-read : (most : Limits) → counted most p.n p.m p.a ≡ true → sheet_within most (sheet_text p) ≡ record { judged = Ok tt; plan = read_plan p }
  unfolding sheet_within body_of end_of plan_in read_plan
  sheet-read most c = rw (the-head most c, the-bookings, the_links, the_ways, eq-eqb _ _ (sym (sheet-length p)))

  -- it is no longer than a caller's longest, if the caller takes it
  pub length-bound : (most : Limits) → Counted most p.n p.m p.a → length (sheet_text p) ≤ longest_within most
  unfolding sheet_length longest_within
  length-bound most c =
      let w : ways_length p.a p.way ≤ way_bytes p.n * p.a = length_most p.n p.a p.way (λ k h. size-le p.n (get_or p.way k 0) fits.bookings ((valid p e).sets k h)) in
      let l : way_bytes p.n ≤ way_bytes most.bookings = omega (arith, c.bookings) in
      omega (arith, sheet-length p, c.bookings, c.links, w, mul-le-mul l c.ways)

-- nor, whatever its entries are, than our longest, if it is within our limits
pub size-bound : (p : Plan) → p.n ≤ most_bookings → p.m ≤ most_links → p.a ≤ most_ways → sheet_length p ≤ longest_within ours
unfolding sheet_length longest_within ours
size-bound p hn hm ha = omega (arith, ways-most (ways_length p.a p.way) p.a p.way refl)

-- of ours the longest has so many bytes
pub longest-is : longest_within ours ≡ 10098
unfolding longest_within ours
longest-is = refl

-- no accepted sheet is longer
pub sheet-bound : (most : Limits) (s : List ℕ) → is_fine (sheet_within most s).judged ≡ true → length s ≤ longest_within most
sheet-bound most s e = rw (← (sheet-accepted most s e)) (length-bound (sheet_within most s).plan (sheet-fine most s e) most (sheet-counted most s e))
