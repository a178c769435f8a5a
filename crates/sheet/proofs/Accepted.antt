-- What an accepted sheet is: its plan is valid (`sheet-valid`), and its bytes are, to the last, the sheet of that plan (`sheet-accepted`). So its lines
-- have the plan's limit (`sheet-limit`), the letters of its kinds (`sheet-letters`), the numbers of its desks (`sheet-desks`), the counts of its
-- ways (`sheet-counts`) and the numbers of their bookings (`sheet-ways`). All this whatever the caller's limits are; and its counts are within
-- them (`sheet-counted`).
-- Assumes nothing.
use Prim.Native.Nat.{ℕ, ◌+◌, ◌*◌, ◌^◌, ◌<◌}
use mathlib.Core.Path.{◌≡◌, refl, sym, ap, ◌∙◌}
use mathlib.Core.List.{List, [], ◌++◌, append-nil}
use mathlib.Core.Bool.{Bool, true, false, cond}
use native.Mathlib.Nat.{zero-add}
use native.Mathlib.Omega.{arith}
use lib.ListN.{length, get_or, take, drop, take-append-drop}
use lib.Dec.{eqb}
use lib.Seq.{drop-drop, drop-length}
use borrow.Author.Tests.{eqb-true}
use Rattle.bounded.specs.Bounded.{sum}
use Rattle.bounded.proofs.Bools.{clash}
use Rattle.sets.specs.Sets.{member}
use Rattle.plan.specs.Limits.{counted}
use Rattle.std.specs.Prelude.{Result, Ok, Err}
use Rattle.plan.specs.Judging.{Judged, is_fine}
use Rattle.plan.specs.declared.Limits.{Limits}
use Rattle.plan.specs.Record.{record_of}
use Rattle.plan.specs.declared.Fault.TheVariants.{Form}
use Rattle.plan.proofs.LimitLaws.{Counted, counted-e, Limited, limited}
use Rattle.plan.proofs.Valid.{Valid, valid, fine-i}
use Rattle.plan.proofs.RecordLaws.{fine-is}
use Rattle.lines.specs.Form.{head_bytes, booking_bytes, link_bytes, links_place, ways_place}
use Rattle.lines.specs.Head.{head_text, booking_count_in, way_count_in, limit_in, head_of}
use Rattle.lines.specs.Booking.{kind_in, desk_in}
use Rattle.lines.specs.Bookings.{bookings_text, letter_on, desk_on, no_bookings}
use Rattle.plan.specs.Links.{no_links}
use Rattle.lines.specs.HeadFault.{head_fault_of}
use Rattle.lines.specs.Links.{links_text}
use Rattle.lines.specs.declared.Counts.{Counts}
use Rattle.lines.specs.declared.HeadFault.{HeadFault}
use Rattle.lines.proofs.RoundTrip.{its-limit, HeadIs, head-accepted}
use Rattle.lines.proofs.AllLines.{letter_at, desk-at, BookingsAre, bookings-accepted, LinksAre, links-accepted}
use Rattle.lines.proofs.Lengths.{no-bookings-length, no-links-length}
use Rattle.ways.specs.WayText.{ways_text, ways_length, size_at}
use Rattle.ways.specs.Ways.{counts_listed, listed_on}
use Rattle.ways.proofs.WaysRoundTrip.{Read, all-accepted}
use Rattle.sheet.specs.Sheet.{Sheet, bookings_in, links_in, ways_in, plan_in, refused_of, end_of, body_of, sheet_within}
use Rattle.sheet.specs.Text.{sheet_text}

-- ---- what was found on the way to an accepted sheet

record Stages (s : List ℕ) : Type 0 where
  n : ℕ
  m : ℕ
  a : ℕ
  limit : ℕ
  first : take head_bytes s ≡ head_text n m a limit
  fits : Limited n m a limit
  bookings : (bookings_in n s).judged ≡ Ok tt
  links : (links_in n m s).judged ≡ Ok tt
  ways : (ways_in n m a s).judged ≡ Ok tt
  end : (ways_in n m a s).next ≡ length s

-- and what it is to a caller that takes so much
record Found (most : Limits) (s : List ℕ) : Type 0 where
  stages : Stages s
  taken : counted most stages.n stages.m stages.a ≡ true
  bookings : booking_count_in (take head_bytes s) ≡ stages.n
  ways : way_count_in (take head_bytes s) ≡ stages.a
  read : sheet_within most s ≡ record { judged = Ok tt; plan = plan_in stages.n stages.m stages.a stages.limit s }

module _ (most : Limits) (s : List ℕ) where
  body-found : (n m a limit : ℕ) → HeadIs most (take head_bytes s) n m a limit → (x y z w : Bool) → is_fine (bookings_in n s).judged ≡ x → is_fine (links_in n m s).judged ≡ y
      → is_fine (ways_in n m a s).judged ≡ z → eqb (ways_in n m a s).next (length s) ≡ w
      → sheet_within most s
      ≡ cond x
      (cond y
      (cond z (cond w (record { judged = Ok tt; plan = plan_in n m a limit s }) (refused_of (Err (Form (n + m + a + 2))))) (refused_of (ways_in n m a s).judged))
      (refused_of (links_in n m s).judged))
      (refused_of (bookings_in n s).judged)
      → is_fine (sheet_within most s).judged ≡ true → Found most s
  unfolding refused_of
  body-found n m a limit h true true true true k l v t e q = record {
    stages = record {
      n = n;
      m = m;
      a = a;
      limit = limit;
      first = h.text;
      fits = limited n m a limit h.fit;
      bookings = fine-is (bookings_in n s).judged k;
      links = fine-is (links_in n m s).judged l;
      ways = fine-is (ways_in n m a s).judged v;
      end = eqb-true _ _ t;
    };
    taken = h.taken;
    bookings = h.bookings;
    ways = h.ways;
    read = e;
  }
  body-found n m a limit h true true true false k l v t e q = clash true refl (sym (rw e at q))
  body-found n m a limit h true true false w k l v t e q = clash (is_fine (ways_in n m a s).judged) (rw e at q) v
  body-found n m a limit h true false z w k l v t e q = clash (is_fine (links_in n m s).judged) (rw e at q) l
  body-found n m a limit h false y z w k l v t e q = clash (is_fine (bookings_in n s).judged) (rw e at q) k

  found : is_fine (sheet_within most s).judged ≡ true → Found most s
  unfolding sheet_within body_of end_of refused_of
  found = go (head_of most (take head_bytes s)) refl
    where
      go : (h : Result Counts HeadFault) → head_of most (take head_bytes s) ≡ h → is_fine (sheet_within most s).judged ≡ true → Found most s
      go (Ok c) e q =
          let n : ℕ = c.bookings in
          let m : ℕ = c.links in
          let a : ℕ = c.ways in
          let limit : ℕ = c.limit in
          body-found n m a limit (head-accepted most (take head_bytes s) n m a limit e) (is_fine (bookings_in n s).judged) (is_fine (links_in n m s).judged) (is_fine (ways_in n m a s).judged)
          (eqb (ways_in n m a s).next (length s)) refl refl refl refl (rw e) q
      go (Err fault) e q =
          let f : sheet_within most s ≡ refused_of (Err (head_fault_of fault)) = rw e in
          clash true refl (sym (rw f at q))

-- ---- the parts of an accepted sheet

module _ (s : List ℕ) (t : Stages s) where
  fits : Limited t.n t.m t.a t.limit
  fits = t.fits

  the-bookings : BookingsAre t.n 0 (drop head_bytes s) no_bookings no_bookings (bookings_in t.n s).kind (bookings_in t.n s).desk
  unfolding bookings_in
  the-bookings =
      bookings-accepted t.n 0 (drop head_bytes s) no_bookings no_bookings (bookings_in t.n s).kind (bookings_in t.n s).desk
      (omega (arith, no-bookings-length, fits.bookings))
      (omega (arith, no-bookings-length, fits.bookings))
      (ap (λ (j : Judged). record { judged = j; kind = (bookings_in t.n s).kind; desk = (bookings_in t.n s).desk }) t.bookings)

  the_links : LinksAre t.n t.m 0 (drop (links_place t.n) s) 0 0 no_links no_links (links_in t.n t.m s).from (links_in t.n t.m s).to
  unfolding links_in
  the_links =
      links-accepted t.n t.m 0 (drop (links_place t.n) s) 0 0 no_links no_links (links_in t.n t.m s).from (links_in t.n t.m s).to
      (omega (arith, no-links-length, fits.links))
      (omega (arith, no-links-length, fits.links))
      (ap (λ (j : Judged). record { judged = j; from = (links_in t.n t.m s).from; to = (links_in t.n t.m s).to }) t.links)

  the_ways : Read t.n t.a (ways_place t.n t.m) (length s) (drop (ways_place t.n t.m) s) (ways_in t.n t.m t.a s).way
  unfolding ways_in
  the_ways =
      all-accepted t.n (t.n + t.m + 2) t.a (ways_place t.n t.m) (length s) (drop (ways_place t.n t.m) s) (ways_in t.n t.m t.a s).way
      fits.bookings fits.ways
      (ap (λ (j : Judged). record { judged = j; next = (ways_in t.n t.m t.a s).next; way = (ways_in t.n t.m t.a s).way }) t.ways
      ∙ ap (λ (l : ℕ). record { judged = Ok tt; next = l; way = (ways_in t.n t.m t.a s).way }) t.end)

  -- ---- its plan has no refusal 2 and no refusal 3

  plan-fine : record_of (plan_in t.n t.m t.a t.limit s) ≡ Ok tt
  unfolding plan_in
  plan-fine =
      fine-i (plan_in t.n t.m t.a t.limit s) fits (λ b h. the-bookings.good b (omega arith) (omega arith))
      (λ i h. the_links.good refl refl i (omega arith) (omega arith)) (λ k h. (the_ways.writable k h).small) (λ k h. (the_ways.writable k h).some)

  -- ---- its bytes are the lines of that plan

  after-ways : drop (ways_place t.n t.m) s ≡ ways_text t.a 0 (ways_in t.n t.m t.a s).way
  after-ways =
      let w : List ℕ = (ways_in t.n t.m t.a s).way in
      let d : drop (ways_length t.a (ways_in t.n t.m t.a s).way) (drop (ways_place t.n t.m) s) ≡ [] =
      drop-drop (ways_length t.a w) (ways_place t.n t.m) s ∙ rw (← the_ways.place) (drop-length s) in
      the_ways.text ∙ rw (d, append-nil)

  after-links : drop (links_place t.n) s
      ≡ links_text t.m 0 (links_in t.n t.m s).from (links_in t.n t.m s).to ++ drop (ways_place t.n t.m) s
  after-links =
      sym (take-append-drop (link_bytes * t.m) (drop (links_place t.n) s)) ∙ rw (the_links.text, drop-drop (link_bytes * t.m) (links_place t.n) s)

  after-bookings : drop head_bytes s ≡ bookings_text t.n 0 (bookings_in t.n s).kind (bookings_in t.n s).desk ++ drop (links_place t.n) s
  after-bookings = sym (take-append-drop (booking_bytes * t.n) (drop head_bytes s)) ∙ rw (the-bookings.text, drop-drop (booking_bytes * t.n) head_bytes s)

  after-head : s ≡ head_text t.n t.m t.a t.limit ++ drop head_bytes s
  after-head = sym (take-append-drop head_bytes s) ∙ rw t.first

  bytes-are : s ≡ sheet_text (plan_in t.n t.m t.a t.limit s)
  unfolding sheet_text plan_in
  bytes-are = after-head ∙ rw (after-bookings, after-links, after-ways)

  -- ---- so its columns hold what that plan holds

  limit_is : limit_in s ≡ t.limit
  limit_is = ap limit_in after-head ∙ its-limit t.n t.m t.a t.limit (drop head_bytes s) (omega (arith, fits.matters))

  -- where the line of a booking stands
  line-there : (b : ℕ) → drop (links_place b) s
      ≡ drop (booking_bytes * b) (bookings_text t.n 0 (bookings_in t.n s).kind (bookings_in t.n s).desk ++ drop (links_place t.n) s)
  line-there b = sym (drop-drop (booking_bytes * b) head_bytes s) ∙ ap (drop (booking_bytes * b)) after-bookings

  letters-are : (b : ℕ) → b < t.n → letter_on s b ≡ get_or (bookings_in t.n s).kind b 0
  unfolding letter_on
  letters-are b h =
      ap kind_in (line-there b) ∙ letter_at t.n 0 b (bookings_in t.n s).kind (bookings_in t.n s).desk (drop (links_place t.n) s) h
      ∙ ap (λ (i : ℕ). get_or (bookings_in t.n s).kind i 0) (zero-add b)

  desks-are : (b : ℕ) → b < t.n → desk_on s b ≡ get_or (bookings_in t.n s).desk b 0
  unfolding desk_on plan_in
  desks-are b h =
      let d : get_or (bookings_in t.n s).desk b 0 < 10 ^ 4 = omega (arith, (valid (plan_in t.n t.m t.a t.limit s) plan-fine).desks b h) in
      ap desk_in (line-there b)
      ∙ desk-at t.n 0 b (bookings_in t.n s).kind (bookings_in t.n s).desk (drop (links_place t.n) s) h (rw (zero-add b) d)
      ∙ ap (λ (i : ℕ). get_or (bookings_in t.n s).desk i 0) (zero-add b)

-- ---- the theorems

module _ (most : Limits) (s : List ℕ) (e : is_fine (sheet_within most s).judged ≡ true) where
  told : Found most s
  told = found most s e

  read-plan : plan_in told.stages.n told.stages.m told.stages.a told.stages.limit s ≡ (sheet_within most s).plan
  read-plan = sym (ap (λ (r : Sheet). r.plan) told.read)

  -- the plan of an accepted sheet passes the record's test
  pub sheet-fine : record_of (sheet_within most s).plan ≡ Ok tt
  sheet-fine = rw (← read-plan) (plan-fine s told.stages)

  -- and so has no refusal 2 and no refusal 3
  pub sheet-valid : Valid (sheet_within most s).plan
  sheet-valid = valid (sheet_within most s).plan sheet-fine

  -- its counts are within the caller's limits
  pub sheet-counted : Counted most (sheet_within most s).plan.n (sheet_within most s).plan.m (sheet_within most s).plan.a
  unfolding plan_in
  sheet-counted = rw (← read-plan) (counted-e most told.stages.n told.stages.m told.stages.a told.taken)

  -- and its head has them
  pub sheet-bookings : booking_count_in (take head_bytes s) ≡ (sheet_within most s).plan.n
  unfolding plan_in
  sheet-bookings = rw (← read-plan) told.bookings

  pub sheet-way-count : way_count_in (take head_bytes s) ≡ (sheet_within most s).plan.a
  unfolding plan_in
  sheet-way-count = rw (← read-plan) told.ways

  -- an accepted sheet is the sheet of its plan
  pub sheet-accepted : sheet_text (sheet_within most s).plan ≡ s
  sheet-accepted = sym (bytes-are s told.stages ∙ ap sheet_text read-plan)

  -- its head has the limit of its desks
  pub sheet-limit : limit_in s ≡ (sheet_within most s).plan.limit
  unfolding plan_in
  sheet-limit = rw (← read-plan) (limit_is s told.stages)

  -- its booking lines have the letters of its kinds
  pub sheet-letters : (b : ℕ) → b < (sheet_within most s).plan.n → letter_on s b ≡ get_or (sheet_within most s).plan.kind b 0
  unfolding plan_in
  sheet-letters = rw (← read-plan) (letters-are s told.stages)

  -- and the numbers of its desks
  pub sheet-desks : (b : ℕ) → b < (sheet_within most s).plan.n → desk_on s b ≡ get_or (sheet_within most s).plan.desk b 0
  unfolding plan_in
  sheet-desks = rw (← read-plan) (desks-are s told.stages)

  -- the counts that its way lines list add up to the sizes of its sets
  pub sheet-counts : counts_listed (sheet_within most s).plan.a (drop (ways_place (sheet_within most s).plan.n (sheet_within most s).plan.m) s)
      ≡ sum (size_at (sheet_within most s).plan.way) (sheet_within most s).plan.a
  unfolding plan_in
  sheet-counts = rw (← read-plan) (the_ways s told.stages).counts

  -- and the numbers are those of the bookings in its sets
  pub sheet-ways : (w b : ℕ) → w < (sheet_within most s).plan.a
      → listed_on w b (drop (ways_place (sheet_within most s).plan.n (sheet_within most s).plan.m) s) ≡ member (get_or (sheet_within most s).plan.way w 0) b
  unfolding plan_in
  sheet-ways = rw (← read-plan) (the_ways s told.stages).bookings
