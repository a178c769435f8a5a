-- The line at which a sheet is refused is below 65536, and it is refused with 1, 2 or 3 where it is not over the caller's limits.
-- Assumes nothing.
use mathlib.Core.Path.{◌≡◌, refl}
use mathlib.Core.Bool.{true}
use mathlib.Core.List.{List}
use Prim.Native.Nat.{ℕ, ◌+◌, ◌<◌, ◌≤◌}
use native.Mathlib.Omega.{arith}
use lib.ListN.{length, take, drop}
use lib.Dec.{eqb}
use Rattle.bounded.proofs.Bools.{clash, by_cond}
use Rattle.std.specs.Prelude.{Result, Ok, Err}
use Rattle.plan.specs.Judging.{Judged, is_fine, judged_refusal, judged_place}
use Rattle.plan.specs.declared.Limits.{Limits}
use Rattle.plan.specs.declared.Plan.{Plan}
use Rattle.plan.specs.declared.Fault.TheVariants.{Form}
use Rattle.plan.proofs.LimitLaws.{Limited}
use Rattle.plan.proofs.RecordLaws.{Upto, further}
use Rattle.lines.specs.Form.{head_bytes, links_place, ways_place}
use Rattle.lines.specs.Head.{head_of}
use Rattle.lines.specs.Bookings.{no_bookings}
use Rattle.plan.specs.Links.{no_links}
use Rattle.lines.specs.declared.Counts.{Counts}
use Rattle.lines.specs.declared.HeadFault.{HeadFault}
use Rattle.lines.specs.declared.HeadFault.TheVariants as H
use Rattle.lines.proofs.RoundTrip.{head-limits}
use Rattle.lines.proofs.Places.{bookings-small, links-small}
use Rattle.ways.specs.Ways.{no_ways}
use Rattle.ways.proofs.Places.{ways-small}
use Rattle.sheet.specs.Sheet.{Sheet, bookings_in, links_in, ways_in, plan_in, past, refused_of, end_of, body_of, after_head, sheet_within}

-- what the lines after the head tell, of a sheet with few enough of them
abbrev Told : Judged → Type 0
Told j = Upto 65535 j

bookings-in : {m a limit : ℕ} (n : ℕ) (s : List ℕ) → Limited n m a limit → Told (bookings_in n s).judged
unfolding bookings_in
bookings-in n s l = further 65535 (omega (arith, l.bookings)) (bookings-small n 0 (drop head_bytes s) no_bookings no_bookings)

links-in : {a limit : ℕ} (n m : ℕ) (s : List ℕ) → Limited n m a limit → Told (links_in n m s).judged
unfolding links_in
links-in n m s l = further 65535 (omega (arith, l.bookings, l.links)) (links-small n m 0 (drop (links_place n) s) 0 0 no_links no_links)

ways-in : {limit : ℕ} (n m a : ℕ) (s : List ℕ) → Limited n m a limit → Told (ways_in n m a s).judged
unfolding ways_in
ways-in n m a s l = further 65535 (omega (arith, l.bookings, l.links, l.ways)) (ways-small n (n + m + 2) a 0 (ways_place n m) (drop (ways_place n m) s) no_ways)

record Small-sheet (r : Sheet) : Type 0 where
  told : Told r.judged

refused-small : (j : Judged) → Told j → Small-sheet (refused_of j)
unfolding refused_of
refused-small j h = record { told = h }

fine-small : (p : Plan) → Small-sheet (record { judged = Ok tt; plan = p })
fine-small p = record { told = record { place = omega arith; few = omega arith } }

past-small : (j : Judged) (r : Sheet) → Told j → Small-sheet r → Small-sheet (past j r)
past-small j r h n = by_cond Small-sheet {t = is_fine j} {a = r} {b = refused_of j} (λ _. n) (λ _. refused-small j h)

end-small : (n m a limit : ℕ) (s : List ℕ) → Limited n m a limit → Small-sheet (end_of n m a limit s)
unfolding end_of
end-small n m a limit s l =
    by_cond Small-sheet {t = eqb (ways_in n m a s).next (length s)} {a = record { judged = Ok tt; plan = plan_in n m a limit s }} {b = refused_of (Err (Form (n + m + a + 2)))}
    (λ _. fine-small (plan_in n m a limit s)) (λ _. refused-small (Err (Form (n + m + a + 2))) (record { place = omega (arith, l.bookings, l.links, l.ways); few = omega arith }))

body-small : (n m a limit : ℕ) (s : List ℕ) → Limited n m a limit → Small-sheet (body_of n m a limit s)
unfolding body_of
body-small n m a limit s l =
    past-small (bookings_in n s).judged _ (bookings-in n s l)
    (past-small (links_in n m s).judged _ (links-in n m s l) (past-small (ways_in n m a s).judged _ (ways-in n m a s l) (end-small n m a limit s l)))

module _ (most : Limits) (s : List ℕ) where
  by-head : (h : Result Counts HeadFault) → head_of most (take head_bytes s) ≡ h → (h ≡ Err H.Oversize → ⊥) → Told (after_head h s).judged
  unfolding refused_of
  by-head (Ok c) e o =
      (body-small c.bookings c.links c.ways c.limit s
      (head-limits most (take head_bytes s) (head_of most (take head_bytes s)) c.bookings c.links c.ways c.limit refl e)).told
  by-head (Err H.Malformed) e o = record { place = omega arith; few = omega arith }
  by-head (Err H.OutOfLimits) e o = record { place = omega arith; few = omega arith }
  by-head (Err H.Oversize) e o = absurd (o refl)

  -- refused with 1, 2 or 3
  pub sheet-few : (head_of most (take head_bytes s) ≡ Err H.Oversize → ⊥) → judged_refusal (sheet_within most s).judged ≤ 3
  unfolding sheet_within
  sheet-few o = (by-head (head_of most (take head_bytes s)) refl o).few

  pub sheet-small : judged_place (sheet_within most s).judged < 65536
  unfolding sheet_within refused_of
  sheet-small = go (head_of most (take head_bytes s)) refl
    where
      go : (h : Result Counts HeadFault) → head_of most (take head_bytes s) ≡ h → judged_place (after_head h s).judged < 65536
      go (Ok c) e = omega (arith, (by-head (Ok c) e (λ o. clash true refl cc)).place)
      go (Err H.Malformed) e = omega arith
      go (Err H.OutOfLimits) e = omega arith
      go (Err H.Oversize) e = omega arith
