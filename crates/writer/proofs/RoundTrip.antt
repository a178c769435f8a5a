-- Both round trips. What the writer leaves for a record is read back as that record (`written_read`); an accepted sheet, read and
-- written, is the same bytes (`read-written`).
-- Assumes nothing.
use Prim.Native.Nat.{ℕ, ◌≤◌}
use mathlib.Core.Path.{◌≡◌, refl, ap, ◌∙◌}
use mathlib.Core.List.{List, ◌++◌}
use mathlib.Core.Bool.{Bool, true, false, cond}
use native.Mathlib.Omega.{arith}
use lib.ListN.{length, take, drop, replicate, length-replicate}
use lib.Dec.{leb}
use lib.Seq.{take_at}
use borrow.Author.Tests.{le-leb}
use Rattle.bounded.proofs.Bools.{clash}
use Rattle.bounded.proofs.Lists.{zeros-at}
use Rattle.plan.specs.Judging.{is_fine}
use Rattle.plan.specs.Limits.{most_bookings, most_links, most_ways, ours, counted}
use Rattle.plan.specs.Record.{record_of}
use Rattle.plan.specs.declared.Limits.{Limits}
use Rattle.plan.specs.declared.Plan.{Plan}
use Rattle.std.specs.Prelude.{⊤, Result, Ok, Err}
use Rattle.plan.specs.declared.RecordFault.{RecordFault}
use Rattle.bounded.proofs.Filled.{filled, filled_at, filled-past}
use Rattle.plan.proofs.Valid.{valid, fine-counted}
use Rattle.lines.specs.Bookings.{no_bookings}
use Rattle.plan.specs.Links.{no_links}
use Rattle.ways.specs.Ways.{no_ways}
use Rattle.sheet.specs.Sheet.{Sheet, sheet_within}
use Rattle.sheet.specs.Text.{sheet_text}
use Rattle.sheet.proofs.Accepted.{sheet-fine, sheet-accepted}
use Rattle.sheet.proofs.ReadSheet.{read_plan, sheet-read}
use Rattle.writer.specs.Written.{fine_answer, answer_by, written_of, leaves}
use Rattle.writer.specs.ReadBack.{Copied, ReadBack}
use Rattle.writer.specs.declared.WriteFault.TheVariants.{Short}

-- ---- entries read back into zeros

copied : (n most : ℕ) (xs : List ℕ) → n ≤ most → Copied n xs (filled n 0 xs (replicate most 0))
copied n most xs h = record {
  counted = λ i l. filled_at n 0 xs (replicate most 0) i (omega (arith, length-replicate {A = ℕ} most 0)) (omega arith) (omega arith);
  past = λ i l. filled-past n 0 xs (replicate most 0) i (omega arith) ∙ zeros-at most i;
}

pub plan-read : (p : Plan) → record_of p ≡ Ok tt → ReadBack p (read_plan p)
unfolding read_plan no_bookings no_links no_ways
plan-read p e = let l = (valid p e).counts in record {
  bookings = refl;
  links = refl;
  ways = refl;
  limit = refl;
  kinds = copied p.n most_bookings p.kind l.bookings;
  desks = copied p.n most_bookings p.desk l.bookings;
  starts = copied p.m most_links p.from l.links;
  ends = copied p.m most_links p.to l.links;
  sets = copied p.a most_ways p.way l.ways;
}

-- ---- the writer's answer and what it leaves

-- a record that the writer takes is fine, and the length that is given is that of its sheet
record Taken (p : Plan) (k : ℕ) : Type 0 where
  fine : record_of p ≡ Ok tt
  long : length (sheet_text p) ≡ k

taken : (p : Plan) (size k : ℕ) → written_of p size ≡ Ok k → Taken p k
unfolding written_of fine_answer
taken p size k = go (record_of p) refl
  where
    fit : (b : Bool) → record_of p ≡ Ok tt → cond b (Ok (length (sheet_text p))) (Err Short) ≡ Ok k → Taken p k
    fit true f q = record { fine = f; long = cc }
    fit false f q = clash true refl cc

    go : (r : Result ⊤ RecordFault) → record_of p ≡ r → answer_by r p size ≡ Ok k → Taken p k
    go (Ok tt) f q = fit (leb (length (sheet_text p)) size) f q
    go (Err fault) f q = clash true refl cc

-- the front that the writer leaves is an accepted sheet, and its plan is the record
pub record Reads (most : Limits) (p : Plan) (s : List ℕ) : Type 0 where
  pub accepted : (sheet_within most s).judged ≡ Ok tt
  pub same : ReadBack p (sheet_within most s).plan

module _ (p : Plan) (d : List ℕ) (k : ℕ) (e : written_of p (length d) ≡ Ok k) where
  -- to each caller that takes so much
  pub written-within : (most : Limits) → counted most p.n p.m p.a ≡ true → Reads most p (take k (leaves p d))
  unfolding leaves
  written-within most c =
      let t : Taken p k = taken p (length d) k e in
      let f : take k (sheet_text p ++ drop k d) ≡ sheet_text p = take_at (sheet_text p) (drop k d) k t.long in
      rw (e, f) (record { accepted = ap (λ (r : Sheet). r.judged) (sheet-read p t.fine most c); same = rw (sheet-read p t.fine most c) (plan-read p t.fine) })

  -- and so to us
  pub written_read : Reads ours p (take k (leaves p d))
  written_read = written-within ours (fine-counted p (taken p (length d) k e).fine)

-- an accepted sheet, read and written, is the same bytes
module _ (most : Limits) (s d : List ℕ) (e : is_fine (sheet_within most s).judged ≡ true) (h : length s ≤ length d) where
  pub read_answer : written_of (sheet_within most s).plan (length d) ≡ Ok (length s)
  unfolding written_of fine_answer
  read_answer = rw (sheet-fine most s e, sheet-accepted most s e, le-leb _ _ h)

  pub read-written : leaves (sheet_within most s).plan d ≡ s ++ drop (length s) d
  unfolding leaves
  read-written = rw (read_answer, sheet-accepted most s e)
