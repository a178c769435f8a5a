-- The sheet of a record as it is written line by line, and what the writer has in hand at each of its returns.
-- Assumes nothing.
use Prim.Native.Nat.{ℕ, ◌+◌, ◌≤◌, ◌<◌}
use mathlib.Core.Path.{◌≡◌, sym, ◌∙◌}
use mathlib.Core.List.{List, ◌++◌}
use native.Mathlib.Omega.{arith}
use native.Mathlib.Nat.{zero-add}
use lib.ListN.{length}
use lib.Seq.{sets, sets-eq}
use borrow.Author.Tests.{le-leb, lt-leb}
use Rattle.decimal.proofs.Stores.{sets-append}
use Rattle.plan.specs.Record.{record_of}
use Rattle.plan.specs.declared.Plan.{Plan}
use Rattle.std.specs.Prelude.{Ok, Err}
use Rattle.plan.specs.declared.RecordFault.{RecordFault}
use Rattle.lines.specs.Form.{head_bytes, links_place, ways_place}
use Rattle.lines.specs.Head.{head_text}
use Rattle.lines.specs.Bookings.{bookings_text}
use Rattle.lines.specs.Links.{links_text}
use Rattle.lines.proofs.Lengths.{head-length, bookings-length, links-length}
use Rattle.ways.specs.WayText.{ways_text}
use Rattle.sheet.specs.Text.{sheet_text, sheet_length}
use Rattle.sheet.proofs.ReadSheet.{sheet-length}
use Rattle.writer.specs.Written.{write_fault, fine_answer, written_of, left_by, leaves}
use Rattle.writer.specs.declared.WriteFault.TheVariants.{Short}

-- ---- the four kinds of lines, stored one after the other

pub all_lines : (p : Plan) (d x y z v : List ℕ) (links ways : ℕ) → links ≡ links_place p.n → ways ≡ ways_place p.n p.m
    → x ≡ sets d 0 (head_text p.n p.m p.a p.limit) → y ≡ sets x head_bytes (bookings_text p.n 0 p.kind p.desk) → z ≡ sets y links (links_text p.m 0 p.from p.to)
    → v ≡ sets z ways (ways_text p.a 0 p.way) → v ≡ sets d 0 (sheet_text p)
unfolding sheet_text
all_lines p d x y z v links ways q r f g h i =
    let hd : List ℕ = head_text p.n p.m p.a p.limit in
    let k : List ℕ = bookings_text p.n 0 p.kind p.desk in
    let l : List ℕ = links_text p.m 0 p.from p.to in
    let w : List ℕ = ways_text p.a 0 p.way in
    let a1 : 0 + length (head_text p.n p.m p.a p.limit) ≡ head_bytes = rw (head-length p.n p.m p.a p.limit) in
    let a2 : head_bytes + length (bookings_text p.n 0 p.kind p.desk) ≡ links = rw bookings-length (sym q) in
    let a3 : links + length (links_text p.m 0 p.from p.to) ≡ ways = rw (q, links-length) (sym r) in
    let s1 : sets d 0 (hd ++ (k ++ (l ++ w))) ≡ sets x head_bytes (k ++ (l ++ w)) = sets-append d 0 hd (k ++ (l ++ w)) ∙ rw (a1, f) in
    let s2 : sets x head_bytes (k ++ (l ++ w)) ≡ sets y links (l ++ w) = sets-append x head_bytes k (l ++ w) ∙ rw (a2, g) in
    let s3 : sets y links (l ++ w) ≡ v = sets-append y links l w ∙ rw (a3, i, h) in
    sym (s1 ∙ s2 ∙ s3)

module _ (p : Plan) (k : ℕ) (e : k ≡ sheet_length p) where
  the-length : length (sheet_text p) ≡ k
  the-length = sheet-length p ∙ sym e

  pub too_short : (size : ℕ) → size < k → Err Short ≡ fine_answer p size
  unfolding fine_answer
  too_short size h = rw (the-length, lt-leb _ _ h)

  pub left_alone : (d : List ℕ) → length d < k → d ≡ left_by (fine_answer p (length d)) p d
  left_alone d h = rw (← (too_short (length d) h))

  pub its-length : (size : ℕ) → k ≤ size → Ok k ≡ fine_answer p size
  unfolding fine_answer
  its-length size h = rw (the-length, le-leb _ _ h)

  pub written : (d v : List ℕ) → k ≤ length d → v ≡ sets d 0 (sheet_text p) → v ≡ left_by (fine_answer p (length d)) p d
  written d v r i =
      let o : 0 + length (sheet_text p) ≤ length d = omega (arith, the-length) in
      i ∙ sets-eq (sheet_text p) d 0 o ∙ rw (← (its-length (length d) r), the-length, zero-add)

-- ---- the judgement of the record comes first

module _ (p : Plan) (d : List ℕ) where
  pub fine-answer : Ok tt ≡ record_of p → fine_answer p (length d) ≡ written_of p (length d)
  unfolding written_of
  fine-answer e = rw (← e)

  pub fine-left : Ok tt ≡ record_of p → left_by (fine_answer p (length d)) p d ≡ leaves p d
  unfolding leaves written_of
  fine-left e = rw (← e)

  pub fault-answer : (f : RecordFault) → Err f ≡ record_of p → Err (write_fault f) ≡ written_of p (length d)
  unfolding written_of
  fault-answer f e = rw (← e)

  pub fault-left : (f : RecordFault) → Err f ≡ record_of p → d ≡ leaves p d
  unfolding leaves written_of
  fault-left f e = rw (← e)
