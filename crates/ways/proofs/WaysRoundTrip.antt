-- The lines of all ways: what is written is read back (`ways-read`), accepted lines are what is written of the sets that were read
-- (`ways-accepted`), so that the counts that the lines list add up to the sizes of the sets, and their numbers are those of the sets' bookings.
-- Assumes nothing.
use mathlib.Core.Path.{◌≡◌, refl, sym, ap, ◌∙◌}
use mathlib.Core.Bool.{true}
use mathlib.Core.List.{List, ◌++◌, append_assoc}
use Prim.Native.Nat.{ℕ, zero, suc, ◌+◌, ◌^◌, ◌≤◌, ◌<◌}
use native.Mathlib.Nat.{le_refl, zero-add, add-zero}
use native.Mathlib.Omega.{arith}
use lib.ListN.{length, get_or, drop, set, length-append, length-set}
use lib.Seq.{drop_at, drop-drop, get_or-set_same, get_or-set_other}
use Rattle.bounded.specs.Bounded.{sum}
use Rattle.bounded.proofs.Bools.{clash}
use Rattle.bounded.proofs.Sums.{sum-eq}
use Rattle.sets.specs.Sets.{member, size_of}
use Rattle.plan.specs.Limits.{most_ways}
use Rattle.std.specs.Prelude.{Result, Ok, Err}
use Rattle.bounded.proofs.Filled.{filled}
use Rattle.ways.specs.WayText.{way_bytes, way_text, ways_text, size_at, ways_length}
use Rattle.ways.specs.Way.{way_line_of}
use Rattle.ways.specs.Ways.{way_fault_on, after_way, ways_of, no_ways, from_way_line, count_on, counts_listed, listed_on}
use Rattle.ways.specs.declared.WayFault.{WayFault}
use Rattle.ways.specs.declared.Ways.{Ways}
use Rattle.ways.proofs.TextLaws.{way-length, length-step, none_yet}
use Rattle.ways.proofs.WayRoundTrip.{way-read, WayIs, way-accepted}
use Rattle.ways.proofs.WayNumbers.{way-members}

-- ---- how long the lines are

text-length : (more i : ℕ) (ws : List ℕ) → ways_length i ws + length (ways_text more i ws) ≡ ways_length (i + more) ws
unfolding ways_text
text-length zero i ws = rw (add-zero (ways_length i ws), add-zero i)
text-length (suc more) i ws =
    let e : i + suc more ≡ i + 1 + more = omega arith in
    rw e
    (omega (arith, text-length more (i + 1) ws, length-step ws i, length-append (way_text (get_or ws i 0)) (ways_text more (i + 1) ws), way-length (get_or ws i 0)))

-- the lines of the first a ways are as long as their bytes add up to
pub ways-length : (a : ℕ) (ws : List ℕ) → length (ways_text a 0 ws) ≡ ways_length a ws
ways-length a ws =
    let e : 0 + a ≡ a = omega arith in
    let t : ways_length 0 ws + length (ways_text a 0 ws) ≡ ways_length a ws = text-length a 0 ws ∙ rw e in
    omega (arith, none_yet ws)

-- ---- what is written is read

-- a way that can be written: it has a booking, and bookings of n alone
pub record Writable (n s : ℕ) : Type 0 where
  pub some : 1 ≤ size_of s
  pub small : s < 2 ^ n

pub ways-read : (n first a i at : ℕ) (ws rest acc : List ℕ) → n ≤ 64 → ((k : ℕ) → i ≤ k → k < i + a → Writable n (get_or ws k 0))
    → ways_of n first a i at (ways_text a i ws ++ rest) acc ≡ record { judged = Ok tt; next = at + length (ways_text a i ws); way = filled a i ws acc }
unfolding ways_of ways_text filled
ways-read n first zero i at ws rest acc h v = ap (λ (p : ℕ). record { judged = Ok tt; next = p; way = acc }) (sym (add-zero at))
ways-read n first (suc a) i at ws rest acc h v =
    let s : ℕ = get_or ws i 0 in
    let more : List ℕ = ways_text a (i + 1) ws in
    let w : Writable n (get_or ws i 0) = v i (le_refl i) (omega arith) in
    let e : (way_text (get_or ws i 0) ++ ways_text a (i + 1) ws) ++ rest ≡ way_text (get_or ws i 0) ++ (ways_text a (i + 1) ws ++ rest) =
    append_assoc (way_text s) more rest in
    let r : way_line_of n (way_text (get_or ws i 0) ++ (ways_text a (i + 1) ws ++ rest)) ≡ Ok (size_of (get_or ws i 0), get_or ws i 0) =
    way-read n s (more ++ rest) h w.some w.small in
    let d : drop (way_bytes (size_of (get_or ws i 0))) (way_text (get_or ws i 0) ++ (ways_text a (i + 1) ws ++ rest)) ≡ ways_text a (i + 1) ws ++ rest =
    drop_at (way_text s) (more ++ rest) (way_bytes (size_of s)) (way-length s) in
    let p : at + way_bytes (size_of (get_or ws i 0)) + length (ways_text a (i + 1) ws) ≡ at + length (way_text (get_or ws i 0) ++ ways_text a (i + 1) ws) =
    omega (arith, length-append (way_text s) more, way-length s) in
    rw (e, r, d)
    (ways-read n first a (i + 1) (at + way_bytes (size_of s)) ws rest (set acc i s) h (λ k l u. v k (omega arith) (omega arith))
    ∙ ap (λ (q : ℕ). record { judged = Ok tt; next = q; way = filled a (i + 1) ws (set acc i s) }) p)

-- ---- what is accepted is what is written of it

-- so many accepted lines, from way i + 1 on: they are the lines of the ways that were read, and those before i + 1 were kept
pub record Accepted (n a i at next : ℕ) (rest acc ws : List ℕ) : Type 0 where
  pub text : rest ≡ ways_text a i ws ++ drop (length (ways_text a i ws)) rest
  pub place : next ≡ at + length (ways_text a i ws)
  pub lines : (j : ℕ) → j < a → WayIs n (size_of (get_or ws (i + j) 0)) (get_or ws (i + j) 0) (from_way_line j rest)
  pub kept : (j : ℕ) → j < i → get_or ws j 0 ≡ get_or acc j 0

-- one line more in front
module _ (n a i at next k s : ℕ) (rest acc ws : List ℕ) (h : i < length acc) (w : WayIs n k s rest)
    (t : Accepted n a (i + 1) (at + way_bytes k) next (drop (way_bytes k) rest) (set acc i s) ws) where
  is-way : get_or ws i 0 ≡ s
  is-way = t.kept i (omega arith) ∙ get_or-set_same acc i s 0 h

  long : length (way_text (get_or ws i 0) ++ ways_text a (i + 1) ws) ≡ way_bytes k + length (ways_text a (i + 1) ws)
  long =
      rw is-way
      (length-append (way_text s) (ways_text a (i + 1) ws) ∙ omega (arith, way-length s, w.counted))

  one-text : rest ≡ ways_text (suc a) i ws ++ drop (length (ways_text (suc a) i ws)) rest
  unfolding ways_text
  one-text =
      let d : drop (length (ways_text a (i + 1) ws)) (drop (way_bytes k) rest) ≡ drop (length (way_text (get_or ws i 0) ++ ways_text a (i + 1) ws)) rest =
      drop-drop (length (ways_text a (i + 1) ws)) (way_bytes k) rest ∙ rw long in
      w.text
      ∙ ap (λ (l : List ℕ). way_text s ++ l) t.text
      ∙ sym (append_assoc (way_text s) (ways_text a (i + 1) ws) (drop (length (ways_text a (i + 1) ws)) (drop (way_bytes k) rest)))
      ∙ rw (d, is-way)

  one-lines : (j : ℕ) → j < suc a → WayIs n (size_of (get_or ws (i + j) 0)) (get_or ws (i + j) 0) (from_way_line j rest)
  unfolding from_way_line
  one-lines zero l = rw (add-zero i, is-way, ← w.counted) w
  one-lines (suc j) l =
      let e : i + suc j ≡ i + 1 + j = omega arith in
      rw (e, w.listed-count) (t.lines j (omega arith))

  one_line : Accepted n (suc a) i at next rest acc ws
  unfolding ways_text
  one_line = record {
    text = one-text;
    place = t.place ∙ omega (arith, long);
    lines = one-lines;
    kept = λ j l. t.kept j (omega arith) ∙ get_or-set_other acc i j s 0 (λ e. omega arith);
  }

pub ways-accepted : (n first a i at next : ℕ) (rest acc ws : List ℕ) → n ≤ 64 → i + a ≤ length acc
    → ways_of n first a i at rest acc ≡ record { judged = Ok tt; next = next; way = ws } → Accepted n a i at next rest acc ws
unfolding ways_of ways_text
ways-accepted n first zero i at next rest acc ws h b e =
    let w : acc ≡ ws = ap (λ (r : Ways). r.way) e in
    let p : at ≡ next = ap (λ (r : Ways). r.next) e in
    record {
      text = refl;
      place = omega arith;
      lines = λ j l. absurd (omega arith);
      kept = λ j l. ap (λ (r : List ℕ). get_or r j 0) (sym w);
    }
ways-accepted n first (suc a) i at next rest acc ws h b e =
    go (λ k s. ways-accepted n first a (i + 1) (at + way_bytes k) next (drop (way_bytes k) rest) (set acc i s) ws h (rw length-set (omega arith)))
    (way_line_of n rest) (λ k s. way-accepted n k s rest h) e
  where
    go : ((k s : ℕ) → ways_of n first a (i + 1) (at + way_bytes k) (drop (way_bytes k) rest) (set acc i s) ≡ record { judged = Ok tt; next = next; way = ws }
        → Accepted n a (i + 1) (at + way_bytes k) next (drop (way_bytes k) rest) (set acc i s) ws)
        → (x : Result (ℕ × ℕ) WayFault) → ((k s : ℕ) → x ≡ Ok (k, s) → WayIs n k s rest)
        → after_way x (first + i) at acc (λ k s. ways_of n first a (i + 1) (at + way_bytes k) (drop (way_bytes k) rest) (set acc i s))
        ≡ record { judged = Ok tt; next = next; way = ws } → Accepted n (suc a) i at next rest acc ws
    go more (Ok p) w j = one_line n a i at next p.0 p.1 rest acc ws (omega arith) (w p.0 p.1 refl) (more p.0 p.1 j)
    go more (Err fault) w j =
        let z : Err (way_fault_on fault (first + i)) ≡ Ok tt = ap (λ (r : Ways). r.judged) j in
        clash true refl (cc)

-- ---- from the first way on

none-length : length no_ways ≡ most_ways
unfolding no_ways
none-length = refl

-- the a lines of an accepted sheet: their text, the place after them, what each way is, s, the sum of the counts that they list, and whose numbers
-- they list
pub record Read (n a at next : ℕ) (rest ws : List ℕ) : Type 0 where
  pub text : rest ≡ ways_text a 0 ws ++ drop (ways_length a ws) rest
  pub place : next ≡ at + ways_length a ws
  pub writable : (k : ℕ) → k < a → Writable n (get_or ws k 0)
  pub counts : counts_listed a rest ≡ sum (size_at ws) a
  pub bookings : (w b : ℕ) → w < a → listed_on w b rest ≡ member (get_or ws w 0) b

pub all-accepted : (n first a at next : ℕ) (rest ws : List ℕ) → n ≤ 64 → a ≤ most_ways
    → ways_of n first a 0 at rest no_ways ≡ record { judged = Ok tt; next = next; way = ws } → Read n a at next rest ws
unfolding counts_listed listed_on count_on size_at
all-accepted n first a at next rest ws h b e =
    let t : Accepted n a 0 at next rest no_ways ws = ways-accepted n first a 0 at next rest no_ways ws h (omega (arith, none-length)) e in
    let line : (w : ℕ) → w < a → WayIs n (size_of (get_or ws w 0)) (get_or ws w 0) (from_way_line w rest) = λ w u. rw (zero-add w) at (t.lines w u) in
    let l : length (ways_text a 0 ws) ≡ ways_length a ws = ways-length a ws in
    record {
      text = t.text ∙ rw l;
      place = omega (arith, t.place);
      writable = λ w u. record { some = (line w u).some; small = (line w u).small };
      counts = sum-eq (count_on rest) (size_at ws) a (λ w u. (line w u).listed-count);
      bookings = λ w b u. sym (way-members n (size_of (get_or ws w 0)) (get_or ws w 0) (from_way_line w rest) (line w u) h b);
    }

-- what is written of a ways reads back as those ways
pub all_read : (n first a at : ℕ) (ws rest : List ℕ) → n ≤ 64 → ((k : ℕ) → k < a → Writable n (get_or ws k 0))
    → ways_of n first a 0 at (ways_text a 0 ws ++ rest) no_ways ≡ record { judged = Ok tt; next = at + ways_length a ws; way = filled a 0 ws no_ways }
all_read n first a at ws rest h v =
    ways-read n first a 0 at ws rest no_ways h (λ k l u. v k (omega arith))
    ∙ ap (λ (q : ℕ). record { judged = Ok tt; next = at + q; way = filled a 0 ws no_ways }) (ways-length a ws)
