-- How long a line is, and the lines of a listing one after another.
-- Assumes nothing.
use Prim.Native.Nat.{ℕ, suc, ◌+◌, ◌*◌, ◌^◌, ◌≤◌, ◌<◌}
use mathlib.Core.Path.{◌≡◌, refl, ap}
use mathlib.Core.Bool.{Bool, true, false, not, cond}
use mathlib.Core.List.{List, [], ◌∷◌, ◌++◌}
use native.Mathlib.Nat.{zero-add}
use native.Mathlib.Omega.{arith}
use native.Mathlib.Numerals.{add-one}
use lib.Bits.{bit_and}
use lib.ListN.{length, take, drop, get_or}
use borrow.Rule.Slice.PartMut.{put_mid}
use lib.Seq.{sets, length-take-le}
use Rattle.std.proofs.lemmas.List.{get_or-take}
use Rattle.bounded.proofs.First.{first-least}
use Rattle.decimal.specs.Decimal.{columns, columns_to}
use Rattle.decimal.specs.Rows.{in_row}
use Rattle.decimal.proofs.Stores.{put-front}
use Rattle.decimal.proofs.Rows.{Wide, row-ext, row-length, row_on}
use Rattle.sets.specs.Sets.{member, without, disjoint_from}
use Rattle.passed_ways.specs.declared.Reason.{Reason}
use Rattle.passed_ways.specs.declared.Reason.TheVariants.{Lost, Lacks}
use Rattle.passed_ways.specs.Listing.{line_bytes, lowest, reason_of, letter_of, booking_of, line_text, row_of}

pub line-length : (x : ℕ) (y : Reason) → length (line_text x y) ≡ line_bytes
unfolding line_text columns columns_to
line-length x y = refl

-- ---- the booking of a reason

lowest-few : (s : ℕ) → lowest s ≤ 64
unfolding lowest
lowest-few s = (first-least (member s) 64).high

-- it fits its columns
pub reason-small : (lost firm way : ℕ) (y : Reason) → y ≡ reason_of lost firm way → booking_of y + 1 < 10 ^ 4
unfolding reason_of
reason-small lost firm way y e = rw e (go (not (disjoint_from way lost)))
  where
    go : (t : Bool) → booking_of (cond t (Lost (lowest (bit_and way lost))) (Lacks (lowest (without firm way)))) + 1 < 10 ^ 4
    go true = omega (arith, lowest-few (bit_and way lost))
    go false = omega (arith, lowest-few (without firm way))

-- ---- the listing

pub row-wide : (lost firm : ℕ) (ways : List ℕ) (n : ℕ) → Wide line_bytes (row_of lost firm ways) n
unfolding row_of
row-wide lost firm ways n i l = line-length _ _

pub rows-length : (lost firm : ℕ) (ways : List ℕ) (n : ℕ) → length (in_row (row_of lost firm ways) n) ≡ line_bytes * n
rows-length lost firm ways n = row-length line_bytes _ n (row-wide lost firm ways n)

pub rows_on : (lost firm : ℕ) (ways : List ℕ) (i k : ℕ) (y : Reason) (d b line : List ℕ) → y ≡ reason_of lost firm (get_or ways i 0)
    → line_bytes ≤ k → line_bytes * i + k ≤ length b → b ≡ sets d 0 (in_row (row_of lost firm ways) i) → line ≡ sets (take k (drop (line_bytes * i) b)) 0 (line_text (i + 1) y)
    → put_mid (line_bytes * i) k b line ≡ sets d 0 (in_row (row_of lost firm ways) (i + 1))
unfolding row_of
rows_on lost firm ways i k y d b line e m n g h =
    let f = put-front b line (line_bytes * i) k (line_text (i + 1) y) (omega (arith, line-length (i + 1) y)) n h in
    row_on line_bytes (row_of lost firm ways) 0 i d b _ (line_text (i + 1) y) (row-wide lost firm ways i) (rw (add-one i, e)) g (rw zero-add f)

-- the lines of the first k ways
pub rows-front : (lost firm : ℕ) (ways : List ℕ) (k : ℕ) → k ≤ length ways
    → in_row (row_of lost firm (take k ways)) (length (take k ways)) ≡ in_row (row_of lost firm ways) k
unfolding row_of
rows-front lost firm ways k h =
    rw (length-take-le k ways h) (row-ext _ _ k (λ i l. ap (λ way. line_text (suc i) (reason_of lost firm way)) (get_or-take k ways i 0 l)))
