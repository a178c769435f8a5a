-- What is left of `decimal::read_field`.
-- Assumes nothing.
use Rattle.std.proofs.Common.{◌≡◌, ℕ, List, ◌≤◌, ◌<◌, ◌+◌, ◌*◌, ◌-◌, ◌^◌, length, get_or, take, drop, sym, ◌∙◌, arith, length-take-le, length-drop, add-zero}
use native.Mathlib.Nat.{add_assoc}
use Rattle.std.proofs.lemmas.List.Edits.{get_or-between}
use Rattle.decimal.proofs.Laws.{Read-to, fault-length, zero-led, begun-read, digit-lacks, digit-more, number_read, room}
use Rattle.decimal.proofs.read_field.Goals as goal

-- the part from i on: how long it is, and its bytes
rest-length : (s : List ℕ) (i : ℕ) → length (take (length s - i) (drop i s)) ≡ length s - i
rest-length s i = let l : length s - i ≤ length (drop i s) = omega (arith, length-drop i s) in length-take-le (length s - i) (drop i s) l

byte_at : (s : List ℕ) (i k : ℕ) → k < length (take (length s - i) (drop i s)) → get_or (take (length s - i) (drop i s)) k 0 ≡ get_or s (i + k) 0
byte_at s i k h = get_or-between s i (length s) k 0 (omega (arith, rest-length s i))

below : (s : List ℕ) (i k w : ℕ) → length s ≡ w → k < length (take (length s - i) (drop i s)) → i + k < w
below s i k w n h = omega (arith, rest-length s i)

-- the value before a column leaves room for one digit more
roomy : (w i x : ℕ) (s : List ℕ) → w ≤ 12 → i < w → Read-to w s i x → x < 2 * 10 ^ 12
roomy w i x s h k r = room i s x (omega arith) r.value

pub returns-then-s-w : goal.returns-then-s-w
returns-then-s-w c = fault-length _ _ c.if-s-w.true

pub returns-then-leads_zero : goal.returns-then-leads_zero
returns-then-leads_zero c =
    zero-led _ _ c.begin-i.result c.if-s-w.false (rw c.if-s-w.false at c.begin-i.ensures.place) (rw c.if-s-w.false at (sym c.leads_zero.ensures ∙ c.if-leads_zero.true))

pub loop-b-init : goal.loop-b-init
loop-b-init c =
    rw add-zero
    (begun-read _ _ c.begin-i.result c.if-s-w.false (rw c.if-s-w.false at c.begin-i.ensures.place) c.begin-i.ensures.within (rw c.if-s-w.false at (sym c.leads_zero.ensures ∙ c.if-leads_zero.false)))

pub returns-then-not-is_ascii_digit : goal.returns-then-not-is_ascii_digit
returns-then-not-is_ascii_digit c =
    let k = byte_at c.args.s.now c.begin-i.result c.loop-b.b-index c.loop-b-test.true in
    digit-lacks _ _ (c.begin-i.result + c.loop-b.b-index) _ c.if-s-w.false (below _ _ _ _ c.if-s-w.false c.loop-b-test.true)
    c.loop-b.invariant _ (rw k at c.is_ascii_digit.ensures.value) c.if-not-is_ascii_digit.true _ c.unread.ensures

pub overflow_mul-x : goal.overflow_mul-x
overflow_mul-x c = omega (arith, roomy _ _ _ _ c.requires (below _ _ _ _ c.if-s-w.false c.loop-b-test.true) c.loop-b.invariant)

pub overflow_add-x : goal.overflow_add-x
overflow_add-x c = omega (arith, roomy _ _ _ _ c.requires (below _ _ _ _ c.if-s-w.false c.loop-b-test.true) c.loop-b.invariant)

pub loop-b-preserved : goal.loop-b-preserved
loop-b-preserved c =
    let k = byte_at c.args.s.now c.begin-i.result c.loop-b.b-index c.loop-b-test.true in
    rw (← (add_assoc c.begin-i.result c.loop-b.b-index 1))
    (digit-more _ _ (c.begin-i.result + c.loop-b.b-index) _ c.if-s-w.false (below _ _ _ _ c.if-s-w.false c.loop-b-test.true)
    c.loop-b.invariant _ (rw k at c.is_ascii_digit.ensures.value) c.if-not-is_ascii_digit.false _ (rw k at c.digit.ensures))

pub returns : goal.returns
returns c =
    let l = c.loop-b in
    number_read _ _ (c.begin-i.result + l.b-index) l.x c.if-s-w.false l.invariant.high
    (omega (arith, rest-length c.args.s.now c.begin-i.result, c.loop-b-test.false)) l.invariant.value l.invariant.text
