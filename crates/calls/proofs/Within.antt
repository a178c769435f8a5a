-- What check answers to callers with different limits, for all limits and all bytes.
-- Assumes nothing.
use mathlib.Core.Path.{◌≡◌, refl, sym, ap, ◌∙◌}
use mathlib.Core.Logic.{inl, inr}
use mathlib.Core.Bool.{Bool, true, false, cond}
use mathlib.Core.List.{List}
use Prim.Native.Nat.{ℕ, ◌+◌, ◌≤◌, ◌<◌}
use native.Mathlib.Omega.{arith}
use lib.ListN.{length, take}
use Rattle.bounded.proofs.Bools.{which}
use Rattle.plan.specs.Limits.{ours}
use Rattle.plan.specs.Judging.{is_fine, judged_refusal, judged_place}
use Rattle.plan.specs.declared.Limits.{Limits}
use Rattle.plan.specs.declared.Fault.TheVariants.{Oversize}
use Rattle.lines.specs.Form.{head_bytes}
use Rattle.lines.specs.Head.{booking_count_in, way_count_in}
use Rattle.sheet.specs.Sheet.{Sheet, refused_of, sheet_within, sheet_of, oversize}
use Rattle.sheet.specs.Text.{longest_within}
use Rattle.sheet.proofs.Places.{sheet-small}
use Rattle.sheet.proofs.Within.{sheet-within, ours-few as few}
use Rattle.sheet.proofs.Accepted.{sheet-counted, sheet-bookings, sheet-way-count}
use Rattle.sheet.proofs.ReadSheet.{sheet-bound}
use Rattle.sheet.proofs.Front.{sheet-front}
use Rattle.network.specs.FromPlan.{network_of}
use Rattle.std.specs.Prelude.{Ok, Err}
use Rattle.verdict.specs.declared.Fault.TheVariants.{Circular, Unclosed, Unused, Repeated, Stranding}
use Rattle.verdict.specs.Check.{Verdict, check, verdict_number, verdict_place}
use Rattle.verdict.proofs.Places.{verdict-small}
use Rattle.guarantee.specs.Answers.{pack, refusal_of, check_bits}
use Rattle.guarantee.proofs.Moved.{refusal-pack}
use Rattle.calls.specs.Calls.{network_within, network_in, sheet_passes, judged_bits, check_within, check_call}
use Rattle.calls.proofs.Exits.{fine-bounds}
use Rattle.calls.proofs.FirstAnswer.{judged-low, refused-low}

-- the answer for what was read
abbrev answer_to : Sheet → ℕ
answer_to t = cond (is_fine t.judged) (check_bits (check (network_of t.plan))) (judged_bits t.judged)

-- ONE VERDICT: a sheet over the caller's limits is 16 with line 1, and every other is answered as by us
pub check-within : (most : Limits) (s : List ℕ) → check_within most s ≡ cond (oversize most s) (pack 0 16 1) (check_call s)
unfolding check_within network_within refused_of judged_bits
check-within most s = ap answer_to (sheet-within most s) ∙ go (oversize most s)
  where
    go : (o : Bool) → answer_to (cond o (refused_of (Err (Oversize 1))) (sheet_of s)) ≡ cond o (pack 0 16 1) (answer_to (sheet_of s))
    go true = refl
    go false = refl

module _ (s : List ℕ) where
  module _ (most : Limits) where
    pub over-verdict : oversize most s ≡ true → check_within most s ≡ pack 0 16 1
    over-verdict o = check-within most s ∙ rw o

    pub our-verdict : oversize most s ≡ false → check_within most s ≡ check_call s
    our-verdict o = check-within most s ∙ rw o

  -- so two callers that take it give one
  pub one-verdict : (l m : Limits) → oversize l s ≡ false → oversize m s ≡ false → check_within l s ≡ check_within m s
  one-verdict l m p q = our-verdict l p ∙ sym (our-verdict m q)

-- what lies past the longest sheet that the caller takes does not count
pub check-front : (most : Limits) (s : List ℕ) → check_within most (take (longest_within most + 1) s) ≡ check_within most s
unfolding check_within network_within
check-front most s = ap answer_to (sheet-front most s)

-- ---- 16 is given to no other sheet

-- the refusal that a verdict is answered with, and it is at most 8
verdict-refusal : (v : Verdict) → verdict_place v < 65536 → (refusal_of (check_bits v) ≡ verdict_number v) × (verdict_number v ≤ 8)
unfolding check_bits verdict_number verdict_place
verdict-refusal (Ok u) h = (refusal-pack 6 0 0 (omega arith) (omega arith), omega arith)
verdict-refusal (Err (Circular b)) h = (refusal-pack 0 4 _ (omega arith) h, omega arith)
verdict-refusal (Err (Unclosed w)) h = (refusal-pack 0 5 _ (omega arith) h, omega arith)
verdict-refusal (Err (Unused b)) h = (refusal-pack 0 6 _ (omega arith) h, omega arith)
verdict-refusal (Err (Repeated w)) h = (refusal-pack 0 7 _ (omega arith) h, omega arith)
verdict-refusal (Err (Stranding w b)) h = (refusal-pack 0 8 _ (omega arith) h, omega arith)

module _ (s : List ℕ) where
  -- our refusals: 4 to 8 where the sheet reads, else 1 to 3
  pub read-refusal : is_fine (sheet_of s).judged ≡ true → (refusal_of (check_call s) ≡ verdict_number (check (network_in s))) × (verdict_number (check (network_in s)) ≤ 8)
  unfolding check_within
  read-refusal f = let b = fine-bounds ours s f in rw f (verdict-refusal (check (network_in s)) (verdict-small (network_in s) b.0 b.1))

  pub unread-refusal : is_fine (sheet_of s).judged ≡ false → refusal_of (check_call s) ≡ judged_refusal (sheet_of s).judged
  unfolding check_within judged_bits
  unread-refusal f = rw f (refusal-pack 0 (judged_refusal (sheet_of s).judged) (judged_place (sheet_of s).judged) (omega (arith, few s)) (sheet-small ours s))

  pub ours-few : refusal_of (check_call s) ≤ 8
  ours-few = elim (which (is_fine (sheet_of s).judged)) [
    | inl f ↦ (let r = read-refusal f in omega arith)
    | inr f ↦ omega (arith, unread-refusal f, few s)
  ]

  pub only-over : (most : Limits) → refusal_of (check_within most s) ≡ 16 → oversize most s ≡ true
  only-over most e = elim (which (oversize most s)) [
    | inl o ↦ o
    | inr o ↦ absurd (let x : refusal_of (check_call s) ≡ 16 = rw (our-verdict s most o) at e in omega (arith, ours-few))
  ]

-- ---- an accepted sheet is within the caller's limits, and passes

module _ (most : Limits) (s : List ℕ) (e : check_within most s ≡ pack 6 0 0) where
  fine : is_fine (sheet_within most s).judged ≡ true
  unfolding check_within pack
  fine = elim (which (is_fine (sheet_within most s).judged)) [
    | inl f ↦ f
    | inr f ↦ absurd (let x : judged_bits (sheet_within most s).judged ≡ 100663296 = rw f at e in omega (arith, judged-low (sheet_within most s).judged (sheet-small most s)))
  ]

  pub accepted-few : (booking_count_in (take head_bytes s) ≤ most.bookings) × (way_count_in (take head_bytes s) ≤ most.ways)
  accepted-few = let c = sheet-counted most s fine in (rw (sheet-bookings most s fine) c.bookings, rw (sheet-way-count most s fine) c.ways)

  pub accepted-length : length s ≤ longest_within most
  accepted-length = sheet-bound most s fine

  pub accepted-passes : sheet_passes s ≡ true
  unfolding pack
  accepted-passes = elim (which (sheet_passes s)) [
    | inl p ↦ p
    | inr p ↦ elim (which (oversize most s)) [
      | inl o ↦ absurd (let x : pack 0 16 1 ≡ pack 6 0 0 = sym (over-verdict s most o) ∙ e in omega arith)
      | inr o ↦ absurd (let x : check_call s ≡ pack 6 0 0 = sym (our-verdict s most o) ∙ e in omega (arith, refused-low s p))
    ]
  ]
