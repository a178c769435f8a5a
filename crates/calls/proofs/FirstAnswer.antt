-- The answer to start on 65 bytes tells whether the sheet passes.
-- Assumes nothing.
use mathlib.Core.Logic.{inl, inr}
use mathlib.Core.Path.{◌≡◌, refl}
use mathlib.Core.Bool.{true, false}
use mathlib.Core.List.{List}
use Prim.Native.Nat.{ℕ, ◌≤◌, ◌<◌}
use native.Mathlib.Omega.{arith}
use lib.ListN.{length}
use borrow.Author.Tests.{eq-eqb}
use Rattle.bounded.proofs.Bools.{which, clash}
use Rattle.plan.specs.Judging.{Judged, is_fine, judged_place}
use Rattle.plan.specs.Limits.{ours}
use Rattle.plan.proofs.RecordLaws.{refusal-few}
use Rattle.sheet.specs.Sheet.{sheet_of}
use Rattle.sheet.proofs.Places.{sheet-small}
use Rattle.std.specs.Prelude.{Ok, Err}
use Rattle.verdict.specs.declared.Fault.TheVariants.{Circular, Unclosed, Unused, Repeated, Stranding}
use Rattle.verdict.specs.Check.{Verdict, check, verdict_number, verdict_place}
use Rattle.verdict.proofs.Places.{verdict-small}
use Rattle.run.specs.State.{start}
use Rattle.run.specs.Bytes.{bytes_of}
use Rattle.guarantee.specs.Answers.{pack, check_bits}
use Rattle.calls.specs.Calls.{network_in, passes, sheet_passes, judged_bits, check_within, check_call, start_call, start_leaves}
use Rattle.calls.proofs.Exits.{fine-bounds}

pub judged-low : (j : Judged) → judged_place j < 65536 → judged_bits j < 16777216
unfolding judged_bits pack
judged-low j h = omega (arith, refusal-few j)

verdict-low : (v : Verdict) → verdict_place v < 65536 → passes v ≡ false → check_bits v < 16777216
unfolding check_bits pack passes verdict_number verdict_place
verdict-low (Ok u) h e = clash true refl e
verdict-low (Err (Circular b)) h e = omega arith
verdict-low (Err (Unclosed w)) h e = omega arith
verdict-low (Err (Unused b)) h e = omega arith
verdict-low (Err (Repeated w)) h e = omega arith
verdict-low (Err (Stranding w b)) h e = omega arith

pub refused-low : (s : List ℕ) → sheet_passes s ≡ false → check_call s < 16777216
unfolding sheet_passes check_within
refused-low s e = elim (which (is_fine (sheet_of s).judged)) [
  | inl f ↦
      (let b = fine-bounds ours s f in
      let n : passes (check (network_in s)) ≡ false = rw f at e in
      rw f (verdict-low (check (network_in s)) (verdict-small (network_in s) b.0 b.1) n))
  | inr f ↦ rw f (judged-low (sheet_of s).judged (sheet-small ours s))
]

module _ (s bs : List ℕ) (l : length bs ≡ 65) (x : ℕ) (e : x ≡ start_call s bs) where
  pub low-refused : x < 16777216 → sheet_passes s ≡ false
  unfolding start_call pack
  low-refused h = elim (which (sheet_passes s)) [
    | inl p ↦ absurd (let z : x ≡ 100663296 = rw (p, eq-eqb (length bs) 65 l) at e in omega arith)
    | inr p ↦ p
  ]

  pub high-passes : 16777216 ≤ x → sheet_passes s ≡ true
  unfolding start_call
  high-passes h = elim (which (sheet_passes s)) [
    | inl p ↦ p
    | inr p ↦ absurd (let z : x ≡ check_call s = rw p at e in omega (arith, refused-low s p))
  ]

  pub accepted-is : 16777216 ≤ x → x ≡ pack 6 0 0
  unfolding start_call
  accepted-is h = rw (high-passes h, eq-eqb (length bs) 65 l) at e

  pub started-is : 16777216 ≤ x → start_leaves s bs ≡ bytes_of start
  unfolding start_leaves
  started-is h = rw (high-passes h, eq-eqb (length bs) 65 l) refl
