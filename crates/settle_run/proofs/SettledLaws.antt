-- What accounts' program has in hand after the call, and what that says of the text that it prints.
-- Assumes nothing.
use Prim.Native.Nat.{ℕ, ◌≤◌}
use mathlib.Core.Path.{◌≡◌, ap, ◌∙◌}
use mathlib.Core.Logic.{◌≢◌, inl, inr}
use mathlib.Core.List.{List}
use native.Mathlib.Omega.{arith}
use lib.ListN.{length, take}
use lib.Seq.{sets}
use Rattle.bounded.proofs.Bools.{which}
use Rattle.decimal.proofs.Stores.{sets-counted}
use Rattle.guarantee.specs.Answers.{pack, kind_of, place_of}
use Rattle.drill_lines.specs.Printed.{printed_text}
use Rattle.drill_lines.proofs.PrintLaws.{printed-length}
use Rattle.settle_calls.specs.Settle.{settles, settle_call, settle_leaves}
use Rattle.settle_calls.proofs.Accepted.{report-small, settled-answer, settled-left, refusal-same, refusal-low, refusal-left}
use Rattle.settle_run.specs.Settled.{longest_report, settled_text}

-- what is printed is no longer than the longest report
pub settled-length : (s fees j : List ℕ) → length (settled_text s fees j) ≤ longest_report
unfolding settled_text
settled-length s fees j = elim (which (settles s fees j)) [
  | inl e ↦ rw e (report-small s fees j e)
  | inr e ↦ rw e (omega (arith, printed-length (settle_call s fees j longest_report)))
]

module _ (s fees j d : List ℕ) (room : longest_report ≤ length d) (bits : ℕ) (e : bits ≡ settle_call s fees j (length d)) (after : List ℕ) (f : after ≡ settle_leaves s fees j d) where
  -- a refusal is printed in the buffer, which the call has left as it was
  pub printed : kind_of bits ≡ 0 → (n : ℕ) → n ≡ length (printed_text bits) → (out : List ℕ) → out ≡ sets after 0 (printed_text bits)
      → (n ≡ length (settled_text s fees j)) × (out ≡ sets d 0 (settled_text s fees j))
  unfolding settled_text kind_of pack
  printed z n p out q = elim (which (settles s fees j)) [
    | inl t ↦ (let y = e ∙ settled-answer s fees j t d (omega (arith, report-small s fees j t)) in absurd (omega arith))
    | inr t ↦
        (let y : bits ≡ settle_call s fees j longest_report = e ∙ refusal-same s fees j t (length d) longest_report in
        (rw (t, ← y) p, rw (t, ← y) (q ∙ ap (λ (x : List ℕ). sets x 0 (printed_text bits)) (f ∙ refusal-left s fees j t d))))
  ]

  -- the report stands in the buffer, and the answer has its length
  pub billed : kind_of bits ≢ 0 → (n : ℕ) → n ≡ place_of bits → (n ≡ length (settled_text s fees j)) × (after ≡ sets d 0 (settled_text s fees j))
  unfolding settled_text kind_of place_of pack
  billed z n p = elim (which (settles s fees j)) [
    | inl t ↦
        (let l = report-small s fees j t in
        let y = e ∙ settled-answer s fees j t d (omega arith) in
        (rw t (omega arith), rw t (f ∙ settled-left s fees j t d (omega arith))))
    | inr t ↦ (let y = refusal-low s fees j t (length d) in absurd (z (omega arith)))
  ]

-- so much of the buffer is printed
pub settled-counts : (s fees j d b : List ℕ) (n : ℕ) → longest_report ≡ length d → n ≡ length (settled_text s fees j) → b ≡ sets d 0 (settled_text s fees j)
    → (n ≤ length b) × (n ≡ length (take n b))
settled-counts s fees j d b n h = sets-counted d b (settled_text s fees j) n (omega (arith, settled-length s fees j))
