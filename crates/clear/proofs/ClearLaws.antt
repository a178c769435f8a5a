-- A sheet without refusals 1 to k reads, and its network has none of the faults up to k; and back.
-- Assumes nothing.
use mathlib.Core.Path.{◌≡◌, refl, ap, ◌∙◌}
use mathlib.Core.Logic.{inl, inr}
use mathlib.Core.Bool.{true, false}
use mathlib.Core.List.{List}
use Prim.Native.Nat.{ℕ, ◌≤◌}
use native.Mathlib.Omega.{arith}
use borrow.Author.Tests.{not-true, eq-eqb}
use Rattle.bounded.proofs.Bools.{which, clash, off, split?, not-i, ◌&◌}
use Rattle.plan.specs.Limits.{within, ours}
use Rattle.std.specs.Prelude.{Ok, Err}
use Rattle.plan.specs.Judging.{Judged, is_fine, judged_refusal}
use Rattle.plan.specs.declared.Fault.TheVariants.{Form, Count, Sequence, Oversize}
use Rattle.plan.proofs.LimitLaws.{within-lo, within-hi, within-i}
use Rattle.plan.proofs.Valid.{Valid}
use Rattle.sheet.specs.Sheet.{sheet_of}
use Rattle.sheet.proofs.Accepted.{sheet-valid}
use Rattle.sheet.proofs.Within.{ours-few}
use Rattle.verdict.specs.Check.{check, verdict_number}
use Rattle.verdict.proofs.Pass.{Clean-to, Past, clean-to, clean-past}
use Rattle.guarantee.specs.Answers.{kind_of, refusal_of}
use Rattle.guarantee.proofs.Moved.{refusal-pack}
use Rattle.calls.specs.Calls.{network_in, passes, sheet_passes, check_call}
use Rattle.calls.proofs.FirstAnswer.{refused-low}
use Rattle.calls.proofs.InOrder.{accepted}
use Rattle.calls.proofs.Within.{read-refusal, unread-refusal}
use Rattle.clear.specs.Clear.{clear_bits, clear_verdict, clear}

-- ---- the answer

module _ (k x : ℕ) where
  pub clear-past : clear_bits k x ≡ true → Past k (refusal_of x)
  unfolding clear_bits
  clear-past e = elim (split? k (refusal_of x)) [
    | inl l ↦ inr l
    | inr l ↦ elim (split? 0 (refusal_of x)) [
      | inl o ↦ clash (within 1 (refusal_of x) k) (within-i 1 (refusal_of x) k o l) (not-true _ e)
      | inr o ↦ inl (omega arith)
    ]
  ]

  pub past-clear : Past k (refusal_of x) → clear_bits k x ≡ true
  unfolding clear_bits
  past-clear p = not-i _ (off (within 1 (refusal_of x) k) (λ e.
      let lo = within-lo 1 (refusal_of x) k e in
      let hi = within-hi 1 (refusal_of x) k e in
      elim p [ inl z ↦ omega arith | inr z ↦ omega arith ]))

-- what does not read is refused with 1 at least
unread-some : (j : Judged) → is_fine j ≡ false → 1 ≤ judged_refusal j
unread-some (Ok tt) e = clash true refl e
unread-some (Err (Form l)) e = omega arith
unread-some (Err (Count l)) e = omega arith
unread-some (Err (Sequence l)) e = omega arith
unread-some (Err (Oversize l)) e = omega arith

-- ---- the sheet

module _ (k : ℕ) (s : List ℕ) where
  pub clear-fine : 3 ≤ k → clear k s ≡ true → is_fine (sheet_of s).judged ≡ true
  unfolding clear
  clear-fine h e = elim (which (is_fine (sheet_of s).judged)) [
    | inl f ↦ f
    | inr f ↦ absurd (let r = unread-refusal s f in
        let lo = unread-some (sheet_of s).judged f in
        elim (clear-past k (check_call s) e) [ inl z ↦ omega arith | inr z ↦ omega (arith, ours-few s) ])
  ]

  -- a sheet that reads is clear as its verdict is, and one that does not read is not
  pub clear-read : is_fine (sheet_of s).judged ≡ true → clear_verdict k (check (network_in s)) ≡ clear k s
  unfolding clear clear_bits clear_verdict
  clear-read f = rw (read-refusal s f).0

  pub unread-unclear : 3 ≤ k → is_fine (sheet_of s).judged ≡ false → clear k s ≡ false
  unread-unclear h f = off (clear k s) (λ e. clash _ (clear-fine h e) f)

  pub clear-valid : 3 ≤ k → clear k s ≡ true → Valid (sheet_of s).plan
  clear-valid h e = sheet-valid ours s (clear-fine h e)

  -- none of the faults up to k
  pub clear-clean : 3 ≤ k → clear k s ≡ true → Clean-to k (network_in s)
  unfolding clear
  clear-clean h e =
      let r = (read-refusal s (clear-fine h e)).0 in
      clean-to k (network_in s) (elim (clear-past k (check_call s) e) [ inl z ↦ inl (omega arith) | inr z ↦ inr (omega arith) ])

  pub clean-clear : is_fine (sheet_of s).judged ≡ true → Clean-to k (network_in s) → clear k s ≡ true
  unfolding clear
  clean-clear f c =
      let r = (read-refusal s f).0 in
      past-clear k (check_call s) (elim (clean-past k (network_in s) c) [ inl z ↦ inl (omega arith) | inr z ↦ inr (omega arith) ])

  -- a sheet that passes is clear of all
  pub passes-clear : sheet_passes s ≡ true → clear k s ≡ true
  unfolding clear
  passes-clear p = past-clear k (check_call s) (inl (ap refusal_of (accepted s p) ∙ refusal-pack 6 0 0 (omega arith) (omega arith)))

  -- so is every one that check answers with kind 6
  pub six-clear : kind_of (check_call s) ≡ 6 → clear k s ≡ true
  unfolding kind_of
  six-clear e = elim (which (sheet_passes s)) [
    | inl p ↦ passes-clear p
    | inr p ↦ absurd (omega (arith, refused-low s p))
  ]

-- a sheet that reads and has none of 4 to 8 passes
pub clean-passes : (s : List ℕ) → is_fine (sheet_of s).judged ≡ true → Clean-to 8 (network_in s) → sheet_passes s ≡ true
unfolding sheet_passes passes
clean-passes s f c =
    let few = (read-refusal s f).1 in
    f & eq-eqb (verdict_number (check (network_in s))) 0 (elim (clean-past 8 (network_in s) c) [ inl z ↦ z | inr z ↦ absurd (omega arith) ])
