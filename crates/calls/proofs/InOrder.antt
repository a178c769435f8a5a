-- What a sheet that passes and a campaign that is in order are, as facts; and that all else is answered with a refusal.
-- Assumes nothing.
use mathlib.Core.Path.{◌≡◌}
use mathlib.Core.Logic.{inl, inr}
use mathlib.Core.Bool.{true, false}
use mathlib.Core.List.{List}
use Prim.Native.Nat.{ℕ, ◌<◌}
use native.Mathlib.Omega.{arith}
use lib.Dec.{eqb}
use lib.ListN.{length, length-drop}
use borrow.Author.Tests.{eqb-true}
use Rattle.bounded.proofs.Bools.{which, and_l, and_r}
use Rattle.plan.specs.Limits.{ours}
use Rattle.plan.specs.Judging.{is_fine}
use Rattle.sheet.specs.Sheet.{sheet_of}
use Rattle.sheet.proofs.Accepted.{sheet-valid}
use Rattle.verdict.specs.Check.{check, verdict_number}
use Rattle.verdict.proofs.Facts.{Passes}
use Rattle.run.specs.Bytes.{run_of, sound_bytes}
use Rattle.run.proofs.Facts.{Sound}
use Rattle.run.proofs.SoundTest.{sound-e}
use Rattle.guarantee.specs.Answers.{pack, unsound}
use Rattle.guarantee.proofs.Plans.{plan-passes}
use Rattle.calls.specs.Calls.{network_within, network_in, passes, sheet_passes, check_call, in_order, refused_with}
use Rattle.calls.proofs.Exits.{accepted as accepted-call}
use Rattle.calls.proofs.FirstAnswer.{refused-low}

-- ---- a sheet that passes

module _ (s : List ℕ) (e : sheet_passes s ≡ true) where
  pub fine : is_fine (sheet_of s).judged ≡ true
  unfolding sheet_passes
  fine = and_l (is_fine (sheet_of s).judged) _ e

  pub checked : verdict_number (check (network_in s)) ≡ 0
  unfolding sheet_passes passes
  checked = eqb-true (verdict_number (check (network_in s))) 0 (and_r (is_fine (sheet_of s).judged) _ e)

  -- what the check ensures of the sheet's network
  pub passing : Passes (network_in s)
  unfolding network_within
  passing = plan-passes (sheet_of s).plan (sheet-valid ours s fine) checked

  -- check accepts it
  pub accepted : check_call s ≡ pack 6 0 0
  accepted = accepted-call s e

-- ---- a campaign in order

module _ (s bs : List ℕ) (o : in_order s bs ≡ true) where
  pub sheet-passes : sheet_passes s ≡ true
  unfolding in_order
  sheet-passes = and_l (sheet_passes s) _ o

  state-sound : sound_bytes (network_in s) bs ≡ true
  unfolding in_order
  state-sound = and_r (sheet_passes s) _ o

  pub state-size : length bs ≡ 65
  unfolding sound_bytes
  state-size = eqb-true (length bs) 65 (and_l (eqb (length bs) 65) _ state-sound)

  -- the state that the bytes hold
  pub state-holds : Sound (network_in s) (run_of bs)
  unfolding sound_bytes run_of
  state-holds =
      sound-e (network_in s) (passing s sheet-passes).shape (run_of bs) (omega (arith, length-drop 1 bs, state-size)) (and_r (eqb (length bs) 65) _ state-sound)

-- and one that is not
pub away-low : (s bs : List ℕ) → in_order s bs ≡ false → refused_with s < 16777216
unfolding refused_with unsound pack
away-low s bs o = elim (which (sheet_passes s)) [ inl p ↦ rw p (omega arith) | inr p ↦ rw p (refused-low s p) ]
