-- A call that is answered with kind 6 tells the story of the state.
-- Assumes nothing.
use mathlib.Core.Path.{◌≡◌, sym, subst}
use mathlib.Core.Logic.{inl, inr}
use mathlib.Core.Bool.{true}
use mathlib.Core.List.{List}
use Prim.Native.Nat.{ℕ, ◌<◌}
use native.Mathlib.Omega.{arith}
use lib.ListN.{length}
use Rattle.bounded.proofs.Bools.{which}
use Rattle.run.specs.Bytes.{run_of}
use Rattle.run.proofs.Facts.{Core}
use Rattle.guarantee.specs.Answers.{kind_of}
use Rattle.calls.specs.Calls.{network_in, in_order}
use Rattle.calls.proofs.InOrder.{passing, sheet-passes, state-holds, away-low}
use Rattle.lent_text.specs.Room.{room_bits}
use Rattle.lent_text.proofs.Room.{shown as text-shown}
use Rattle.passed_ways.specs.Story.{Story}
use Rattle.passed_ways.proofs.StoryLaws.{story}
use Rattle.passed_calls.specs.Passed.{listing_in, passed_call, passed_leaves}
use Rattle.passed_calls.specs.Shown.{answer, shown, Tells}
use Rattle.passed_calls.proofs.Accepted.{listing-small}

module _ (s bs d : List ℕ) (k : kind_of (answer s bs d) ≡ 6) where
  taken : in_order s bs ≡ true
  unfolding answer passed_call kind_of
  taken = elim (which (in_order s bs)) [
    | inl o ↦ o
    | inr o ↦ (let x = rw o at k in absurd (omega (arith, x, away-low s bs o)))
  ]

  core : Core (network_in s) (run_of bs)
  core = (state-holds s bs taken).core

  small : length (listing_in s bs) < 65536
  unfolding listing_in
  small = omega (arith, listing-small (network_in s) (run_of bs) (passing s (sheet-passes s bs taken)).shape.few core)

  shown-is : shown s bs d ≡ listing_in s bs
  unfolding shown answer passed_call passed_leaves
  shown-is = let k' : kind_of (room_bits (listing_in s bs) (length d)) ≡ 6 = rw taken at k in rw taken (text-shown (listing_in s bs) d k' small)

  pub tells : Tells s bs d
  unfolding listing_in
  tells =
      let h = (passing s (sheet-passes s bs taken)).shape in
      subst (Story (network_in s) (run_of bs)) (sym shown-is) (story (network_in s) h.bookings h.few (run_of bs) core)
