-- The story of a whole campaign: after every list of calls a listing is there for the asking, and what its lines say happened.
-- Assumes nothing.
use mathlib.Core.Path.{◌≡◌, ap, ◌∙◌}
use mathlib.Core.Bool.{true}
use mathlib.Core.List.{List}
use Prim.Native.Nat.{ℕ, suc, ◌+◌}
use native.Mathlib.Omega.{arith}
use lib.ListN.{length}
use Rattle.network.specs.declared.Network.{Network}
use Rattle.network.specs.Network.{firm}
use Rattle.verdict.proofs.Facts.{Passes}
use Rattle.standing.specs.Standing.{free, held, lost}
use Rattle.run.specs.State.{code, start}
use Rattle.run.specs.Bytes.{bytes_of, run_of}
use Rattle.run.specs.declared.Run.{Run}
use Rattle.guarantee.specs.Answers.{pack, kind_of}
use Rattle.guarantee.specs.Machine.{Asked, machine_answers, final}
use Rattle.guarantee.specs.Counted.{confirmed, returned, tally}
use Rattle.guarantee.proofs.Bytes.{same-run}
use Rattle.guarantee.proofs.Start.{all-free, start-sound}
use Rattle.guarantee.proofs.Moved.{hold}
use Rattle.guarantee.proofs.Whole.{Travelled, travel}
use Rattle.calls.specs.Calls.{network_in, sheet_passes, start_leaves}
use Rattle.calls.proofs.InOrder.{passing}
use Rattle.passed_ways.specs.declared.Reason.{Reason}
use Rattle.passed_ways.specs.Story.{Because, by_loss, by_lack}
use Rattle.passed_calls.specs.Shown.{answer}
use Rattle.passed_calls.proofs.Accepted.{text-small, listed}
use Rattle.passed_calls.proofs.Shown.{tells}
use Rattle.whole_campaign.specs.Calls.{Call}
use Rattle.whole_campaign.specs.Lists.{left_on}
use Rattle.whole_campaign.specs.Singly.{singly_on}
use Rattle.whole_campaign.proofs.Whole.{told-machine, left-final, started}
use Rattle.told_campaign.specs.Told.{declined, counted, Happened, was_refused, was_confirmed, ToldCampaign}
use Rattle.told_campaign.proofs.Declined.{gone, declined-lost}

-- ---- what the plain machine counts

module _ (g : Network) (ok : Passes g) (qs : List Asked) where
  abbrev last : Run
  last = final g start qs

  abbrev xs : List ℕ
  xs = machine_answers g start qs

  trip : Travelled g start qs xs last
  trip = travel g ok start (start-sound g ok) qs

  pub refused-once : (b : ℕ) → code last b ≡ lost → tally (declined (suc b)) qs xs ≡ 1
  refused-once b l =
      let c : tally (declined (suc b)) qs xs + gone free ≡ gone lost =
      rw (all-free b, l) at (declined-lost g ok start (start-sound g ok) b (trip.sound.core.shown b l) qs) in
      omega arith

  pub confirmed-once : (b : ℕ) → code last b ≡ held → firm g b ≡ true → (tally (confirmed (suc b)) qs xs ≡ 1) × (tally (returned (suc b)) qs xs ≡ 0)
  confirmed-once b h f =
      let c : tally (confirmed (suc b)) qs xs + hold free ≡ tally (returned (suc b)) qs xs + hold held = rw (all-free b, h) at (trip.holds b) in
      let z = trip.firms b f in
      (omega arith, z)

-- ---- the calls

module _ (s : List ℕ) (e : sheet_passes s ≡ true) (cs : List Call) where
  abbrev g : Network
  g = network_in s

  abbrev begun : List ℕ
  begun = bytes_of start

  abbrev calls : List Asked
  calls = singly_on s begun cs

  counts : (f : Asked → ℕ → ℕ) → counted s begun cs f ≡ tally f calls (machine_answers g start calls)
  unfolding counted
  counts f = ap (tally f calls) (told-machine s e cs)

  run_is : run_of (left_on s begun cs) ≡ final g start calls
  run_is = ap run_of (left-final s e cs) ∙ same-run (final g start calls)

  by-reason : (w : ℕ) (y : Reason) → Because g (final g start calls) w y → Happened s begun cs y
  by-reason w y (by_loss h l) = was_refused (counts _ ∙ refused-once g (passing s e) calls _ h.1)
  by-reason w y (by_lack n h l) =
      let c = confirmed-once g (passing s e) calls _ h.0 h.1 in
      was_confirmed (counts _ ∙ c.0) (counts _ ∙ c.1)

  from_start : (d : List ℕ) → ToldCampaign s begun cs d
  unfolding answer kind_of pack
  from_start d =
      let k = (travel g (passing s e) start (start-sound g (passing s e)) calls).sound in
      record {
        accepted = λ l. rw (left-final s e cs, (listed s e (final g start calls) k d l).0) (omega (arith, text-small s e (final g start calls) k));
        tells = tells s (left_on s begun cs) d;
        happened = λ w y h. by-reason w y (rw run_is at h);
      }

  -- so it is from the state that start leaves, whatever the 65 bytes were before
  pub told-campaign : (bs : List ℕ) → length bs ≡ 65 → (d : List ℕ) → ToldCampaign s (start_leaves s bs) cs d
  told-campaign bs h d = rw (started s e bs h) (from_start d)
