-- What the call answers, and what it leaves, at each of its exits.
-- Assumes nothing.
use mathlib.Core.Path.{◌≡◌, refl, ◌∙◌}
use mathlib.Core.List.{List}
use Prim.Native.Nat.{ℕ, zero, suc, ◌*◌, ◌≤◌, ◌<◌}
use native.Mathlib.Omega.{arith}
use lib.ListN.{length, take}
use lib.Seq.{sets}
use Rattle.std.specs.Prelude.{Result, Ok, Err}
use Rattle.decimal.specs.Rows.{in_row}
use Rattle.network.specs.declared.Network.{Network}
use Rattle.standing.specs.Ways.{held_firm}
use Rattle.run.specs.Sound.{ways_before}
use Rattle.run.specs.Bytes.{run_of}
use Rattle.guarantee.specs.Answers.{pack}
use Rattle.calls.specs.Calls.{network_in, in_order, refused_with}
use Rattle.calls.specs.Refusals.{refusal_bits, refusal_place, Answers, Refused, TakenUp}
use Rattle.calls.specs.declared.Campaign.{Campaign}
use Rattle.calls.specs.declared.Refusal.{Refusal}
use Rattle.calls.specs.declared.Refusal.TheVariants.{Room}
use Rattle.lent_text.proofs.Room.{no_room, room}
use Rattle.passed_ways.specs.Listing.{line_bytes, row_of, listing_of, listing}
use Rattle.passed_ways.proofs.LineLaws.{rows-front}
use Rattle.passed_ways.proofs.StoryLaws.{listing-length}
use Rattle.passed_calls.specs.Passed.{listing_in, passed_call, passed_leaves}

-- at most so many ways stand before the current one
pub few-before : (g : Network) (w : ℕ) → g.a ≤ 16 → w ≤ 16 → ways_before g w ≤ 16
unfolding ways_before
few-before g zero h k = h
few-before g (suc w) h k = omega arith

module _ (s bs : List ℕ) where
  -- what is answered, and what is left of d
  pub record Ends (d : List ℕ) (t : Result ℕ Refusal) (after : List ℕ) : Type 0 where
    pub answer : Answers (passed_call s bs (length d)) t
    pub left : after ≡ passed_leaves s bs d

  pub refused : (r : Refusal) → Refused (in_order s bs) (refused_with s) r → (d : List ℕ) → Ends d (Err r) d
  unfolding passed_call passed_leaves
  refused r h d = record { answer = record { bits = rw h.fails h.bits; fits = h.fits }; left = rw h.fails }

  -- k lines are to be written
  module _ (c : Campaign) (t : TakenUp s bs c) (k : ℕ) (ek : k ≡ ways_before c.chart.network c.run.way) where
    pub few : c.chart.network.a ≤ 16 → k ≤ 16
    few h = omega (arith, ek, few-before c.chart.network c.run.way h t.way)

    text-length : length (listing_in s bs) ≡ line_bytes * k
    unfolding listing_in
    text-length = listing-length (network_in s) (run_of bs) ∙ rw (ek, t.network, t.run)

    pub short : (d : List ℕ) → length d < line_bytes * k → Ends d (Err Room) d
    unfolding passed_call passed_leaves refusal_bits refusal_place
    short d l =
        let n = no_room (listing_in s bs) d (line_bytes * k) text-length l _ refl in
        record { answer = record { bits = rw t.order n.0; fits = omega arith }; left = rw t.order n.1 }

    pub written : k ≤ length c.chart.network.way → (d : List ℕ) → line_bytes * k ≤ length d → (x : ℕ) → x ≡ pack 6 0 (line_bytes * k) → (after : List ℕ)
        → after ≡ sets d 0 (in_row (row_of c.standing.lost (held_firm c.chart.network c.standing) (take k c.chart.network.way)) (length (take k c.chart.network.way)))
        → Ends d (Ok x) after
    unfolding passed_call passed_leaves listing_in listing listing_of
    written h d l x q after w =
        let front = rows-front c.standing.lost (held_firm c.chart.network c.standing) c.chart.network.way k h in
        let n = room (listing_in s bs) d (line_bytes * k) text-length l x q after (w ∙ rw (front, ek, t.standing, t.network, t.run)) in
        record { answer = record { bits = rw t.order n.0; fits = tt }; left = rw t.order n.1 }
