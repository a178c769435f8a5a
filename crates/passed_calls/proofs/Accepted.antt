-- On a sound state and with room for 16 lines the call is accepted, and leaves the listing.
-- Assumes nothing.
use mathlib.Core.Path.{◌≡◌, refl, sym}
use mathlib.Core.Bool.{true}
use mathlib.Core.List.{List}
use Prim.Native.Nat.{ℕ, ◌*◌, ◌≤◌}
use native.Mathlib.Omega.{arith}
use lib.ListN.{length}
use lib.Seq.{sets}
use Rattle.bounded.proofs.Bools.{◌&◌}
use Rattle.network.specs.declared.Network.{Network}
use Rattle.run.specs.Bytes.{bytes_of}
use Rattle.run.specs.declared.Run.{Run}
use Rattle.run.proofs.Facts.{Core, Sound}
use Rattle.guarantee.specs.Answers.{pack}
use Rattle.guarantee.proofs.Bytes.{same-run, fine as sound-bytes}
use Rattle.calls.specs.Calls.{network_in, sheet_passes, in_order}
use Rattle.calls.proofs.InOrder.{passing}
use Rattle.lent_text.proofs.Room.{room}
use Rattle.passed_ways.specs.Listing.{line_bytes, listing}
use Rattle.passed_ways.proofs.StoryLaws.{listing-length}
use Rattle.passed_calls.specs.Passed.{listing_in, passed_call, passed_leaves}
use Rattle.passed_calls.proofs.Exits.{few-before}

-- no listing has more than 16 lines
pub listing-small : (g : Network) (r : Run) → g.a ≤ 16 → Core g r → length (listing g r) ≤ line_bytes * 16
listing-small g r h c = omega (arith, listing-length g r, few-before g r.way h (omega (arith, c.way)))

module _ (s : List ℕ) (e : sheet_passes s ≡ true) (r : Run) (k : Sound (network_in s) r) where
  abbrev text : List ℕ
  text = listing (network_in s) r

  pub text-small : length text ≤ line_bytes * 16
  text-small = listing-small (network_in s) r (passing s e).shape.few k.core

  pub listed : (d : List ℕ) → line_bytes * 16 ≤ length d
      → (passed_call s (bytes_of r) (length d) ≡ pack 6 0 (length text)) × (passed_leaves s (bytes_of r) d ≡ sets d 0 text)
  unfolding passed_call passed_leaves listing_in in_order
  listed d l =
      let o : in_order s (bytes_of r) ≡ true = e & sound-bytes (network_in s) (passing s e) r k in
      let t = room text d _ refl (omega (arith, text-small)) _ refl _ refl in
      (rw (o, same-run r) (sym t.0), rw (o, same-run r) (sym t.1))
