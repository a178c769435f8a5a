-- The ways passed over: the listing of a sheet and a state. The sheet's refusals come first, then 11, then 10.
-- Assumes nothing.
use Rattle.std.specs.Prelude.{ℕ, cond, List}
use Rattle.run.specs.Bytes.{run_of}
use Rattle.calls.specs.Calls.{network_in, in_order, refused_with}
use Rattle.lent_text.specs.Room.{room_bits, room_leaves}
use Rattle.passed_ways.specs.Listing.{listing}

-- the listing of a state by the plan on its sheet
unfoldable pub listing_in : List ℕ → List ℕ → List ℕ
listing_in s bs = listing (network_in s) (run_of bs)

unfoldable pub passed_call : List ℕ → List ℕ → ℕ → ℕ
passed_call s bs size = cond (in_order s bs) (room_bits (listing_in s bs) size) (refused_with s)

-- the listing stands at the front; later bytes, and all bytes where the call is refused, keep their values
unfoldable pub passed_leaves : List ℕ → List ℕ → List ℕ → List ℕ
passed_leaves s bs d = cond (in_order s bs) (room_leaves (listing_in s bs) d) d
