-- Demand 3, and semi-atomicity, of a list of calls qs whose answers are xs and after which next order answers x.
-- The booking at index b has number b + 1.
-- Assumes nothing.
use Rattle.std.specs.Prelude.{◌≡◌, true, false, ◌||◌, List, ℕ, suc, ◌+◌, ◌*◌, ◌≤◌, ◌<◌}
use Rattle.plan.specs.Limits.{most_desks}
use Rattle.network.specs.Network.{in_way, firm}
use Rattle.network.specs.declared.Network.{Network}
use Rattle.guarantee.specs.Answers.{kind_of, place_of}
use Rattle.guarantee.specs.Machine.{Asked}
use Rattle.guarantee.specs.Counted.{sends, ends, confirmed, returned, ordered, answered, event, again, tally, open_matters, way_sizes}

module _ (qs : List Asked) (xs : List ℕ) where
  -- no reply is outstanding: no booking is named by more requests and returns than accepted replies
  abbrev pub Settled : Type 0
  Settled = (b : ℕ) → tally (ordered (suc b)) qs xs ≤ tally (answered (suc b)) qs xs

  -- booking b is confirmed once more than it is returned
  abbrev pub Kept : ℕ → Type 0
  Kept b = tally (confirmed b) qs xs ≡ tally (returned b) qs xs + 1

  -- booking b is confirmed as often as it is returned
  abbrev pub Undone : ℕ → Type 0
  Undone b = tally (confirmed b) qs xs ≡ tally (returned b) qs xs

pub record Demand3 (g : Network) (qs : List Asked) (xs : List ℕ) (x : ℕ) : Type 0 where
  -- with no reply outstanding, next order gives an order to send or the end
  pub goes_on : Settled qs xs → sends x || ends x ≡ true
  -- flown names a listed way: each booking of it is confirmed once more than it is returned, and every other as often
  pub flown : kind_of x ≡ 4 → (1 ≤ place_of x) × (place_of x ≤ g.a)
      × ((b : ℕ) → in_way g (place_of x) b ≡ true → Kept qs xs (suc b))
      × ((b : ℕ) → in_way g (place_of x) b ≡ false → Undone qs xs (suc b))
  -- called off: each booking is confirmed as often as it is returned, and no firm one was ever confirmed
  pub called_off : kind_of x ≡ 5 → (b : ℕ) → Undone qs xs (suc b) × (firm g b ≡ true → tally (confirmed (suc b)) qs xs ≡ 0)
  -- requests, returns and accepted replies are at most 4s + 2q
  pub bound : tally event qs xs ≤ 4 * way_sizes g + 2 * tally (again g) qs xs
  -- no desk has more open matters than the limit
  pub desks : (d : ℕ) → d < most_desks → open_matters g qs xs d ≤ g.limit

-- Definition 2 of report 93-069: all subtransactions of one partial order commit and all other attempted ones are aborted or
-- have their effects undone, or no partial effects remain permanent. A way is a partial order and a booking a subtransaction.
-- One that is confirmed once more than returned is committed; one confirmed as often as returned was aborted (never confirmed)
-- or undone. Nothing that was attempted is left open.
pub data SemiAtomic (g : Network) (qs : List Asked) (xs : List ℕ) : Type 0 where
  one_way : Settled qs xs → (w : ℕ) → 1 ≤ w → w ≤ g.a → ((b : ℕ) → in_way g w b ≡ true → Kept qs xs (suc b))
      → ((b : ℕ) → in_way g w b ≡ false → Undone qs xs (suc b)) → SemiAtomic g qs xs
  no_effect : Settled qs xs → ((b : ℕ) → Undone qs xs (suc b)) → SemiAtomic g qs xs
