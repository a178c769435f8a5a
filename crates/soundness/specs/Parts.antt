-- The part of the rule that speaks of how the bookings stand, in the three parts in which it is tested. s is how they stand, w the current way
-- and `way` its set.
-- Assumes nothing.
use Rattle.std.specs.Prelude.{Bool, ◌&&◌, ℕ}
use Rattle.network.specs.Network.{way_of}
use Rattle.network.specs.declared.Network.{Network}
use Rattle.standing.specs.declared.Standing.{Standing}
use Rattle.run.specs.Sound.{all_founded, lost_exposed, requested_inside, returning_outside, quiet, earlier_dead, firm_inside, desks_kept, lost_pending}

unfoldable pub grounds_hold : Network → Standing → ℕ → Bool
grounds_hold g s way = all_founded g s && (lost_exposed g s && requested_inside s way)

unfoldable pub change_holds : Network → Standing → ℕ → ℕ → Bool
change_holds g s w way = returning_outside g s way && (quiet s way && earlier_dead g s w)

unfoldable pub rest_holds : Network → Standing → ℕ → Bool
rest_holds g s way = firm_inside g s way && (desks_kept g s && lost_pending g s way)

unfoldable pub stands_soundly : Network → Standing → ℕ → Bool
stands_soundly g s w = let way = way_of g w in grounds_hold g s way && (change_holds g s w way && rest_holds g s way)
