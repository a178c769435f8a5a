-- Whether a state is sound: a test for each sentence of the rule. s is how the bookings stand, way the current way's set.
-- Assumes nothing.
use Rattle.std.specs.Prelude.{Bool, not, ◌&&◌, ◌||◌, ℕ, zero, suc, leb}
use Rattle.std.specs.Int.Bits.{bit_and, bit_or}
use Rattle.bounded.specs.Bounded.{imp, all}
use Rattle.sets.specs.Sets.{without, subset_of, disjoint_from, some}
use Rattle.desks.specs.Desks.{all_in_limit}
use Rattle.network.specs.declared.Network.{Network}
use Rattle.standing.specs.Standing.{free, returning, matters}
use Rattle.standing.specs.Ways.{preceding, lost_in, held_firm, live_at}
use Rattle.standing.specs.declared.Standing.{Standing}
use Rattle.run.specs.State.{code, is, standing, here}
use Rattle.run.specs.declared.Run.{Run}

-- codes are at most 4
unfoldable pub code_known : Run → ℕ → Bool
code_known r b = leb (code r b) returning

unfoldable pub codes_known : Run → Bool
codes_known r = all (code_known r) 64

-- the way is at most a
unfoldable pub way_known : Network → Run → Bool
way_known g r = leb r.way g.a

-- bytes past n are zero
unfoldable pub zero_past : Network → Run → ℕ → Bool
zero_past g r b = imp (leb g.n b) (is r free b)

unfoldable pub rest_zero : Network → Run → Bool
rest_zero g r = all (zero_past g r) 64

-- requested, held and returning bookings have all predecessors held
unfoldable pub all_founded : Network → Standing → Bool
all_founded g s = subset_of (preceding g (bit_or s.requested (bit_or s.held s.returning))) s.held

-- lost ones are exposed
unfoldable pub lost_exposed : Network → Standing → Bool
lost_exposed g s = subset_of s.lost g.exposed

-- requested ones are in the current way
unfoldable pub requested_inside : Standing → ℕ → Bool
requested_inside s way = subset_of s.requested way

-- returning ones are C or D, so not firm, and outside it
unfoldable pub returning_outside : Network → Standing → ℕ → Bool
returning_outside g s way = disjoint_from s.returning (bit_or g.firm way)

-- a held booking outside the current way, or a returning one, means none is requested
unfoldable pub quiet : Standing → ℕ → Bool
quiet s way = imp (some (without s.held way) || some s.returning) (not (some s.requested))

-- how many ways stand before way w: all for 0
unfoldable pub ways_before : Network → ℕ → ℕ
ways_before g zero = g.a
ways_before g (suc k) = k

-- every way before the current one (all ways, for 0) is not live
unfoldable pub passed_over : Network → Standing → ℕ → Bool
passed_over g s k = not (live_at g s k)

unfoldable pub earlier_dead : Network → Standing → ℕ → Bool
earlier_dead g s w = all (passed_over g s) (ways_before g w)

-- held firm bookings are in the current way (none for 0)
unfoldable pub firm_inside : Network → Standing → ℕ → Bool
firm_inside g s way = subset_of (held_firm g s) way

-- a lost booking in the current way has its predecessors held, and something is requested
unfoldable pub lost_pending : Network → Standing → ℕ → Bool
lost_pending g s way = subset_of (preceding g (bit_and s.lost way)) s.held && imp (lost_in s way) (some s.requested)

-- no desk has more matters open than the limit
unfoldable pub desks_kept : Network → Standing → Bool
desks_kept g s = all_in_limit g.limit g.desk (matters s)

unfoldable pub sound : Network → Run → Bool
sound g r =
    let s = standing g r in
    codes_known r && (way_known g r && (rest_zero g r && (all_founded g s && (lost_exposed g s && (requested_inside s (here g r)
    && (returning_outside g s (here g r) && (quiet s (here g r) && (earlier_dead g s r.way && (firm_inside g s (here g r)
    && (desks_kept g s && lost_pending g s (here g r)))))))))))
