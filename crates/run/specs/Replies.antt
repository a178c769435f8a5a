-- The replies: Y or N fits a requested booking, G or K a returning one.
-- Assumes nothing.
use Rattle.std.specs.Prelude.{Bool, true, false, not, ◌&&◌, cond, ℕ, eqb, ltb, Option, Some, None}
use Rattle.sets.specs.Sets.{some}
use Rattle.network.specs.Network.{way_of, exposed}
use Rattle.network.specs.declared.Network.{Network}
use Rattle.standing.specs.Standing.{free, requested, held, lost, returning}
use Rattle.standing.specs.Ways.{lost_in, first_live}
use Rattle.standing.specs.declared.Standing.{Standing}
use Rattle.run.specs.State.{is, standing, here, put, turn}
use Rattle.run.specs.declared.Run.{Run}

-- whether a reply fits, and the state after it
pub record Replied : Type 0 where
  pub taken : Bool
  pub run : Run

-- what the code gives of it: the state after a reply that fits, and none where it does not
abbrev pub kept_of : Replied → Option Run
kept_of t = cond t.taken (Some t.run) None

-- the letters: confirmed, refused, returned, kept
abbrev pub Y : ℕ
Y = 89

abbrev pub N : ℕ
N = 78

abbrev pub G : ℕ
G = 71

abbrev pub K : ℕ
K = 75

-- nothing is requested and the current way has a lost booking
unfoldable pub to_switch : Standing → ℕ → Bool
to_switch s way = not (some s.requested) && lost_in s way

-- what follows a Y or an N: then the first live way becomes current, or 0 if there is none
unfoldable pub settle : Network → Run → Run
settle g r = cond (to_switch (standing g r) (here g r)) (turn r (first_live g (standing g r))) r

-- the current way then, by the sets alone; w was current
unfoldable pub way_after : Network → Standing → ℕ → ℕ
way_after g s w = cond (to_switch s (way_of g w)) (first_live g s) w

-- the code of a refused booking: lost if exposed, else free, so that it is requested again
unfoldable pub after_no : Network → ℕ → ℕ
after_no g b = cond (exposed g b) lost free

-- a reply that fits, and one that does not and changes nothing
abbrev pub fits : Run → Replied
fits r = record { taken = true; run = r }

abbrev pub misfits : Run → Replied
misfits r = record { taken = false; run = r }

unfoldable pub reply : Network → Run → ℕ → ℕ → Replied
reply g r l b =
    cond (ltb b g.n)
    (cond (is r requested b && eqb l Y) (fits (settle g (put r b held)))
    (cond (is r requested b && eqb l N) (fits (settle g (put r b (after_no g b))))
    (cond (is r returning b && eqb l G) (fits (put r b free))
    (cond (is r returning b && eqb l K) (fits (put r b held)) (misfits r)))))
    (misfits r)
