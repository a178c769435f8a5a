-- A reply by the code of its booking alone.
-- Assumes nothing.
use Rattle.std.specs.Prelude.{Bool, ◌&&◌, cond, ℕ, eqb, Option, Some, None}
use Rattle.standing.specs.Standing.{free, requested, held, lost, returning}
use Rattle.run.specs.Replies.{Y, N, G, K}

-- the code that a reply gives a booking of code c, none where it does not fit; a refusal is for good where the booking is exposed
unfoldable pub code_after : ℕ → ℕ → Bool → Option ℕ
code_after c l exposed =
    cond (eqb c requested && eqb l Y) (Some held)
    (cond (eqb c requested && eqb l N) (Some (cond exposed lost free))
    (cond (eqb c returning && eqb l G) (Some free)
    (cond (eqb c returning && eqb l K) (Some held) None)))
