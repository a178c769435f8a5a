-- What is left of `run::to_return`.
-- Assumes nothing.
use mathlib.Core.Path.{◌≡◌}
use lib.Bits.{bit_or}
use Rattle.sets.specs.Sets.{without}
use Rattle.standing.specs.Ways.{preceding}
use Rattle.run.proofs.Found.{found-next}
use Rattle.run.proofs.Steps.{return-none, return-is}
use Rattle.run.proofs.to_return.Goals as goal

pub returns-then-outside-eq0 : goal.returns-then-outside-eq0
returns-then-outside-eq0 c = return-none _ _ _ _ c.minus-outside.ensures c.if-outside-eq0.true

pub returns : goal.returns
returns c =
    let s = c.args.s in
    let e : c.members_of.result.rest ≡ without (without s.held c.args.way) (bit_or (preceding c.args.g.now (bit_or s.held s.returning)) c.args.full) = cc in
    rw (return-is c.args.g.now s c.args.way c.args.full _ c.requires.1 e) at (found-next _ _ _ c.next.ensures.steps)
