-- What is left of `precedence::through`.
-- Assumes nothing.
use mathlib.Core.Path.{◌≡◌, refl}
use native.Mathlib.Omega.{arith}
use borrow.Author.Count.{below_none}
use lib.ListN.{get_or, length-set}
use Rattle.bounded.proofs.Lists.{table-put}
use Rattle.precedence.specs.Precedence.{four_of}
use Rattle.precedence.proofs.Four.{none_yet, empty-put, four-at, four_is}
use Rattle.precedence.proofs.through.Goals as goal

pub loop-v-init : goal.loop-v-init
loop-v-init c = (refl, below_none _, none_yet)

pub loop-v-preserved : goal.loop-v-preserved
loop-v-preserved c = let l = c.loop-v in (
  simp length-set l.invariant.0,
  table-put (λ i. get_or (four_of c.args.p c.args.k) i 0) l.r l.v _ (omega arith)
      (four-at c.args.p c.args.k l.v (omega arith) (omega arith)
      c.joined-b.ensures
      c.joined.ensures
      c.joined-c.ensures
      c.joined-2.ensures
      c.joined-3.ensures
      c.joined-d.ensures
      c.joined_four.ensures)
      l.invariant.1,
  empty-put _ _ _ l.invariant.2,
)

pub returns : goal.returns
returns c =
    let l = c.loop-v in
    let e : l.v ≡ c.args.n = omega arith in
    four_is c.args.n _ _ _ c.requires.2 l.invariant.0 (λ i h. l.invariant.1 i (omega arith)) (rw e at l.invariant.2)
