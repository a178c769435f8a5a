-- What is left of `precedence::closure`.
-- Assumes nothing.
use mathlib.Core.Path.{◌≡◌, refl, ap, ◌∙◌}
use mir.Syntax.{w64}
use lib.ListN.{length}
use Rattle.bounded.proofs.Arrays.{array-length}
use Prim.Native.Nat.{◌+◌}
use native.Mathlib.Omega.{arith}
use Rattle.precedence.specs.Precedence.{four_of, closure_to, closure_of}
use Rattle.precedence.proofs.Four.{four-length, four-none, closure-four, closure-empty, closure-past}
use Rattle.precedence.proofs.closure.Goals.{then-p-k-ne0, else-p-k-ne0}
use Rattle.precedence.proofs.closure.Goals as goal

pub loop-k-init : goal.loop-k-init
unfolding closure_to
loop-k-init c = (omega arith, refl, array-length w64 64 c.args.d _ c.well_formed.0, refl)

pub through-p-requires : goal.through-p-requires
through-p-requires c = (omega arith, omega arith, rw c.loop-k.invariant.3 (closure-empty c.args.n c.args.d c.loop-k.k c.requires.1))

pub loop-k-preserved : goal.loop-k-preserved
loop-k-preserved c =
    let l = c.loop-k in
    let did : c.if-p-k-ne0.p ≡ four_of l.p l.k = elim c.if-p-k-ne0.branch [
      | then-p-k-ne0 w ↦ w.p-is ∙ w.through-p.ensures
      | else-p-k-ne0 w ↦ w.p-is ∙ four-none _ _ l.invariant.2 w.if-p-k-ne0.false
    ] in
    (omega arith, omega arith, ap length did ∙ four-length _ _, did ∙ closure-four _ _ l.k (l.k + 4) refl l.invariant.3)

pub returns : goal.returns
unfolding closure_of
returns c = c.loop-k.invariant.3 ∙ closure-past c.args.n c.args.d c.loop-k.k 64 (array-length w64 64 c.args.d _ c.well_formed.0) c.requires.1 (omega arith) (omega arith)

-- the last step, after which k + 4 is n or more
pub returns-after-p-k-ne0 : goal.returns-after-p-k-ne0
unfolding closure_of
returns-after-p-k-ne0 c =
    let l = c.loop-k in
    let did : c.if-p-k-ne0.p ≡ four_of l.p l.k = elim c.if-p-k-ne0.branch [
      | then-p-k-ne0 w ↦ w.p-is ∙ w.through-p.ensures
      | else-p-k-ne0 w ↦ w.p-is ∙ four-none _ _ l.invariant.2 w.if-p-k-ne0.false
    ] in
    did ∙ closure-four _ _ l.k (l.k + 4) refl l.invariant.3
    ∙ closure-past c.args.n c.args.d (l.k + 4) 64 (array-length w64 64 c.args.d _ c.well_formed.0) c.requires.1 (omega arith) (omega arith)
