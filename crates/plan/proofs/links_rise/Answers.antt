-- What is left of `plan::links_rise`.
-- Assumes nothing.
use native.Mathlib.Numerals.{add-one}
use lib.ListN.{get_or}
use mathlib.Core.List.{List, ◌∷◌}
use mathlib.Core.Path.{◌≡◌, ◌∙◌}
use Prim.Native.Nat.{ℕ}
use mathlib.Core.Bool.{Bool}
use Rattle.bounded.proofs.Loops.{all-over, all-call, all-far-call}
use Rattle.plan.specs.Record.{link_at}
use Rattle.plan.specs.Limits.{in_sequence}
use Rattle.plan.proofs.links_rise.Goals as goal

-- what the call gave is the test of this link
risen : {r : Bool} (n f t i : ℕ) (us vs : List ℕ) → r ≡ in_sequence n f t (get_or us i 0) (get_or vs i 0)
    → (f ≡ get_or (0 ∷ us) i 0) × (t ≡ get_or (0 ∷ vs) i 0) → r ≡ link_at n us vs i
unfolding link_at
risen n f t i us vs e h = e ∙ rw (h.0, h.1)

pub returns-then-not-in_sequence : goal.returns-then-not-in_sequence
returns-then-not-in_sequence c =
    let v = c.loop-i.invariant in
    all-call _ _ _ c.loop-i-test.true _ (risen _ _ _ _ _ _ c.in_sequence.ensures (v.0, v.1)) c.if-not-in_sequence.true

pub loop-i-preserved : goal.loop-i-preserved
loop-i-preserved c =
    let v = c.loop-i.invariant in
    (rw add-one, rw add-one, all-far-call _ _ v.2 _ (risen _ _ _ _ _ _ c.in_sequence.ensures (v.0, v.1)) c.if-not-in_sequence.false)

pub returns : goal.returns
returns c = search all-over
