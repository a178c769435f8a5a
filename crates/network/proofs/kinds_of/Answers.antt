-- What is left of `network::kinds_of`.
-- Assumes nothing.
use mathlib.Core.Path.{◌≡◌, sym}
use mathlib.Core.Bool.{Bool, cond}
use mathlib.Core.List.{List}
use Prim.Native.Nat.{ℕ, ◌+◌, ◌<◌}
use native.Mathlib.Omega.{arith}
use lib.Bits.{bit_or}
use lib.ListN.{get_or, take}
use Rattle.std.proofs.lemmas.List.{get_or-take}
use Rattle.sets.specs.Sets.{alone, gather}
use Rattle.sets.proofs.Gather.{gather-zero}
use Rattle.sets.proofs.Operations.{gather-next}
use Rattle.network.specs.FromPlan.{is_firm, is_exposed, of_kind}
use Rattle.network.proofs.kinds_of.Goals as goal

pub loop-b-init : goal.loop-b-init
loop-b-init c = (sym (gather-zero _), sym (gather-zero _))

next : (f : ℕ → Bool) (ks : List ℕ) (n i b s t : ℕ) → i < n → b ≡ alone i → s ≡ gather (of_kind f ks) i → t ≡ cond (f (get_or (take n ks) i 0)) (bit_or s b) s
    → t ≡ gather (of_kind f ks) (i + 1)
unfolding of_kind
next f ks n i b s t h eb es et = gather-next (of_kind f ks) i b s t eb es (rw (get_or-take n ks i 0 h) at et)

pub loop-b-preserved : goal.loop-b-preserved
loop-b-preserved c = (
  next is_firm _ _ _ _ _ _ (omega arith) c.bit.ensures c.loop-b.invariant.0 c.with-kinds.ensures.firm,
  next is_exposed _ _ _ _ _ _ (omega arith) c.bit.ensures c.loop-b.invariant.1 c.with-kinds.ensures.exposed,
)
