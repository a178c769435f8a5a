-- What the loop of `whole_campaign::play` keeps.
-- Assumes nothing.
use mathlib.Core.Path.{◌≡◌}
use Prim.Native.Nat.{◌*◌}
use lib.ListN.{length}
use lib.Seq.{sets}
use Rattle.whole_campaign.specs.Play.{list_from, record_of}
use Rattle.whole_campaign.proofs.Playing.{rest}
use Rattle.whole_campaign.proofs.play.Given as goal

abbrev pub invariant-loop-i : goal.invariant-loop-i
invariant-loop-i l = (length l.state ≡ 65) × (sets l.log (69 * l.i) (rest l.sheet l.calls l.blocks l.count l.i l.state) ≡ sets l.initial.log 0 (record_of l.sheet l.initial.state (list_from l.count 0 l.calls l.blocks)))
