-- What is left of `sets::bit`.
-- Assumes nothing.
use mathlib.Core.Path.{◌∙◌}
use native.Mathlib.Nat.{one-mul}
use native.Mathlib.Omega.{arith}
use lib.Pow.{shl_exact}
use Rattle.sets.proofs.bit.Goals as goal

pub returns : goal.returns
returns c = shl_exact 1 c.args.i 64 (omega arith) (omega (arith, c.requires)) ∙ one-mul _
