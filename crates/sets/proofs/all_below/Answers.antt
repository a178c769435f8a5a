-- What is left of `sets::all_below`.
-- Assumes nothing.
use Rattle.sets.proofs.Whole.{below-is}
use Prim.Native.Nat.{ℕ, ◌-◌}
use mathlib.Core.Path.{◌≡◌, sym, ap, ◌∙◌}
use lib.Pow.{pow_pos}
use native.Mathlib.Omega.{arith}
use Rattle.sets.proofs.all_below.Goals as goal

pub overflow_sub-result : goal.overflow_sub-result
overflow_sub-result c = omega (arith, pow_pos c.args.n, c.bit.ensures)

pub returns-then-n-lt64 : goal.returns-then-n-lt64
returns-then-n-lt64 c = ap (λ (x : ℕ). x - 1) c.bit.ensures ∙ sym (below-is c.args.n)

pub returns-else-n-lt64 : goal.returns-else-n-lt64
returns-else-n-lt64 c = let e : c.args.n ≡ 64 = omega arith in rw e (sym (below-is 64))
