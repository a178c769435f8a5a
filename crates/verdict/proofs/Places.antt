-- The place of refusals 4 to 8 is below 65536: it is at most way 16 and booking 64.
-- Assumes nothing.
use mathlib.Core.Path.{◌≡◌}
use mathlib.Core.Bool.{true}
use Prim.Native.Nat.{ℕ, suc, ◌≤◌, ◌<◌}
use native.Mathlib.Omega.{arith}
use borrow.Author.Tests.{ltb-true}
use lib.Dec.{ltb}
use Rattle.bounded.specs.Bounded.{first}
use Rattle.bounded.proofs.Bools.{by_cond}
use Rattle.bounded.proofs.First.{first-least}
use Rattle.network.specs.declared.Network.{Network}
use Rattle.std.specs.Prelude.{Ok, Err}
use Rattle.verdict.specs.declared.Fault.TheVariants.{Circular, Unclosed, Unused, Repeated, Stranding}
use Rattle.verdict.specs.Check.{Verdict, circular, unclosed, unused, repeated, stranding, strands, check, verdict_place}

record Small-verdict (v : Verdict) : Type 0 where
  small : verdict_place v < 65536

verdict-fits : (g : Network) → g.n ≤ 64 → g.a ≤ 16 → Small-verdict (check g)
unfolding check verdict_place
verdict-fits g hn ha =
    by_cond Small-verdict (circle (first (circular g) g.n))
    (λ _. by_cond Small-verdict (gap (first (unclosed g) g.a))
    (λ _. by_cond Small-verdict (idle (first (unused g) g.n))
    (λ _. by_cond Small-verdict (double (first (repeated g) g.a))
    (λ _. by_cond Small-verdict (point (first (strands g) g.a)) (λ _. none)))))
  where
    circle : (b : ℕ) → ltb b g.n ≡ true → Small-verdict (Err (Circular b))
    circle b e = record { small = omega (arith, ltb-true b g.n e) }

    gap : (k : ℕ) → ltb k g.a ≡ true → Small-verdict (Err (Unclosed (suc k)))
    gap k e = record { small = omega (arith, ltb-true k g.a e) }

    idle : (b : ℕ) → ltb b g.n ≡ true → Small-verdict (Err (Unused b))
    idle b e = record { small = omega (arith, ltb-true b g.n e) }

    double : (k : ℕ) → ltb k g.a ≡ true → Small-verdict (Err (Repeated (suc k)))
    double k e = record { small = omega (arith, ltb-true k g.a e) }

    point : (k : ℕ) → ltb k g.a ≡ true → Small-verdict (Err (Stranding (suc k) (first (stranding g (suc k)) g.n)))
    point k e = record { small = omega (arith, ltb-true k g.a e, (first-least (stranding g (suc k)) g.n).high) }

    none : Small-verdict (Ok tt)
    none = record { small = omega arith }

pub verdict-small : (g : Network) → g.n ≤ 64 → g.a ≤ 16 → verdict_place (check g) < 65536
verdict-small g hn ha = (verdict-fits g hn ha).small
