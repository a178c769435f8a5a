-- What is left of `verdict::check`.
-- Assumes nothing.
use mathlib.Core.Path.{◌≡◌, ap, ◌∙◌}
use Prim.Native.Nat.{ℕ, suc, ◌≤◌, ◌<◌}
use native.Mathlib.Numerals.{add-one}
use native.Mathlib.Omega.{arith}
use borrow.Author.Tests.{ltb-true}
use mathlib.Core.Bool.{Bool}
use Rattle.std.specs.Prelude.{Some, None, Err}
use Rattle.bounded.specs.Bounded.{sought}
use Rattle.network.specs.declared.Network.{Network}
use Rattle.verdict.specs.declared.Fault.TheVariants.{Circular, Unclosed, Unused, Repeated}
use Rattle.verdict.specs.Check.{circular, unclosed, unused, repeated, first_stranding, check}
use Rattle.bounded.proofs.Sought.{found}
use Rattle.verdict.proofs.Exits.{from-5, from-6, from-7, halted, passed}
use Rattle.verdict.proofs.check.Goals as goal

past-4 : (g : Network) → None ≡ sought (circular g) g.n → from-5 g ≡ check g
unfolding check
past-4 g e = passed (circular g) g.n (λ b. Err (Circular b)) (from-5 g) e

past-5 : (g : Network) → None ≡ sought (unclosed g) g.a → from-5 g ≡ check g → from-6 g ≡ check g
past-5 g e p = passed (unclosed g) g.a (λ k. Err (Unclosed (suc k))) (from-6 g) e ∙ p

past-6 : (g : Network) → None ≡ sought (unused g) g.n → from-6 g ≡ check g → from-7 g ≡ check g
past-6 g e p = passed (unused g) g.n (λ b. Err (Unused b)) (from-7 g) e ∙ p

-- way k + 1 is one of those that are searched
low : (f : ℕ → Bool) (n k : ℕ) → Some k ≡ sought f n → k < n
low f n k e = let t = found f n k e in rw t.1 (ltb-true _ _ t.0)

pub returns-in-Some : goal.returns-in-Some
unfolding check
returns-in-Some c = let g = c.args.chart.now.network in halted (circular g) g.n (λ b. Err (Circular b)) (from-5 g) _ c.in-Some.ensures

pub overflow_add-result : goal.overflow_add-result
overflow_add-result c =
    let g = c.args.chart.now.network in
    let h = low (unclosed g) g.a _ c.in-Some-first_unclosed.ensures in
    let a : g.a ≤ 16 = c.args.chart.now.few_ways in
    record { fits = omega arith }

pub returns-in-Some-first_unclosed : goal.returns-in-Some-first_unclosed
returns-in-Some-first_unclosed c =
    let g = c.args.chart.now.network in
    ap (λ k. Err (Unclosed k)) (add-one _) ∙ halted (unclosed g) g.a (λ k. Err (Unclosed (suc k))) (from-6 g) _ c.in-Some-first_unclosed.ensures ∙ past-4 g c.in_default.ensures

pub returns-in-Some-lowest_unused : goal.returns-in-Some-lowest_unused
returns-in-Some-lowest_unused c =
    let g = c.args.chart.now.network in
    halted (unused g) g.n (λ b. Err (Unused b)) (from-7 g) _ c.in-Some-lowest_unused.ensures ∙ past-5 g c.in_default-first_unclosed.ensures (past-4 g c.in_default.ensures)

pub overflow_add-result-in-Some-first_repeated : goal.overflow_add-result-in-Some-first_repeated
overflow_add-result-in-Some-first_repeated c =
    let g = c.args.chart.now.network in
    let h = low (repeated g) g.a _ c.in-Some-first_repeated.ensures in
    let a : g.a ≤ 16 = c.args.chart.now.few_ways in
    record { fits = omega arith }

pub returns-in-Some-first_repeated : goal.returns-in-Some-first_repeated
returns-in-Some-first_repeated c =
    let g = c.args.chart.now.network in
    ap (λ k. Err (Repeated k)) (add-one _)
    ∙ halted (repeated g) g.a (λ k. Err (Repeated (suc k))) (first_stranding g) _ c.in-Some-first_repeated.ensures
    ∙ past-6 g c.in_default-lowest_unused.ensures (past-5 g c.in_default-first_unclosed.ensures (past-4 g c.in_default.ensures))

pub returns : goal.returns
returns c =
    let g = c.args.chart.now.network in
    c.first_stranding.ensures
    ∙ passed (repeated g) g.a (λ k. Err (Repeated (suc k))) (first_stranding g) c.in_default-first_repeated.ensures
    ∙ past-6 g c.in_default-lowest_unused.ensures (past-5 g c.in_default-first_unclosed.ensures (past-4 g c.in_default.ensures))
