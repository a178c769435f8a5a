-- What is left of `verdict::used`.
-- Assumes nothing.
use Rattle.std.proofs.Common.{rules, ◌≡◌, ◌∙◌, ap, sym, take}
use Rattle.std.specs.List.{fold}
use lib.Bits.{bit_or}
use Rattle.sets.specs.Sets.{member}
use Rattle.sets.proofs.Members.{member-zero}
use Rattle.bounded.proofs.Bools.{or-go}
use Rattle.network.specs.Network.{in_way, way_of}
use Rattle.verdict.specs.Check.{used_by}
use Rattle.verdict.proofs.Listed.{any-within, union-has}
use Rattle.verdict.proofs.used.Goals as goal

pub returns : goal.returns
unfolding used_by in_way way_of
returns c b =
    let g = c.args.chart.now.network in
    let e : c.fold.result ≡ fold (λ t x. bit_or t x) 0 (take g.a g.way) = search rules in
    ap (λ t. member t b) e ∙ union-has (take g.a g.way) 0 b ∙ sym (or-go (member 0 b) _ (member-zero b)) ∙ any-within (λ x. member x b) g.way g.a (member-zero b)
