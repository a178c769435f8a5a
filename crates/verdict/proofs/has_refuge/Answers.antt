-- What is left of `verdict::has_refuge`.
-- Assumes nothing.
use Rattle.std.proofs.Common.{rules, arith, tests, ◌∙◌, sym}
use mathlib.Core.Bool.{◌&&◌}
use Prim.Native.Nat.{suc, ◌+◌}
use lib.Bits.{bit_and}
use Rattle.std.specs.Prelude.{slice_range}
use Rattle.std.proofs.lemmas.Iterator.{YieldsList-from_slice}
use Rattle.std.proofs.lemmas.Iterator.Search.{any_from_yields_List}
use Rattle.sets.specs.Sets.{subset_of}
use Rattle.verdict.specs.Parts.{shelters}
use Rattle.verdict.proofs.Parts.{not-later, later}
use Rattle.verdict.proofs.Listed.{any-rest}
use Rattle.verdict.proofs.has_refuge.Goals as goal

pub returns : goal.returns
returns c =
    let a = c.args in
    let g = a.chart.now.network in
    any_from_yields_List (λ y. subset_of a.s y && subset_of (bit_and g.exposed y) a.settled) _ _ _ c.any.ensures.ran (YieldsList-from_slice (slice_range g.way (a.k + 1) g.a) (cc)) (λ x b q k. search (rules, tests))
    ∙ any-rest _ (shelters a.s a.settled g.exposed g.way (suc a.k)) g.way (a.k + 1) (λ j h. not-later _ _ _ _ _ j (omega arith)) (λ j h. sym (later _ _ _ _ _ j (omega arith))) _ g.a (omega arith) (search rules)
