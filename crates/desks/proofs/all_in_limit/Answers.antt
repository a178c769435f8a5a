-- What is left of `desks::all_in_limit`.
-- Assumes nothing.
use Rattle.std.proofs.Common.{rules, tests, ◌∙◌, leb}
use Rattle.std.specs.Int.Bits.{bit_and}
use Rattle.std.proofs.lemmas.Iterator.{YieldsList-from_slice}
use Rattle.std.proofs.lemmas.Iterator.Search.{all_from_yields_List}
use Rattle.sets.specs.Sets.{size_of}
use Rattle.desks.proofs.Laws.{few-kept, all-kept}
use Rattle.desks.proofs.all_in_limit.Goals as goal

pub returns-then-size-limit : goal.returns-then-size-limit
returns-then-size-limit c = few-kept _ _ _ (rw c.size.ensures at c.if-size-limit.true)

pub returns : goal.returns
returns c =
    all_from_yields_List (λ s. leb (size_of (bit_and s c.args.matters)) c.args.limit) _ _ _ c.all.ensures.ran (YieldsList-from_slice c.args.desks.now cc) (λ x b q k. search (rules, tests))
    ∙ all-kept c.args.limit c.args.desks.now c.args.matters c.told-desks
