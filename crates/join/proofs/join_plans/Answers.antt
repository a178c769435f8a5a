-- What is left of `join::join_plans`.
-- Assumes nothing.
use borrow.Author.Rules.{rules}
use Rattle.plan.specs.Outline.{plan_of}
use Rattle.join.proofs.Joining.{ways-paired, joined_is}
use Rattle.join.proofs.join_plans.Goals as goal

pub pair_ways-requires : goal.pair_ways-requires
pair_ways-requires c = let a = c.args in ways-paired (plan_of a.p.now a.pl.now.from a.pl.now.to) (plan_of a.q.now a.ql.now.from a.ql.now.to) c.requires

pub returns : goal.returns
returns c =
    let a = c.args in
    joined_is (plan_of a.p.now a.pl.now.from a.pl.now.to) (plan_of a.q.now a.ql.now.from a.ql.now.to) _ _ _ _ _ _ (search rules) c.joined_row.ensures
    c.joined_row-2.ensures c.joined_row-3.ensures c.joined_row-4.ensures c.pair_ways.ensures
