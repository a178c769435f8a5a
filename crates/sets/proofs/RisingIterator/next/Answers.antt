-- What is left of `next` of `sets::Rising`.
-- Assumes nothing.
use Rattle.std.proofs.Common.{rules, arith, ◌<◌, ◌^◌, ap}
use Rattle.sets.specs.Sets.{size_of}
use Rattle.sets.proofs.Walk.{lowest-lt, but-lowest-size}
use Rattle.sets.proofs.RisingIterator.next.Goals as goal

pub returns-clause-steps : goal.returns-clause-steps
returns-clause-steps c =
    let fits : c.args.self.now.rest < 2 ^ 64 = search rules in
    record {
      some = c.if-self-eq0.false;
      fits = fits;
      lowest = c.lowest-v.ensures;
      below = omega (arith, c.lowest-v.ensures, lowest-lt c.args.self.now.rest fits c.if-self-eq0.false);
      others = c.but_lowest-self.ensures;
    }

pub returns-clause-goes : goal.returns-clause-goes
returns-clause-goes c =
    let fits : c.args.self.now.rest < 2 ^ 64 = search rules in
    let less = but-lowest-size c.args.self.now.rest fits c.if-self-eq0.false in
    let e = ap size_of c.but_lowest-self.ensures in
    search (rules, less, e)
