-- What is left of `network::network_of`.
-- Assumes nothing.
use Rattle.plan.specs.Outline.{plan_of}
use Rattle.network.proofs.Links.{direct-empty, network-is}
use Rattle.network.proofs.network_of.Goals as goal

pub closure-before-requires : goal.closure-before-requires
closure-before-requires c = (c.requires.0, rw c.direct-linked.ensures (direct-empty c.args.links.now.from c.args.links.now.to _ _ c.requires.1))

pub returns : goal.returns
returns c =
    network-is (plan_of c.args.o.now c.args.links.now.from c.args.links.now.to) _ _ _ _ _ c.direct-linked.ensures c.closure-before.ensures
    c.kinds_of-firm.ensures.0 c.kinds_of-firm.ensures.1 c.desks_of.ensures
