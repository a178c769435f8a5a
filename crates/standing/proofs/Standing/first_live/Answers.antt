-- What is left of `standing::Standing::first_live`.
-- Assumes nothing.
use Rattle.std.proofs.Common.{rules, tests, arith, take, ◌≡◌, true, false}
use Rattle.std.proofs.lemmas.Iterator.{IsFirst-from_position, YieldsList-from_slice}
use Rattle.standing.specs.Ways.{live}
use Rattle.standing.proofs.Loops.{live-found, live-none}
use Rattle.standing.proofs.Standing.first_live.Goals as goal

pub returns-in-Some : goal.returns-in-Some
returns-in-Some c =
    live-found c.args.g.now c.args.self (omega arith) c.in-Some.k (rw c.in-Some.is at
    (IsFirst-from_position _ _ c.position.result (λ x. live c.args.g.now c.args.self x ≡ true) (λ x. live c.args.g.now c.args.self x ≡ false) c.position.ensures.ran
    (YieldsList-from_slice (take c.args.g.now.a c.args.g.now.way) cc) (λ x q k. search (rules, tests)) (λ x q k. search (rules, tests))))

pub returns-in-None : goal.returns-in-None
returns-in-None c =
    live-none c.args.g.now c.args.self (omega arith) (rw c.in-None.is at
    (IsFirst-from_position _ _ c.position.result (λ x. live c.args.g.now c.args.self x ≡ true) (λ x. live c.args.g.now c.args.self x ≡ false) c.position.ensures.ran
    (YieldsList-from_slice (take c.args.g.now.a c.args.g.now.way) cc) (λ x q k. search (rules, tests)) (λ x q k. search (rules, tests))))
