-- What is guaranteed of a network that passes and of every list of calls from the start.
-- Assumes nothing.
use Rattle.std.specs.Prelude.{◌≡◌, true, List, map}
use Rattle.network.specs.declared.Network.{Network}
use Rattle.run.specs.State.{start}
use Rattle.run.specs.Bytes.{bytes_of}
use Rattle.guarantee.specs.Machine.{Asked, machine_answers, machine_states}
use Rattle.guarantee.specs.Calls.{states, answers_to, order_after}
use Rattle.guarantee.specs.Counted.{ends}
use Rattle.guarantee.specs.Demand.{Demand3, SemiAtomic}

pub record Guarantee (g : Network) (qs : List Asked) : Type 0 where
  -- each call's 32 bits, and the 65 bytes after it, are the plain machine's
  pub bits : answers_to g qs ≡ machine_answers g start qs
  pub bytes : states g (bytes_of start) qs ≡ map bytes_of (machine_states g start qs)
  -- demand 3, in what is counted from the calls and their 32 bits
  pub demand_3 : Demand3 g qs (answers_to g qs) (order_after g qs)
  -- a list that ends is semi-atomic
  pub semi_atomic : ends (order_after g qs) ≡ true → SemiAtomic g qs (answers_to g qs)
