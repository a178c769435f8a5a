-- What is left of `block_calls::block_bits`.
-- Assumes nothing.
use native.Mathlib.Omega.{arith}
use Rattle.lent_state.specs.Lines.{number_of}
use Rattle.block_calls.specs.Block.{bits_of}
use Rattle.block_calls.proofs.Few.{fault-known}
use Rattle.block_calls.proofs.block_bits.Goals as goal

pub pack-requires-in-Some : goal.pack-requires-in-Some
pack-requires-in-Some c = (omega arith, omega (arith, c.refusal.ensures, (fault-known c.in-Some.fault).1), omega (arith, c.requires))

pub returns-in-None : goal.returns-in-None
unfolding bits_of number_of
returns-in-None c = rw c.in-None.is c.pack.ensures

pub returns-in-Some : goal.returns-in-Some
unfolding bits_of number_of
returns-in-Some c = let k = fault-known c.in-Some.fault in rw (c.in-Some.is, k.0) (rw c.refusal.ensures at c.pack-in-Some.ensures)
