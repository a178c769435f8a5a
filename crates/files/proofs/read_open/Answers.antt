-- What is left of `files::read_open`.
-- Assumes nothing.
use Rattle.std.proofs.Common.{ℕ, arith, length-drop}
use Rattle.files.proofs.ReadsLaws.{and-bytes}
use Rattle.files.proofs.read_open.Goals as goal

pub loop-done-preserved-in-Ok : goal.loop-done-preserved-in-Ok
loop-done-preserved-in-Ok g c = record {
  within = omega (arith, c.in-Ok.ensures.fits, length-drop {A = ℕ});
  so_far = and-bytes _ _ _ _ _ _ _ c.loop-done.invariant.so_far c.read_on.ensures.front c.in-Ok.ensures.brings.0;
}
