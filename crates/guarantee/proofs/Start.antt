-- The start is sound.
-- Assumes nothing.
use mathlib.Core.Path.{◌≡◌, refl}
use mathlib.Core.Logic.{inl, inr}
use Prim.Native.Nat.{ℕ}
use native.Mathlib.Omega.{arith}
use lib.ListN.{get_or-replicate, replicate, get_or-eq_default}
use Rattle.bounded.proofs.Bools.{split?}
use Rattle.desks.proofs.Laws.{open_none}
use Rattle.network.specs.declared.Network.{Network}
use Rattle.verdict.proofs.Facts.{Passes}
use Rattle.standing.specs.Standing.{free, matters}
use Rattle.run.specs.State.{code, standing, start}
use Rattle.run.specs.Sound.{ways_before}
use Rattle.run.proofs.Facts.{Sound, no-matter}

pub all-free : (b : ℕ) → code start b ≡ free
unfolding code start
all-free b = elim (split? b 64) [ inl h ↦ get_or-replicate 64 b 0 0 h | inr h ↦ get_or-eq_default (replicate 64 0) 0 h ]

pub start-sound : (g : Network) → Passes g → Sound g start
unfolding start ways_before
start-sound g ok =
    record {
      core = record {
        size = refl;
        codes = λ b. omega (arith, all-free b);
        way = ok.shape.ways;
        past = λ b h. all-free b;
        preds = λ u v n i e. absurd (n (all-free v));
        shown = λ b e. absurd (omega (arith, all-free b));
        asked = λ b e. absurd (omega (arith, all-free b));
        going = λ b e. absurd (omega (arith, all-free b));
        quiet-outside = λ b q e o m. omega (arith, all-free b);
        quiet-returning = λ b q e m. omega (arith, all-free b);
        earlier = λ k h. absurd (omega arith);
        firm-in = λ b e z. absurd (omega (arith, all-free b));
        desks = λ d h. omega (arith, open_none g.desk d (matters (standing g start)) (λ b. no-matter g start b (omega (arith, all-free b)) (omega (arith, all-free b))));
      };
      waits = λ b e i. absurd (omega (arith, all-free b));
    }
