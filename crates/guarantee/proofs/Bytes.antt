-- The calls on bytes answer as the plain machine does, and leave its states, for every list of calls from a sound state.
-- Assumes nothing.
use mathlib.Core.Path.{◌≡◌, refl, ap, ap₂, ◌∙◌}
use mathlib.Core.Bool.{true}
use mathlib.Core.List.{List, [], ◌∷◌, map}
use Prim.Native.Nat.{ℕ, suc}
use borrow.Author.Tests.{eq-eqb}
use Rattle.bounded.proofs.Bools.{◌&◌}
use Rattle.network.specs.declared.Network.{Network}
use Rattle.verdict.proofs.Facts.{Passes}
use Rattle.run.specs.Bytes.{bytes_of, run_of, sound_bytes}
use Rattle.run.specs.declared.Run.{Run}
use Rattle.run.proofs.Facts.{Sound}
use Rattle.run.proofs.SoundTest.{sound-i}
use Rattle.guarantee.specs.Machine.{Asked, answer, after, machine_answers, machine_states, final}
use Rattle.guarantee.specs.Calls.{call_bits, call_bytes, answers, states, left}
use Rattle.guarantee.proofs.Moved.{moved}

pub same-run : (r : Run) → run_of (bytes_of r) ≡ r
unfolding run_of bytes_of
same-run r = refl

module _ (g : Network) (ok : Passes g) where
  pub fine : (r : Run) → Sound g r → sound_bytes g (bytes_of r) ≡ true
  unfolding sound_bytes bytes_of run_of
  fine r s = eq-eqb _ _ (ap suc s.core.size) & sound-i g ok.shape r s

  then : (r : Run) → Sound g r → (q : Asked) → Sound g (after g r q)
  then r s q = (moved g ok r s q).sound

  pub call-bits : (r : Run) → Sound g r → (q : Asked) → call_bits g (bytes_of r) q ≡ answer g r q
  unfolding call_bits
  call-bits r s q = rw (fine r s, same-run r)

  pub call-bytes : (r : Run) → Sound g r → (q : Asked) → call_bytes g (bytes_of r) q ≡ bytes_of (after g r q)
  unfolding call_bytes
  call-bytes r s q = rw (fine r s, same-run r)

  pub calls-answers : (r : Run) → Sound g r → (qs : List Asked) → answers g (bytes_of r) qs ≡ machine_answers g r qs
  unfolding answers machine_answers
  calls-answers r s [] = refl
  calls-answers r s (q ∷ qs) =
      ap₂ ◌∷◌ (call-bits r s q) (ap (λ (bs : List ℕ). answers g bs qs) (call-bytes r s q) ∙ calls-answers (after g r q) (then r s q) qs)

  pub calls-states : (r : Run) → Sound g r → (qs : List Asked) → states g (bytes_of r) qs ≡ map bytes_of (machine_states g r qs)
  unfolding states machine_states
  calls-states r s [] = refl
  calls-states r s (q ∷ qs) =
      ap₂ ◌∷◌ (call-bytes r s q) (ap (λ (bs : List ℕ). states g bs qs) (call-bytes r s q) ∙ calls-states (after g r q) (then r s q) qs)

  pub calls-left : (r : Run) → Sound g r → (qs : List Asked) → left g (bytes_of r) qs ≡ bytes_of (final g r qs)
  unfolding left final
  calls-left r s [] = refl
  calls-left r s (q ∷ qs) = ap (λ (bs : List ℕ). left g bs qs) (call-bytes r s q) ∙ calls-left (after g r q) (then r s q) qs
