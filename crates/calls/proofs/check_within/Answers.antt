-- What is left of `calls::check_within`.
-- Assumes nothing.
use mathlib.Core.Path.{◌≡◌, ◌∙◌, sym}
use mathlib.Core.Bool.{Bool, true}
use Prim.Native.Nat.{ℕ}
use Rattle.std.specs.Prelude.{Result, Ok, Err, MatchResult}
use Rattle.std.specs.Result.{result_and}
use Rattle.calls.specs.Refusals.{Answers, Refused}
use Rattle.calls.specs.declared.Refusal.{Refusal}
use Rattle.calls.proofs.Exits.{accepts}
use Rattle.calls.proofs.check_within.Goals as goal

-- accepted in place of nothing
answers : (passes : Bool) (x y : ℕ) (r : Result (Unit {0}) Refusal) → MatchResult r (λ u. passes ≡ true) (Refused passes x) → (passes ≡ true → y ≡ x) → Answers x (result_and {U = ℕ} r (Ok y))
answers passes x y (Ok u) j a = record { bits = a j; fits = tt }
answers passes x y (Err f) j a = record { bits = j.bits; fits = j.fits }

pub bits_of-requires : goal.bits_of-requires
bits_of-requires c = rw c.and.ensures (answers _ _ _ c.examine.result c.examine.ensures (λ p. c.pack.ensures ∙ sym (accepts c.args.most c.args.sheet.now p))).fits

pub returns : goal.returns
returns c = c.bits_of.ensures ∙ rw c.and.ensures (answers _ _ _ c.examine.result c.examine.ensures (λ p. c.pack.ensures ∙ sym (accepts c.args.most c.args.sheet.now p))).bits
