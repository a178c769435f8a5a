-- What is left of `calls::Refusal::own_bits`.
-- Assumes nothing.
use Rattle.std.proofs.Common.{◌≡◌, ◌∙◌, refl, arith, ℕ}
use Rattle.guarantee.specs.Answers.{pack, unsound}
use Rattle.guarantee.proofs.Numbers.{small-9}
use Rattle.calls.specs.declared.Refusal.{Refusal}
use Rattle.calls.specs.declared.Refusal.TheVariants.{Sheet, Plan, Reply, Room, State}
use Rattle.calls.specs.Refusals.{own_bits}
use Rattle.calls.proofs.Refusal.own_bits.Goals as goal

-- all else than 9 and 10
else-11 : (r : Refusal) → ((b : ℕ) → r ≡ Reply b → ⊥) → (r ≡ Room → ⊥) → pack 0 11 0 ≡ own_bits r
unfolding own_bits unsound
else-11 (Sheet f) h k = refl
else-11 (Plan f) h k = refl
else-11 (Reply b) h k = absurd (h b refl)
else-11 Room h k = absurd (k refl)
else-11 State h k = refl

pub pack-requires : goal.pack-requires
pack-requires c = (omega arith, omega arith, omega (arith, c.place_9.ensures, small-9 c.in-Reply.booking))

pub returns-in_default : goal.returns-in_default
returns-in_default c = c.pack-in_default.ensures ∙ else-11 c.args.self c.in_default.not-Reply c.in_default.not-Room
