-- Which answers are refusals, by their kinds.
-- Assumes nothing.
use Rattle.std.proofs.Common.{◌≡◌, ◌≢◌, refl, ℕ, zero, suc}
use Rattle.drill_lines.specs.Printed.{answer_of}
use Rattle.drill_lines.specs.declared.Answer.{Answer}
use Rattle.drill_lines.specs.declared.Answer.TheVariants.{Refused}

pub refused_kind : (k : ℕ) (answer : Answer) → answer ≡ answer_of k → answer ≡ Refused → k ≡ 0
unfolding answer_of
refused_kind zero answer e r = refl
refused_kind (suc zero) answer e r = cc
refused_kind (suc (suc zero)) answer e r = cc
refused_kind (suc (suc (suc zero))) answer e r = cc
refused_kind (suc (suc (suc (suc zero)))) answer e r = cc
refused_kind (suc (suc (suc (suc (suc zero))))) answer e r = cc
refused_kind (suc (suc (suc (suc (suc (suc k)))))) answer e r = cc

pub other_kind : (k : ℕ) (answer : Answer) → answer ≡ answer_of k → answer ≢ Refused → k ≢ 0
unfolding answer_of
other_kind k answer e other z = other (rw (e, z))
