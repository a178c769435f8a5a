-- What the drill does after an answer, whichever call gave it: it takes orders until wait or end, and then reads a reply. It stops at
-- the end and at a refusal, but after refusal 9 it goes on with the next reply.
-- Assumes nothing.
use Rattle.std.specs.Prelude.{ℕ, cond, eqb}
use Rattle.guarantee.specs.Answers.{kind_of}
use Rattle.drill_lines.specs.Printed.{answer_of, refusal_of}
use Rattle.drill_lines.specs.declared.Answer.{Answer}
use Rattle.drill_lines.specs.declared.Answer.TheVariants.{Refused, Wait, Flown, CalledOff}
use Rattle.drill_lines.specs.declared.Step.{Step}
use Rattle.drill_lines.specs.declared.Step.TheVariants.{TakeOrder, ReadReply, Stop}

-- after a refusal
abbrev pub after_refusal : ℕ → Step
after_refusal refusal = cond (eqb refusal 9) ReadReply Stop

-- after an answer, with its refusal if it is one
abbrev pub after_kind : Answer → ℕ → Step
after_kind Refused refusal = after_refusal refusal
after_kind Wait refusal = ReadReply
after_kind Flown refusal = Stop
after_kind CalledOff refusal = Stop
after_kind answer refusal = TakeOrder

unfoldable pub step_of : ℕ → Step
step_of bits = after_kind (answer_of (kind_of bits)) (refusal_of bits)
