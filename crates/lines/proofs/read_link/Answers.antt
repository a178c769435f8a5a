-- What is left of `lines::read_link`.
-- Assumes nothing.
use mathlib.Core.Path.{sym}
use native.Mathlib.Omega.{arith}
use borrow.Author.Rules.{rules}
use Rattle.plan.proofs.LimitLaws.{sequenced}
use Rattle.lines.proofs.LinkLaws.{no-frame, no-first, no_second, out, pair}
use Rattle.lines.proofs.read_link.Goals as goal

pub returns-then-not-is_framed : goal.returns-then-not-is_framed
returns-then-not-is_framed c = search (rules, no-frame)

pub returns-in_err-from : goal.returns-in_err-from
returns-in_err-from c = search (rules, no-first)

pub returns-in_err-to : goal.returns-in_err-to
returns-in_err-to c = search (rules, no_second)

pub returns-then-not-in_sequence : goal.returns-then-not-in_sequence
returns-then-not-in_sequence c = search (rules, out)

pub overflow_cast-result : goal.overflow_cast-result
overflow_cast-result c = omega (arith, (sequenced _ _ _ _ _ (sym c.if-not-in_sequence.ensures)).start.1)

pub overflow_cast-result-2 : goal.overflow_cast-result-2
overflow_cast-result-2 c = omega (arith, (sequenced _ _ _ _ _ (sym c.if-not-in_sequence.ensures)).end.1)

pub returns : goal.returns
returns c = search (rules, pair)
