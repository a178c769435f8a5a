-- What is left of `lines::read_booking`.
-- Assumes nothing.
use mathlib.Core.Path.{sym}
use native.Mathlib.Omega.{arith}
use borrow.Author.Rules.{rules}
use Rattle.plan.proofs.LimitLaws.{desk-known}
use Rattle.lines.proofs.BookingLaws.{no-frame, no_number, no-space, no_kind, no-desk-field, another, no-desk, entry}
use Rattle.lines.proofs.FormLaws.{framed}
use Rattle.lines.proofs.read_booking.Goals.{then-line-ne32-via-then-line-ne32, then-line-ne32-via-else-line-ne32+then-not-known_kind, then-number-x-via-then-number-x, then-number-x-via-else-number-x+then-not-known_desk}
use Rattle.lines.proofs.read_booking.Goals as goal

pub returns-then-not-is_framed : goal.returns-then-not-is_framed
returns-then-not-is_framed c = search (rules, no-frame)

pub returns-in_err-number : goal.returns-in_err-number
returns-in_err-number c = search (rules, no_number)

pub bounds-line-6 : goal.bounds-line-6
bounds-line-6 c = omega (arith, (framed _ _ _ (sym c.if-not-is_framed.ensures)).size)

pub bounds-line-5 : goal.bounds-line-5
bounds-line-5 c = omega (arith, (framed _ _ _ (sym c.if-not-is_framed.ensures)).size)

pub returns-then-line-ne32 : goal.returns-then-line-ne32
returns-then-line-ne32 c = elim c.then-line-ne32.branch [
  | then-line-ne32-via-then-line-ne32 w ↦ no-space _ _ w.if-line-ne32.true
  | then-line-ne32-via-else-line-ne32+then-not-known_kind w ↦ no_kind _ _ w.if-not-known_kind.ensures
]

pub returns-in_err-desk : goal.returns-in_err-desk
returns-in_err-desk c = search (rules, no-desk-field)

pub returns-then-number-x : goal.returns-then-number-x
returns-then-number-x c =
    elim c.then-number-x.branch [
      | then-number-x-via-then-number-x w ↦ another _ _ c.if-not-is_framed.ensures _ c.in_ok-number.ensures c.if-line-ne32.false c.if-not-known_kind.ensures _ c.in_ok-desk.ensures w.if-number-x.true
      | then-number-x-via-else-number-x+then-not-known_desk w ↦
          no-desk _ _ c.if-not-is_framed.ensures _ c.in_ok-number.ensures c.if-line-ne32.false c.if-not-known_kind.ensures _ c.in_ok-desk.ensures w.if-number-x.false w.if-not-known_desk.ensures
    ]

pub overflow_cast-result : goal.overflow_cast-result
overflow_cast-result c = omega (arith, (desk-known _ (sym c.if-not-known_desk.ensures)).1)

pub returns : goal.returns
returns c = search (rules, entry)
