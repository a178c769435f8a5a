-- What is left of `line_writer::write_links`.
-- Assumes nothing.
use mathlib.Core.Path.{refl}
use borrow.Author.Rules.{rules}
use native.Mathlib.Omega.{arith}
use native.Mathlib.Nat.{sub-zero, mul-zero}
use Rattle.line_writer.proofs.WriteLaws.{links-on, links-all}
use Rattle.line_writer.proofs.write_links.Goals as goal

pub loop-i-init : goal.loop-i-init
loop-i-init c = (refl, simp (sub-zero, mul-zero))

pub loop-i-preserved : goal.loop-i-preserved
loop-i-preserved c =
    let a = c.args in
    let l = c.loop-i in
    (search rules, links-on a.m l.i _ l.text _ a.from.now a.to.now _ c.loop-i-test.true (omega arith) refl l.invariant.1 c.write_link.ensures)

pub returns : goal.returns
returns c = search links-all
