-- What is left of `lines::read_links`.
-- Assumes nothing.
use native.Mathlib.Nat.{add-zero, sub-zero}
use Rattle.lines.proofs.LinksLaws.{went_on, refused, ended, told}
use Rattle.lines.proofs.read_links.Goals as goal

pub loop-i-init : goal.loop-i-init
loop-i-init c = rw (c.requires.3, c.default-last.ensures.0, c.default-last.ensures.1) (simp (add-zero, sub-zero))

pub loop-i-preserved : goal.loop-i-preserved
loop-i-preserved c =
    let l = c.loop-i in
    went_on c.args.n c.args.m c.args.at l.i c.args.s.now l.last.from l.last.to l.links.from l.links.to _ _ _ c.loop-i-test.true c.part-line.ensures c.read_link.ensures l.invariant _ _ c.in-Ok.is

pub returns-in-Err : goal.returns-in-Err
returns-in-Err c =
    let l = c.loop-i in
    let p = told _ _ (refused c.args.n c.args.m c.args.at l.i c.args.s.now l.last.from l.last.to l.links.from l.links.to _ _ _ c.loop-i-test.true c.part-line.ensures c.read_link.ensures l.invariant _ c.in-Err.is) in
    record { told = rw c.on.ensures p.0; left = p.1 }

pub returns : goal.returns
returns c =
    let p = told _ _ (ended c.args.n c.args.m c.loop-i.i _ c.loop-i.last.from c.loop-i.last.to c.loop-i.links.from c.loop-i.links.to _ c.loop-i-test.false c.loop-i.invariant) in
    record { told = p.0; left = p.1 }
