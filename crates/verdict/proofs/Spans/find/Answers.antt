-- What is left of `verdict::Spans::find`.
-- Assumes nothing.
use mathlib.Core.Path.{◌≡◌, refl, sym, ap, ◌∙◌}
use Prim.Native.Nat.{◌^◌}
use native.Mathlib.Omega.{arith}
use borrow.Author.Count.{below_none}
use lib.Bits.{bit_or}
use lib.ListN.{length, get_or, length-set, set}
use Rattle.bounded.proofs.Lists.{table-put}
use Rattle.network.specs.Network as Net
use Rattle.verdict.specs.declared.Spans.{Spans}
use Rattle.verdict.proofs.Parts.{stay_none, stay-turn, stay-same, stay-done}
use Rattle.verdict.proofs.Spans.find.Goals.{then-has, else-has}
use Rattle.std.proofs.Common.{rules}
use Rattle.verdict.proofs.Spans.find.Goals as goal

pub loop-s-init : goal.loop-s-init
loop-s-init c = (search rules, c.firm_for_each.ensures.size, below_none _, stay_none c.args.chart.now.network _ c.firm_for_each.ensures.firm)

pub loop-s-preserved : goal.loop-s-preserved
unfolding Net.before
loop-s-preserved c =
    let h = c.args.chart.now in
    let g = h.network in
    let s = c.loop-s.s in
    let i = c.loop-s.invariant in
    let bit = c.bit-b.ensures in
    let up : bit_or (get_or g.before s 0) c.bit-b.result ≡ bit_or (Net.before g s) (2 ^ s) = ap (bit_or (get_or g.before s 0)) bit in
    let put : c.if-has.self.upto ≡ set c.loop-s.self.upto s (bit_or (get_or g.before s 0) c.bit-b.result) = elim c.if-has.branch [
      | then-has w ↦ ap (λ (t : Spans). t.upto) w.self-is
      | else-has w ↦ ap (λ (t : Spans). t.upto) w.self-is
    ] in (
      rw put (simp length-set i.0),
      elim c.if-has.branch [
        | then-has w ↦ ap (λ (t : Spans). length t.stay) w.self-is ∙ w.take_from_members.ensures.whole
        | else-has w ↦ ap (λ (t : Spans). length t.stay) w.self-is ∙ i.1
      ],
      rw put (table-put _ c.loop-s.self.upto s _ (omega arith) up i.2),
      λ x l. elim c.if-has.branch [
        | then-has w ↦
            ap (λ (t : Spans). get_or t.stay x 0) w.self-is
            ∙ stay-turn g _ _ _ _ _ h.few_bookings up bit w.take_from_members.ensures (sym c.has.ensures ∙ w.if-has.true) i.3 x l
        | else-has w ↦ ap (λ (t : Spans). get_or t.stay x 0) w.self-is ∙ stay-same g c.loop-s.self.stay _ (sym c.has.ensures ∙ w.if-has.false) i.3 x l
      ],
    )

pub returns : goal.returns
returns c =
    let g = c.args.chart.now.network in
    let i = c.loop-s.invariant in
    let e : c.loop-s.s ≡ g.n = omega arith in
    record { upto = λ s h. i.2 s (omega arith); stay = stay-done g c.loop-s.self.stay (rw e at i.3) }
