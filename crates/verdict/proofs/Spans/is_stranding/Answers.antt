-- What is left of `verdict::Spans::is_stranding`.
-- Assumes nothing.
use Rattle.std.proofs.Common.{◌≡◌, ◌∙◌, refl}
use Prim.Native.Nat.{suc}
use lib.Bits.{bit_and}
use lib.ListN.{get_or}
use Rattle.verdict.specs.Check.{staying}
use Rattle.verdict.proofs.Parts.{staying-is, refuges-are}
use Rattle.verdict.proofs.Exits.{nothing-stays, sheltered}
use Rattle.verdict.proofs.Spans.is_stranding.Goals.{Start}
use Rattle.verdict.proofs.Spans.is_stranding.Goals as goal

-- S, as it is found
found : (c : goal.Start) → let g = c.args.chart.now.network in
    bit_and (get_or c.args.self.now.stay c.args.x 0) (get_or g.way c.args.k 0) ≡ staying g (suc c.args.k) c.args.x
found c = staying-is c.args.chart.now.network _ _ _ _ refl (c.requires.0.stay c.args.x c.requires.2)

pub returns-then-s-eq0 : goal.returns-then-s-eq0
returns-then-s-eq0 c = nothing-stays _ _ _ _ (found (goal.at.returns-then-s-eq0 c).Start) c.if-s-eq0.true

pub settled_by-settled-requires : goal.settled_by-settled-requires
settled_by-settled-requires c = (c.requires.0, c.requires.2, found (goal.at.settled_by-settled-requires c).Start)

pub returns : goal.returns
returns c =
    let g = c.args.chart.now.network in
    let e = found (goal.at.returns c).Start in
    sheltered g _ _ _ e c.requires.3 c.requires.4 c.if-s-eq0.false _ (c.has_refuge.ensures ∙ refuges-are g _ _ _ _ g.way refl e c.settled_by-settled.ensures)
