-- What is left of `lent_state::take_reply`.
-- Assumes nothing.
use mathlib.Core.Path.{◌≡◌, ◌∙◌}
use mathlib.Core.Logic.{◌≢◌}
use Prim.Native.Nat.{ℕ, suc, ◌-◌, ◌≤◌, ◌<◌}
use native.Mathlib.Omega.{arith}
use lib.ListN.{get_or}
use Rattle.network.specs.Network.{exposed}
use Rattle.run.specs.Codes.{code_after}
use Rattle.lent_state.proofs.Bytes.{Changed, change}
use Rattle.lent_state.proofs.Codes.{no-booking, past-booking, no_code, taken_out}
use Rattle.lent_state.proofs.take_reply.Goals.{After-code_after, After-moved-moved}
use Rattle.lent_state.proofs.take_reply.Goals as goal

-- the index is the number's, and the number one of the plan's
at-index : (k x n : ℕ) → k ≡ suc x → x < n → (x ≡ k - 1) × (k ≢ 0) × (k ≤ n)
at-index k x n e h = (omega arith, λ z. omega arith, omega arith)

code_is : (c : After-code_after)
    → c.code_after.result ≡ code_after (get_or c.args.state.now c.args.event.booking 0) c.args.event.letter (exposed c.args.chart.now.network (c.args.event.booking - 1))
unfolding exposed
code_is c = let z = (at-index _ _ _ c.in_ok-index.ensures c.if-index-g.false).0 in rw (c.has.ensures, z) at c.code_after.ensures

changes : (c : After-moved-moved) → Changed c.args.chart.now.network c.args.state.now c.args.event.booking c.in_ok-code.code c.moved-moved.result
changes c =
    let i = at-index _ _ _ c.in_ok-index.ensures c.if-index-g.false in
    let z = i.0 in
    change c.args.chart.now.network c.args.chart.now.few_bookings c.args.state.now c.requires.size c.args.s c.requires.stands c.args.event.booking i.1 i.2 _ _ (rw (c.bit.ensures, z) at c.moved-moved.ensures)

pub returns-in_err-index : goal.returns-in_err-index
returns-in_err-index c =
    let o = no-booking c.args.chart.now.network c.args.state.now c.requires.size c.args.event.letter c.args.event.booking c.in_err-index.ensures in
    record { told = c.from_residual.ensures ∙ o.0; left = o.1 }

pub returns-then-index-g : goal.returns-then-index-g
returns-then-index-g c =
    let e = c.in_ok-index.ensures in
    let h = c.if-index-g.true in
    let o = past-booking c.args.chart.now.network c.args.state.now c.requires.size c.args.event.letter c.args.event.booking (omega arith) in
    record { told = o.0; left = o.1 }

pub returns-in_err-code : goal.returns-in_err-code
returns-in_err-code c =
    let i = at-index _ _ _ c.in_ok-index.ensures c.if-index-g.false in
    let o = no_code c.args.chart.now.network c.args.state.now c.requires.size c.args.event.letter c.args.event.booking i.1 i.2 _
    (code_is (goal.at.returns-in_err-code c).After-code_after) c.in_err-code.was in
    record { told = c.from_residual-in_err-code.ensures ∙ o.0; left = o.1 }

pub follow-requires : goal.follow-requires
follow-requires c =
    let h = changes (goal.at.follow-requires c).After-moved-moved in
    record { size = h.size; way = omega (arith, c.requires.way, h.way); stands = h.stands-there }

pub returns : goal.returns
returns c =
    let i = at-index _ _ _ c.in_ok-index.ensures c.if-index-g.false in
    let o = taken_out c.args.chart.now.network c.args.state.now c.requires.size c.args.event.letter c.args.event.booking i.1 i.2 _
    (code_is (goal.at.returns c).After-code_after) _ c.in_ok-code.was _ (changes (goal.at.returns c).After-moved-moved) _ c.follow.ensures in
    record { told = o.0; left = o.1 }
