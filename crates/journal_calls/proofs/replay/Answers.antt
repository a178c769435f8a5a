-- What is left of `journal_calls::replay`.
-- Assumes nothing.
use mathlib.Core.Path.{◌≡◌, ap, ◌∙◌}
use mathlib.Core.Bool.{true}
use mathlib.Core.List.{List}
use Prim.Native.Nat.{ℕ}
use native.Mathlib.Omega.{arith}
use lib.ListN.{length}
use Rattle.run.specs.State.{start}
use Rattle.run.specs.Bytes.{bytes_of, run_of}
use Rattle.run.specs.declared.Run.{Run}
use Rattle.lent_state.specs.Lines.{taken_of}
use Rattle.lent_state.proofs.Bytes.{held_run}
use Rattle.journal_calls.proofs.Replaying.{kept-all, none-wrong, one-wrong, replay-left}
use Rattle.journal_calls.proofs.replay.Goals.{After-take_lines-t}
use Rattle.journal_calls.proofs.replay.Goals as goal

-- the bytes are those of the start
at-start : (r : Run) (bytes : List ℕ) → r ≡ start → bytes ≡ bytes_of r → run_of bytes ≡ start
at-start r bytes e w = ap run_of w ∙ held_run r ∙ e

-- what was told of the lines
told : (c : After-take_lines-t) → let t = taken_of true c.args.chart.now.network start c.args.journal.now in
    (c.take_lines-t.result.kept ≡ t.kept) × (c.take_lines-t.result.fault ≡ t.fault) × (c.take_lines-t.new.state ≡ bytes_of t.run)
told c =
    let z = at-start _ _ c.start-run.ensures c.store.ensures in
    let e = c.take_lines-t.ensures in
    (rw z at e.told.0, rw z at e.told.1, rw z at e.left)

pub take_lines-t-requires : goal.take_lines-t-requires
unfolding start bytes_of
take_lines-t-requires c =
    let r = c.start-run.ensures in
    let z = at-start _ _ r c.store.ensures in
    record { size = ap length (c.store.ensures ∙ ap bytes_of r); way = rw z (omega arith); stands = rw z (rw r at c.standing-standing.ensures) }

pub returns-in-None : goal.returns-in-None
returns-in-None c =
    let (k, f, s) = told (goal.at.returns-in-None c).After-take_lines-t in
    record { told = none-wrong c.args.chart.now.network c.args.journal.now _ _ k f _ s c.in-None.is; left = replay-left c.args.chart.now.network c.args.journal.now _ _ k f _ s }

pub overflow_add-result : goal.overflow_add-result
overflow_add-result c =
    let k = kept-all c.args.chart.now.network c.args.journal.now in
    let e = (told (goal.at.overflow_add-result c).After-take_lines-t).0 in
    let f = c.well_formed.1.0.0 in
    omega arith

pub returns-in-Some : goal.returns-in-Some
returns-in-Some c =
    let (k, f, s) = told (goal.at.returns-in-Some c).After-take_lines-t in
    record { told = one-wrong c.args.chart.now.network c.args.journal.now _ _ k f _ s _ c.in-Some.is; left = replay-left c.args.chart.now.network c.args.journal.now _ _ k f _ s }
