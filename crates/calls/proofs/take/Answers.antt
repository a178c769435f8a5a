-- What is left of `calls::take`.
-- Assumes nothing.
use mathlib.Core.Path.{◌≡◌, ◌∙◌, sym}
use Rattle.std.specs.Prelude.{Result, Err}
use Rattle.run.specs.declared.Run.{Run}
use Rattle.calls.specs.declared.Refusal.{Refusal}
use native.Mathlib.Omega.{arith}
use Rattle.guarantee.specs.Machine.{replied}
use Rattle.calls.specs.Calls.{asked_call}
use Rattle.calls.specs.Refusals.{Answers}
use Rattle.calls.proofs.Exits.{on-err, asked-refused, reply-small, reply-done, reply-refused}
use Rattle.calls.proofs.take.Goals as goal

pub returns-in_err-c : goal.returns-in_err-c
returns-in_err-c c =
    let s = c.args.sheet.now in
    let bs = c.args.state.now in
    let q = replied c.args.letter c.args.booking in
    let t = asked-refused s bs _ c.in_err-c.ensures q in
    record { answer = on-err (Answers (asked_call s bs q)) _ _ c.from_residual.ensures.1 t.0; left = t.1 }

same : (e f : Refusal) → ◌≡◌ {A = Result Run Refusal} (Err e) (Err f) → e ≡ f
same e f h = cc

pub returns-in_err-after : goal.returns-in_err-after
returns-in_err-after c =
    let e = c.in_err-after.ensures in
    let s = c.args.sheet.now in
    let bs = c.args.state.now in
    let q = replied c.args.letter c.args.booking in
    let t = reply-refused s bs _ c.in_ok-c.ensures _ _ (sym e.ok_part ∙ c.reply_to.ensures) in
    record { answer = on-err (Answers (asked_call s bs q)) _ _ c.from_residual-in_err-after.ensures.1 (rw (same _ _ (rw e.ok_part at e.value)) t.0); left = t.1 }

pub pack-requires : goal.pack-requires
pack-requires c = (omega arith, omega arith, reply-small _ _ _ c.in_ok-c.ensures _ _ _ (sym c.in_ok-after.ensures.ok_part ∙ c.reply_to.ensures))

pub returns : goal.returns
returns c =
    let t = reply-done _ _ _ c.in_ok-c.ensures _ _ _ (sym c.in_ok-after.ensures.ok_part ∙ c.reply_to.ensures) _ c.pack.ensures _ c.store.ensures in
    record { answer = t.0; left = t.1 }
