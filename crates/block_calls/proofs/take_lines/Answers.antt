-- What is left of `block_calls::take_lines`.
-- Assumes nothing.
use Rattle.run.specs.Bytes.{run_of}
use Rattle.block_calls.proofs.Taking.{told}
use Rattle.block_calls.proofs.take_lines.Goals as goal

pub returns : goal.returns
returns c =
    let e = c.take_lines-t.ensures in
    let o = told c.args.chart.now.network c.args.block.now (run_of c.args.state.now) _ _ e.told.0 (rw e.told.1 at c.with_tail.ensures) _ e.left in
    record { told = o.0; left = o.1 }
