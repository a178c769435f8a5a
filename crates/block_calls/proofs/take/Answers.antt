-- What is left of `block_calls::take`.
-- Assumes nothing.
use Rattle.calls.specs.Refusals.{Answers}
use Rattle.calls.proofs.Exits.{on-err}
use Rattle.block_calls.specs.Block.{block_call}
use Rattle.block_calls.proofs.Exits.{block_refused, lines-ready, told-few, block-done}
use Rattle.block_calls.proofs.take.Goals as goal

pub returns-in_err-campaign : goal.returns-in_err-campaign
returns-in_err-campaign c =
    let o = block_refused c.args.sheet.now c.args.block.now c.args.state.now _ c.in_err-campaign.ensures in
    record { answer = on-err (Answers (block_call c.args.sheet.now c.args.block.now c.args.state.now)) _ _ c.from_residual.ensures.1 o.0; left = o.1 }

pub take_lines-taken-requires : goal.take_lines-taken-requires
take_lines-taken-requires c = lines-ready _ c.args.block.now _ _ c.in_ok-campaign.ensures

pub block_bits-requires : goal.block_bits-requires
block_bits-requires c = told-few _ _ _ _ c.in_ok-campaign.ensures _ _ c.take_lines-taken.ensures.told

pub returns : goal.returns
returns c =
    let o = block-done _ _ _ _ c.in_ok-campaign.ensures _ _ c.take_lines-taken.ensures.told _ c.block_bits.ensures _ c.take_lines-taken.ensures.left in
    record { answer = o.0; left = o.1 }
