-- What is left of `decimal::copy_in`.
-- Assumes nothing.
use Rattle.std.proofs.Common.{arith}
use Rattle.decimal.proofs.Stores.{put-sets}
use Rattle.decimal.proofs.copy_in.Goals as goal

pub returns : goal.returns
returns c = put-sets _ _ _ _ _ c.requires (omega arith) c.copy_from_slice.ensures.after
