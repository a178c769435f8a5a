-- A joined plan is read back from its sheet as it is: past its counts its entries are 0.
-- Assumes nothing.
use mathlib.Core.Path.{◌≡◌}
use Prim.Native.Nat.{◌+◌, ◌*◌}
use Rattle.bounded.proofs.Filled.{filled-same}
use Rattle.plan.specs.Limits.{ours}
use Rattle.plan.specs.declared.Plan.{Plan}
use Rattle.lines.specs.Bookings.{no_bookings}
use Rattle.plan.specs.Links.{no_links}
use Rattle.ways.specs.Ways.{no_ways}
use Rattle.sheet.proofs.ReadSheet.{read_plan}
use Rattle.join.specs.Join.{row_at, pair_at, joined_plan}
use Rattle.join.proofs.Rows.{row-past, pair-past}
use Rattle.join.proofs.Entries.{Within}

pub read-joined : (p q : Plan) → Within p q → read_plan (joined_plan p q) ≡ joined_plan p q
unfolding read_plan joined_plan ours no_bookings no_links no_ways
read-joined p q c = rw (
  filled-same (row_at p.n q.n 0 p.kind q.kind) (p.n + q.n) 64 c.bookings (row-past p.n q.n 0 p.kind q.kind),
  filled-same (row_at p.n q.n 0 p.desk q.desk) (p.n + q.n) 64 c.bookings (row-past p.n q.n 0 p.desk q.desk),
  filled-same (row_at p.m q.m p.n p.from q.from) (p.m + q.m) 512 c.links (row-past p.m q.m p.n p.from q.from),
  filled-same (row_at p.m q.m p.n p.to q.to) (p.m + q.m) 512 c.links (row-past p.m q.m p.n p.to q.to),
  filled-same (pair_at p.a q.a p.n p.way q.way) (p.a * q.a) 16 c.ways (pair-past p.a q.a p.n p.way q.way),
)
