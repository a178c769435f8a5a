-- The sheet of a plan: its lines one after the other.
-- Assumes nothing.
use Rattle.std.specs.Prelude.{ℕ, ◌+◌, ◌*◌, List, ◌++◌}
use Rattle.plan.specs.declared.Limits.{Limits}
use Rattle.plan.specs.declared.Plan.{Plan}
use Rattle.lines.specs.Form.{ways_place}
use Rattle.lines.specs.Head.{head_text}
use Rattle.lines.specs.Bookings.{bookings_text}
use Rattle.lines.specs.Links.{links_text}
use Rattle.ways.specs.WayText.{way_bytes, ways_text, ways_length}

unfoldable pub sheet_text : Plan → List ℕ
sheet_text p =
    head_text p.n p.m p.a p.limit ++ (bookings_text p.n 0 p.kind p.desk ++ (links_text p.m 0 p.from p.to ++ ways_text p.a 0 p.way))

-- how many bytes it has
unfoldable pub sheet_length : Plan → ℕ
sheet_length p = ways_place p.n p.m + ways_length p.a p.way

-- how many bytes the longest has that a caller takes: as many bookings, links and ways as its limits let it have, and every booking in each way
unfoldable pub longest_within : Limits → ℕ
longest_within most = ways_place most.bookings most.links + way_bytes most.bookings * most.ways
