-- What is left of `writer::write_lines`.
-- Assumes nothing.
use Rattle.std.proofs.Common.{arith, rules}
use Rattle.decimal.proofs.Stores.{put-front}
use Rattle.lines.specs.Form.{head_bytes}
use Rattle.lines.specs.Bookings.{bookings_text}
use Rattle.lines.specs.Links.{links_text}
use Rattle.lines.proofs.Lengths.{bookings-length, links-length}
use Rattle.ways.proofs.TextLaws.{taken-length, taken-text}
use Rattle.sheet.specs.Text.{sheet_length}
use Rattle.writer.proofs.TextLaws.{all_lines}
use Rattle.writer.proofs.write_lines.Goals as goal

pub write_ways-requires : goal.write_ways-requires
unfolding sheet_length
write_ways-requires c = let p = c.args.p.now in rw (taken-length p.a p.way (omega arith)) (search rules)

pub returns : goal.returns
unfolding sheet_length
returns c =
    let p = c.args.p.now in
    let t = rw (taken-text p.a p.way (omega arith)) at c.write_ways.ensures.text in
    let y = put-front c.write_head.new.line c.write_bookings.new.text head_bytes _ (bookings_text p.n 0 p.kind p.desk)
    (omega (arith, bookings-length p.n 0 p.kind p.desk)) (omega arith) c.write_bookings.ensures in
    let z = put-front _ c.write_links.new.text c.links_place.result _ (links_text p.m 0 p.from p.to)
    (omega (arith, links-length p.m 0 p.from p.to)) (omega arith) c.write_links.ensures in
    all_lines p _ _ _ _ _ _ _ c.links_place.ensures c.ways_place.ensures c.write_head.ensures y z t
