-- What is left of `sheet::read_body`.
-- Assumes nothing.
use Rattle.std.proofs.Common.{◌≡◌, ◌∙◌, ℕ, List, sym}
use Rattle.std.proofs.lemmas.Result.{err_from_is_err_and}
use Rattle.std.specs.Prelude.{Ok}
use Rattle.sheet.specs.Sheet.{bookings_in, links_in, ways_in, plan_in}
use Rattle.sheet.proofs.SheetLaws.{links-there, bookings-refused, links-refused, ways-refused, bytes-remain, all_read}
use Rattle.sheet.proofs.read_body.Goals.{In_ok-bookings, In_ok-read_links, In_ok-ways}
use Rattle.sheet.proofs.read_body.Goals as goal

-- the lines that were fine
bookings : (c : In_ok-bookings) → (bookings_in c.args.counts.bookings c.args.s.now).judged ≡ Ok tt
bookings c = rw c.bookings_in-bookings.ensures at c.in_ok-bookings.was

links : (c : In_ok-read_links) → (links_in c.args.counts.bookings c.args.counts.links c.args.s.now).judged ≡ Ok tt
links c = rw (links-there c.args.counts.bookings c.args.counts.links _ c.args.s.now c.links_place.ensures) at (sym c.in_ok-read_links.ensures.told)

ways : (c : In_ok-ways) → (ways_in c.args.counts.bookings c.args.counts.links c.args.counts.ways c.args.s.now).judged ≡ Ok tt
ways c = rw c.ways_in-ways.ensures at c.in_ok-ways.was

-- and the links that were left
left : (c : In_ok-read_links) → (us vs : List ℕ) → ((links_in c.args.counts.bookings c.args.counts.links c.args.s.now).from ≡ us) × ((links_in c.args.counts.bookings c.args.counts.links c.args.s.now).to ≡ vs)
    → (c.read_links.new.links.from ≡ us) × (c.read_links.new.links.to ≡ vs)
left c us vs o =
    let l = rw (links-there c.args.counts.bookings c.args.counts.links _ c.args.s.now c.links_place.ensures) at c.read_links.ensures.left in
    (l.0 ∙ o.0, l.1 ∙ o.1)

pub returns-in_err-bookings : goal.returns-in_err-bookings
returns-in_err-bookings c =
    let p = err_from_is_err_and c.from_residual.result c.from_residual.ensures.1 in
    let k = c.args.counts in
    let o = bookings-refused k.bookings k.links k.ways k.limit c.args.s.now _ (rw c.bookings_in-bookings.ensures at c.in_err-bookings.was) in
    record { told = rw (p.1, p.2) o.0; left = rw c.requires.3 o.1 }

pub returns-in_err-read_links : goal.returns-in_err-read_links
returns-in_err-read_links c =
    let p = err_from_is_err_and c.from_residual-in_err-read_links.result c.from_residual-in_err-read_links.ensures.1 in
    let k = c.args.counts in
    let w = (goal.at.returns-in_err-read_links c).In_ok-bookings in
    let t = links-there k.bookings k.links _ c.args.s.now c.links_place.ensures in
    let o = links-refused k.bookings k.links k.ways k.limit c.args.s.now (bookings w) _ (rw t at (sym c.in_err-read_links.ensures.told)) in
    record { told = rw (p.1, p.2) o.0; left = let l = rw t at c.read_links.ensures.left in rw (l.0, l.1) o.1 }

pub returns-in_err-ways : goal.returns-in_err-ways
returns-in_err-ways c =
    let p = err_from_is_err_and c.from_residual-in_err-ways.result c.from_residual-in_err-ways.ensures.1 in
    let k = c.args.counts in
    let w = (goal.at.returns-in_err-ways c).In_ok-read_links in
    let o = ways-refused k.bookings k.links k.ways k.limit c.args.s.now (bookings (goal.at.returns-in_err-ways c).In_ok-bookings) (links w) _ (rw c.ways_in-ways.ensures at c.in_err-ways.was) in
    record { told = rw (p.1, p.2) o.0; left = left w _ _ o.1 }

pub returns-then-ways-s : goal.returns-then-ways-s
returns-then-ways-s c =
    let k = c.args.counts in
    let w = (goal.at.returns-then-ways-s c).In_ok-read_links in
    let o = bytes-remain k.bookings k.links k.ways k.limit c.args.s.now (bookings (goal.at.returns-then-ways-s c).In_ok-bookings) (links w) (ways (goal.at.returns-then-ways-s c).In_ok-ways)
    (rw c.ways_in-ways.ensures at c.if-ways-s.true) in
    record { told = o.0; left = left w _ _ o.1 }

pub returns : goal.returns
unfolding plan_in
returns c =
    let k = c.args.counts in
    let w = (goal.at.returns c).In_ok-read_links in
    let o = all_read k.bookings k.links k.ways k.limit c.args.s.now (bookings (goal.at.returns c).In_ok-bookings) (links w) (ways (goal.at.returns c).In_ok-ways)
    (rw c.ways_in-ways.ensures at c.if-ways-s.false) in
    record { told = rw (c.bookings_in-bookings.ensures, c.ways_in-ways.ensures) o.0; left = left w _ _ o.1 }
