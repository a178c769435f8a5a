-- What is left of `lines::read_head`.
-- Assumes nothing.
use borrow.Author.Rules.{rules}
use Rattle.lines.proofs.HeadLaws.{no-frame, no-bookings, no-links, no-ways, no-limit, formed}
use Rattle.lines.proofs.read_head.Goals as goal

pub returns-then-not-is_framed : goal.returns-then-not-is_framed
returns-then-not-is_framed c = search (rules, no-frame)

pub returns-in_err-bookings : goal.returns-in_err-bookings
returns-in_err-bookings c = search (rules, no-bookings)

pub returns-in_err-links : goal.returns-in_err-links
returns-in_err-links c = search (rules, no-links)

pub returns-in_err-ways : goal.returns-in_err-ways
returns-in_err-ways c = search (rules, no-ways)

pub returns-in_err-limit : goal.returns-in_err-limit
returns-in_err-limit c = search (rules, no-limit)

pub returns : goal.returns
returns c = search (rules, formed)
