-- What is left of `desks::with_desk`.
-- Assumes nothing.
use borrow.Author.Tests.{le-leb, lt-leb}
use Rattle.desks.proofs.with_desk.Goals as goal

pub returns-then-size-limit : goal.returns-then-size-limit
returns-then-size-limit c = rw (← c.size.ensures, le-leb _ _ c.if-size-limit.true)

pub returns : goal.returns
returns c = rw (← c.size.ensures, lt-leb _ _ c.if-size-limit.false)
