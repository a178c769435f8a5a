-- What is left of `ways::read_way`.
-- Assumes nothing.
use Rattle.std.proofs.Common.{◌≡◌, ℕ, ◌≤◌, arith, sym, drop}
use Rattle.std.proofs.lemmas.Result.{err_from_is_err_and}
use Rattle.std.specs.Prelude.{Result}
use Rattle.plan.proofs.LimitLaws.{within-hi}
use Rattle.ways.specs.Way.{as_way, way_line_of}
use Rattle.lines.specs.declared.LineFault.{LineFault}
use Rattle.ways.proofs.ReadLaws.{no-count, count-out, no_end, by-set}
use Rattle.ways.proofs.read_way.Goals.{Else-not-is_within, After-gather}
use Rattle.ways.proofs.read_way.Goals as goal

-- the count is at most n
few : (c : Else-not-is_within) → c.in_ok-k.k ≤ c.args.n
few c = within-hi 1 _ _ (sym c.if-not-is_within.ensures)

-- past the tests, what was gathered is the line
line : (c : After-gather) → (h : Result ℕ LineFault) → c.gather.result ≡ h → as_way c.in_ok-k.k h ≡ way_line_of c.args.n (drop c.args.at c.args.s.now)
line c h e = by-set _ c.args.at c.args.s.now _ (rw c.part.ensures at c.in_ok-k.ensures) c.if-not-is_within.ensures c.if-not-line_feed_at.ensures _ (rw (← e) c.gather.ensures)

pub returns-in_err-k : goal.returns-in_err-k
returns-in_err-k c =
    let p = err_from_is_err_and c.from_residual.result c.from_residual.ensures.1 in
    rw (p.1, p.2) (no-count _ c.args.at c.args.s.now _ (rw c.part.ensures at c.in_err-k.ensures))

pub returns-then-not-is_within : goal.returns-then-not-is_within
returns-then-not-is_within c = count-out _ c.args.at c.args.s.now _ (rw c.part.ensures at c.in_ok-k.ensures) c.if-not-is_within.ensures

pub overflow_mul-k : goal.overflow_mul-k
overflow_mul-k c = omega (arith, few c)

pub overflow_add-at-2 : goal.overflow_add-at-2
overflow_add-at-2 c = omega (arith, few c)

pub returns-then-not-line_feed_at : goal.returns-then-not-line_feed_at
returns-then-not-line_feed_at c = no_end _ c.args.at c.args.s.now _ (rw c.part.ensures at c.in_ok-k.ensures) c.if-not-is_within.ensures c.if-not-line_feed_at.ensures

pub gather-requires : goal.gather-requires
gather-requires c = omega (arith, few (goal.at.gather-requires c).Else-not-is_within)

pub returns-in_err-set : goal.returns-in_err-set
returns-in_err-set c =
    let p = err_from_is_err_and c.from_residual-in_err-set.result c.from_residual-in_err-set.ensures.1 in
    rw (p.1, p.2) (line (goal.at.returns-in_err-set c).After-gather _ c.in_err-set.was)

pub returns : goal.returns
returns c = line (goal.at.returns c).After-gather _ c.in_ok-set.was
