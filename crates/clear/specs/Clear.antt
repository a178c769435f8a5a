-- A sheet of which only the first refusals are judged, by check's own answer.
-- Assumes nothing.
use Rattle.std.specs.Prelude.{ℕ, Bool, not, List}
use Rattle.plan.specs.Limits.{within}
use Rattle.verdict.specs.Check.{Verdict, verdict_number}
use Rattle.guarantee.specs.Answers.{refusal_of}
use Rattle.calls.specs.Calls.{check_call}

-- an answer that does not refuse with one of 1 to k
unfoldable pub clear_bits : ℕ → ℕ → Bool
clear_bits k x = not (within 1 (refusal_of x) k)

-- the same, of what check says of a plan
unfoldable pub clear_verdict : ℕ → Verdict → Bool
clear_verdict k v = not (within 1 (verdict_number v) k)

-- refusals 1 to k are absent: check accepts the sheet, or refuses it with a later number, for of several faults it gives the first
unfoldable pub clear : ℕ → List ℕ → Bool
clear k s = clear_bits k (check_call s)
