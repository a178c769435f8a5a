-- When a verdict is clear of refusals 1 to k, and what that says of the answer that it is.
-- Assumes nothing.
use mathlib.Core.Path.{◌≡◌, refl}
use mathlib.Core.Logic.{inl, inr}
use mathlib.Core.Bool.{true, not}
use Prim.Native.Nat.{ℕ, suc, ◌+◌, ◌*◌, ◌≤◌, ◌<◌}
use native.Mathlib.Omega.{arith}
use lib.Dec.{ltb}
use borrow.Author.Tests.{le-leb, lt-leb, lt-ltb, le-ltb}
use Rattle.std.specs.Prelude.{⊤, Ok, Err}
use Rattle.bounded.proofs.Bools.{split?}
use Rattle.plan.specs.Limits.{within}
use Rattle.verdict.specs.Check.{Verdict, verdict_number, verdict_place}
use Rattle.verdict.specs.declared.Fault.{Fault}
use Rattle.verdict.specs.declared.Fault.TheVariants.{Circular, Unclosed, Unused, Repeated, Stranding}
use Rattle.guarantee.specs.Answers.{check_bits}
use Rattle.guarantee.proofs.Moved.{refusal-pack}
use Rattle.clear.specs.Clear.{clear_bits, clear_verdict}

past-is : (k n : ℕ) → 1 ≤ n → ltb k n ≡ not (within 1 n k)
unfolding within
past-is k n h = elim (split? k n) [
  | inl l ↦ rw (lt-ltb k n l, le-leb 1 n h, lt-leb n k l)
  | inr l ↦ rw (le-ltb k n l, le-leb 1 n h, le-leb n k l)
]

pub clear-pass : (k : ℕ) (u : ⊤) → true ≡ clear_verdict k (Ok u)
unfolding clear_verdict within verdict_number
clear-pass k u = refl

pub clear-fault : (k : ℕ) (f : Fault) → ltb k (verdict_number (Err f)) ≡ clear_verdict k (Err f)
unfolding clear_verdict verdict_number
clear-fault k (Circular b) = past-is k 4 (omega arith)
clear-fault k (Unclosed w) = past-is k 5 (omega arith)
clear-fault k (Unused b) = past-is k 6 (omega arith)
clear-fault k (Repeated w) = past-is k 7 (omega arith)
clear-fault k (Stranding w b) = past-is k 8 (omega arith)

-- the answer that a verdict is
pub clear_answer : (k : ℕ) (v : Verdict) → verdict_place v < 65536 → clear_verdict k v ≡ clear_bits k (check_bits v)
unfolding clear_verdict clear_bits check_bits verdict_number verdict_place
clear_answer k (Ok tt) h = rw (refusal-pack 6 0 0 (omega arith) (omega arith))
clear_answer k (Err (Circular b)) h = rw (refusal-pack 0 4 (suc b) (omega arith) h)
clear_answer k (Err (Unclosed w)) h = rw (refusal-pack 0 5 w (omega arith) h)
clear_answer k (Err (Unused b)) h = rw (refusal-pack 0 6 (suc b) (omega arith) h)
clear_answer k (Err (Repeated w)) h = rw (refusal-pack 0 7 w (omega arith) h)
clear_answer k (Err (Stranding w b)) h = rw (refusal-pack 0 8 (w * 256 + suc b) (omega arith) h)
