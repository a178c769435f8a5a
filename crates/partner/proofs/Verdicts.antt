-- One verdict, for all limits; and so for the partner's call and ours.
-- Assumes nothing.
use mathlib.Core.Path.{◌≡◌}
use mathlib.Core.Logic.{inl, inr}
use mathlib.Core.List.{List}
use Prim.Native.Nat.{ℕ}
use native.Mathlib.Omega.{arith}
use Rattle.bounded.proofs.Bools.{which}
use Rattle.plan.specs.declared.Limits.{Limits}
use Rattle.sheet.specs.Sheet.{oversize}
use Rattle.sheet.specs.Text.{longest_within}
use Rattle.guarantee.specs.Answers.{refusal_of}
use Rattle.guarantee.proofs.Moved.{refusal-pack}
use Rattle.calls.specs.Calls.{check_call}
use Rattle.calls.proofs.Within.{one-verdict, over-verdict, our-verdict, ours-few, only-over, check-front, accepted-few, accepted-length, accepted-passes}
use Rattle.partner.specs.Partner.{theirs, partner_call, OneVerdict, BothCalls}

pub verdicts : (l m : Limits) (s : List ℕ) → OneVerdict l m s
verdicts l m s = record { same = one-verdict s l m; over = over-verdict s l; only = only-over s l }

module _ (s : List ℕ) where
  same : (refusal_of (partner_call s) ≡ 16 → ⊥) → partner_call s ≡ check_call s
  same n = elim (which (oversize theirs s)) [
    | inl o ↦ absurd (n (rw (over-verdict s theirs o) (refusal-pack 0 16 1 (omega arith) (omega arith))))
    | inr o ↦ our-verdict s theirs o
  ]

  pub both : BothCalls s
  unfolding theirs longest_within
  both = record {
    same = same;
    over = (verdicts theirs theirs s).over;
    only = (verdicts theirs theirs s).only;
    never = λ e. omega (arith, ours-few s);
    few = accepted-few theirs s;
    short = accepted-length theirs s;
    passes = accepted-passes theirs s;
    front = check-front theirs s;
  }
