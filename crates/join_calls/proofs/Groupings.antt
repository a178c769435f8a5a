-- Three sheets without 1 to 7 joined in either grouping (`grouped`).
-- Assumes nothing.
use mathlib.Core.Path.{◌≡◌, refl, sym, ap, ◌∙◌}
use mathlib.Core.Logic.{inl, inr}
use mathlib.Core.Bool.{Bool, true, false, ◌&&◌, cond}
use mathlib.Core.List.{List}
use Prim.Native.Nat.{ℕ, ◌≤◌, ◌<◌}
use native.Mathlib.Omega.{arith}
use lib.Dec.{eqb, leb}
use lib.ListN.{length}
use borrow.Author.Tests.{eq-eqb, le-leb}
use Rattle.bounded.proofs.Bools.{which, and_r}
use Rattle.plan.specs.Limits.{ours}
use Rattle.plan.specs.declared.Plan.{Plan}
use Rattle.sheet.specs.Sheet.{sheet_of}
use Rattle.sheet.specs.Text.{sheet_text, longest_within}
use Rattle.sheet.proofs.ReadSheet.{longest-is}
use Rattle.guarantee.specs.Answers.{pack, kind_of}
use Rattle.guarantee.proofs.Moved.{kind-pack}
use Rattle.lent_text.specs.Room.{room_bits, room_leaves}
use Rattle.clear.specs.Clear.{clear}
use Rattle.join.specs.Join.{joined_plan, joinable}
use Rattle.join.proofs.ValidJoin.{within-limits}
use Rattle.join.proofs.Group.{joinable-alike, joined_same}
use Rattle.join_calls.specs.Join.{fits, joined_text, join_call, join_leaves}
use Rattle.join_calls.specs.Joined.{shown, first_two, first_two_leave, last_two, last_two_leave, Grouped}
use Rattle.join_calls.proofs.Sheets.{plan-valid, joined-plan, joined-clear, joined-bound, call-is, shown-is}

-- ---- two sheets whose plans are known

module _ (x y : List ℕ) (cx : clear 7 x ≡ true) (cy : clear 7 y ≡ true) (p q : Plan) (ep : (sheet_of x).plan ≡ p) (eq : (sheet_of y).plan ≡ q) where
  by-plans : (size : ℕ) → join_call x y size ≡ cond (joinable p q) (room_bits (sheet_text (joined_plan p q)) size) (pack 0 17 0)
  unfolding join_call fits joined_text
  by-plans size = rw (cx, cy, ep, eq)

  plans-leave : (e : List ℕ) → join_leaves x y e ≡ cond (joinable p q) (room_leaves (sheet_text (joined_plan p q)) e) e
  unfolding join_leaves fits joined_text
  plans-leave e = rw (cx, cy, ep, eq)

-- ---- two sheets and a buffer with room for the longest sheet

module _ (s t : List ℕ) (cs : clear 7 s ≡ true) (ct : clear 7 t ≡ true) where
  -- they do not fit together
  too_large : fits s t ≡ false → (size : ℕ) → join_call s t size ≡ pack 0 17 0
  unfolding join_call
  too_large f size = rw (cs, ct, f)

  not_taken : fits s t ≡ false → (size : ℕ) → eqb (kind_of (join_call s t size)) 6 ≡ false
  unfolding kind_of pack
  not_taken f size = rw (too_large f size)

  -- they do
  module _ (f : fits s t ≡ true) (d : List ℕ) (h : longest_within ours ≤ length d) where
    six : kind_of (join_call s t (length d)) ≡ 6
    unfolding room_bits
    six =
        let l : leb (length (joined_text s t)) (length d) ≡ true = le-leb (length (joined_text s t)) (length d) (omega (arith, joined-bound s t cs ct f)) in
        let b : length (joined_text s t) < 65536 = omega (arith, joined-bound s t cs ct f, longest-is) in
        let a : join_call s t (length d) ≡ pack 6 0 (length (joined_text s t)) = call-is s t cs ct f (length d) ∙ rw l refl in
        ap kind_of a ∙ kind-pack 6 0 (length (joined_text s t)) (omega arith) b

    is-taken : eqb (kind_of (join_call s t (length d))) 6 ≡ true
    is-taken = eq-eqb (kind_of (join_call s t (length d))) 6 six

    between : shown s t d ≡ joined_text s t
    between = shown-is s t d cs ct f six

-- ---- three

module _ (s t u : List ℕ) (cs : clear 7 s ≡ true) (ct : clear 7 t ≡ true) (cu : clear 7 u ≡ true) where
  p : Plan
  p = (sheet_of s).plan

  q : Plan
  q = (sheet_of t).plan

  r : Plan
  r = (sheet_of u).plan

  -- all three are within the limits; the one grouping is exactly where the other is
  all_first : Bool
  all_first = joinable p q && joinable (joined_plan p q) r

  all-last : Bool
  all-last = joinable q r && joinable p (joined_plan q r)

  all_alike : all_first ≡ all-last
  unfolding all_first all-last p q r
  all_alike = joinable-alike p q r (plan-valid s cs) (plan-valid t ct) (plan-valid u cu)

  text-alike : all_first ≡ true → sheet_text (joined_plan (joined_plan p q) r) ≡ sheet_text (joined_plan p (joined_plan q r))
  unfolding all_first p q r
  text-alike o = ap sheet_text (joined_same p q r (plan-valid s cs) (plan-valid t ct) (plan-valid u cu) (within-limits (joined_plan p q) r (and_r (joinable p q) _ o)))

  module _ (d e : List ℕ) (h : longest_within ours ≤ length d) where
    first-is : first_two s t u d e ≡ cond all_first (room_bits (sheet_text (joined_plan (joined_plan p q) r)) (length e)) (pack 0 17 0)
    unfolding first_two all_first fits p q r
    first-is = elim (which (fits s t)) [
      | inl f ↦ rw (is-taken s t cs ct f d h, between s t cs ct f d h, f) (by-plans (joined_text s t) u (joined-clear s t cs ct f) cu (joined_plan p q) r (joined-plan s t cs ct f) refl (length e))
      | inr f ↦ rw (not_taken s t cs ct f (length d), f) (too_large s t cs ct f (length d))
    ]

    first-leaves : first_two_leave s t u d e ≡ cond all_first (room_leaves (sheet_text (joined_plan (joined_plan p q) r)) e) e
    unfolding first_two_leave all_first fits p q r
    first-leaves = elim (which (fits s t)) [
      | inl f ↦ rw (is-taken s t cs ct f d h, between s t cs ct f d h, f) (plans-leave (joined_text s t) u (joined-clear s t cs ct f) cu (joined_plan p q) r (joined-plan s t cs ct f) refl e)
      | inr f ↦ rw (not_taken s t cs ct f (length d), f)
    ]

    last-is : last_two s t u d e ≡ cond all-last (room_bits (sheet_text (joined_plan p (joined_plan q r))) (length e)) (pack 0 17 0)
    unfolding last_two all-last fits p q r
    last-is = elim (which (fits t u)) [
      | inl f ↦ rw (is-taken t u ct cu f d h, between t u ct cu f d h, f) (by-plans s (joined_text t u) cs (joined-clear t u ct cu f) p (joined_plan q r) refl (joined-plan t u ct cu f) (length e))
      | inr f ↦ rw (not_taken t u ct cu f (length d), f) (too_large t u ct cu f (length d))
    ]

    last-leaves : last_two_leave s t u d e ≡ cond all-last (room_leaves (sheet_text (joined_plan p (joined_plan q r))) e) e
    unfolding last_two_leave all-last fits p q r
    last-leaves = elim (which (fits t u)) [
      | inl f ↦ rw (is-taken t u ct cu f d h, between t u ct cu f d h, f) (plans-leave s (joined_text t u) cs (joined-clear t u ct cu f) p (joined_plan q r) refl (joined-plan t u ct cu f) e)
      | inr f ↦ rw (not_taken t u ct cu f (length d), f)
    ]

  -- what comes of the text of all three
  alike : {A : Type 0} (f : List ℕ → A) (a : A)
      → cond all_first (f (sheet_text (joined_plan (joined_plan p q) r))) a ≡ cond all-last (f (sheet_text (joined_plan p (joined_plan q r)))) a
  alike f a = elim (which all_first) [
    | inl o ↦ (let z : all-last ≡ true = sym all_alike ∙ o in rw (o, z) (ap f (text-alike o)))
    | inr o ↦ (let z : all-last ≡ false = sym all_alike ∙ o in rw (o, z))
  ]

  -- THREE SHEETS in either grouping
  pub grouped : Grouped s t u
  grouped = record {
    answer = λ d d' e h h'. first-is d e h ∙ alike (λ x. room_bits x (length e)) (pack 0 17 0) ∙ sym (last-is d' e h');
    bytes = λ d d' e h h'. first-leaves d e h ∙ alike (λ x. room_leaves x e) e ∙ sym (last-leaves d' e h');
  }
