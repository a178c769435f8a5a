-- Two sheets without 1 to 7 that fit together: the joined sheet (`joined`).
-- Assumes nothing.
use mathlib.Core.Path.{◌≡◌, sym, ap, ◌∙◌}
use mathlib.Core.Logic.{inl, inr}
use mathlib.Core.Bool.{true, false}
use mathlib.Core.List.{List}
use Prim.Native.Nat.{ℕ, suc, ◌+◌, ◌≤◌, ◌<◌}
use native.Mathlib.Omega.{arith}
use lib.ListN.{length, take}
use Rattle.bounded.proofs.Bools.{which, clash}
use Rattle.plan.specs.Limits.{ours}
use Rattle.plan.specs.Judging.{is_fine}
use Rattle.plan.specs.Record.{record_of}
use Rattle.plan.specs.declared.Plan.{Plan}
use Rattle.std.specs.Prelude.{Ok}
use Rattle.plan.proofs.LimitLaws.{counted-e}
use Rattle.plan.proofs.Valid.{Valid, fine-counted, valid-fine}
use Rattle.sheet.specs.Sheet.{Sheet, sheet_of}
use Rattle.sheet.specs.Text.{longest_within}
use Rattle.sheet.proofs.Front.{sheet-front}
use Rattle.sheet.proofs.ReadSheet.{sheet-read, length-bound, longest-is}
use Rattle.network.specs.declared.Network.{Network}
use Rattle.network.specs.FromPlan.{network_of}
use Rattle.verdict.specs.Check.{stranding}
use Rattle.verdict.proofs.Pass.{Clean-to, closed-way}
use Rattle.verdict.proofs.Facts.{Passes}
use Rattle.network.proofs.Facts.{Shape}
use Rattle.network.proofs.Plans.{shape}
use Rattle.guarantee.specs.Answers.{pack, kind_of}
use Rattle.guarantee.proofs.Moved.{kind-pack}
use Rattle.lent_text.specs.Room.{room_bits, room_leaves}
use Rattle.lent_text.proofs.Room as Lent
use Rattle.calls.specs.Calls.{network_in, network_within, sheet_passes}
use Rattle.calls.proofs.InOrder.{passing}
use Rattle.calls.proofs.Within.{check-front}
use Rattle.clear.specs.Clear.{clear}
use Rattle.clear.proofs.ClearLaws.{clear-fine, clear-valid, clear-clean, clean-clear, clean-passes, six-clear}
use Rattle.join.specs.Join.{joined_plan}
use Rattle.join.proofs.Entries.{Within}
use Rattle.join.proofs.ValidJoin.{within-limits, valid-joined}
use Rattle.join.proofs.Clean.{one_way, pair-first, pair-second, clean-joined}
use Rattle.join.proofs.Parts.{pre-first, pre-second, pre-across}
use Rattle.join.proofs.Passing.{first-safe, second-safe}
use Rattle.join_calls.specs.Join.{fits, joined_text, join_call, join_leaves}
use Rattle.join_calls.specs.Joined.{shown, Joined}
use Rattle.join_calls.proofs.Read.{read-joined}

-- ---- a sheet without 1 to 7

module _ (s : List ℕ) (e : clear 7 s ≡ true) where
  pub plan-valid : Valid (sheet_of s).plan
  plan-valid = clear-valid 7 s (omega arith) e

  pub plan-clean : Clean-to 7 (network_of (sheet_of s).plan)
  unfolding network_within
  plan-clean = clear-clean 7 s (omega arith) e

-- ---- two

module _ (s t : List ℕ) (cs : clear 7 s ≡ true) (ct : clear 7 t ≡ true) (f : fits s t ≡ true) where
  pub in-limits : Within (sheet_of s).plan (sheet_of t).plan
  unfolding fits
  in-limits = within-limits (sheet_of s).plan (sheet_of t).plan f

  joined-valid : Valid (joined_plan (sheet_of s).plan (sheet_of t).plan)
  joined-valid = valid-joined (sheet_of s).plan (sheet_of t).plan (plan-valid s cs) (plan-valid t ct) in-limits

  joined-fine : record_of (joined_plan (sheet_of s).plan (sheet_of t).plan) ≡ Ok tt
  joined-fine = valid-fine (joined_plan (sheet_of s).plan (sheet_of t).plan) joined-valid

  -- the joined sheet reads as the joined plan
  pub joined-read : sheet_of (joined_text s t) ≡ record { judged = Ok tt; plan = joined_plan (sheet_of s).plan (sheet_of t).plan }
  unfolding joined_text
  joined-read =
      let j : Plan = joined_plan (sheet_of s).plan (sheet_of t).plan in
      sheet-read j joined-fine ours (fine-counted j joined-fine)
      ∙ ap {B = Sheet} (λ (p : Plan). record { judged = Ok tt; plan = p }) (read-joined (sheet_of s).plan (sheet_of t).plan in-limits)

  pub joined-plan : (sheet_of (joined_text s t)).plan ≡ joined_plan (sheet_of s).plan (sheet_of t).plan
  joined-plan = ap (λ (x : Sheet). x.plan) joined-read

  pub joined-shape : Shape (network_in (joined_text s t))
  unfolding network_within
  joined-shape = rw joined-plan (shape (joined_plan (sheet_of s).plan (sheet_of t).plan) joined-valid)

  pub joined-clean : Clean-to 7 (network_in (joined_text s t))
  unfolding network_within
  joined-clean = rw joined-plan (clean-joined (sheet_of s).plan (sheet_of t).plan (plan-valid s cs) (plan-valid t ct) in-limits (plan-clean s cs) (plan-clean t ct))

  -- and has none of 1 to 7 wrong with it
  pub joined-clear : clear 7 (joined_text s t) ≡ true
  joined-clear = clean-clear 7 (joined_text s t) (ap (λ (x : Sheet). is_fine x.judged) joined-read) joined-clean

  pub joined-bound : length (joined_text s t) ≤ longest_within ours
  unfolding joined_text
  joined-bound = length-bound (joined_plan (sheet_of s).plan (sheet_of t).plan) joined-fine ours (counted-e ours _ _ _ (fine-counted _ joined-fine))

  joined_small : length (joined_text s t) < 65536
  joined_small = omega (arith, longest-is, joined-bound)

  pub call-is : (size : ℕ) → join_call s t size ≡ room_bits (joined_text s t) size
  unfolding join_call
  call-is size = rw (cs, ct, f)

  pub leaves-is : (d : List ℕ) → join_leaves s t d ≡ room_leaves (joined_text s t) d
  unfolding join_leaves
  leaves-is d = rw (cs, ct, f)

-- ---- the call's answer

-- what an answer of kind 6 tells
record Taken (s t : List ℕ) : Type 0 where
  first : clear 7 s ≡ true
  second : clear 7 t ≡ true
  room : fits s t ≡ true

taken : (s t : List ℕ) (size : ℕ) → kind_of (join_call s t size) ≡ 6 → Taken s t
unfolding join_call
taken s t size k = elim (which (clear 7 s)) [
  | inr z ↦ clash (clear 7 s) (six-clear 7 s (rw z at k)) z
  | inl a ↦ elim (which (clear 7 t)) [
    | inr z ↦ clash (clear 7 t) (six-clear 7 t (rw (a, z) at k)) z
    | inl b ↦ elim (which (fits s t)) [
      | inr z ↦ (let q : kind_of (pack 0 17 0) ≡ 6 = rw (a, b, z) at k in absurd (omega (arith, kind-pack 0 17 0 (omega arith) (omega arith))))
      | inl c ↦ record { first = a; second = b; room = c }
    ]
  ]
]

-- as many bytes as the answer's place says are the joined sheet
pub shown-is : (s t d : List ℕ) → clear 7 s ≡ true → clear 7 t ≡ true → fits s t ≡ true → kind_of (join_call s t (length d)) ≡ 6 → shown s t d ≡ joined_text s t
unfolding shown
shown-is s t d a b f k =
    let q : kind_of (room_bits (joined_text s t) (length d)) ≡ 6 = ap kind_of (sym (call-is s t a b f (length d))) ∙ k in
    rw (call-is s t a b f (length d), leaves-is s t a b f d) (Lent.shown (joined_text s t) d q (joined_small s t a b f))

-- ---- if the joined sheet passes

with-eight : (g : Network) → Clean-to 7 g → ((k x : ℕ) → k < g.a → x < g.n → stranding g (suc k) x ≡ false) → Clean-to 8 g
with-eight g c e = record {
  four = λ o. c.four (omega arith);
  five = λ o. c.five (omega arith);
  six = λ o. c.six (omega arith);
  seven = λ o. c.seven (omega arith);
  eight = λ o. e;
}

module _ (s t : List ℕ) (cs : clear 7 s ≡ true) (ct : clear 7 t ≡ true) (f : fits s t ≡ true) (ok : sheet_passes (joined_text s t) ≡ true) where
  joined-passes : Passes (network_of (joined_plan (sheet_of s).plan (sheet_of t).plan))
  unfolding network_within
  joined-passes = rw (joined-plan s t cs ct f) at (passing (joined_text s t) ok)

  first_passes : sheet_passes s ≡ true
  unfolding network_within network_of
  first_passes =
      clean-passes s (clear-fine 7 s (omega arith) cs)
      (with-eight (network_in s) (plan-clean s cs) (first-safe (sheet_of s).plan (sheet_of t).plan (plan-valid s cs) (plan-valid t ct) (in-limits s t cs ct f) joined-passes))

  second-passes : sheet_passes t ≡ true
  unfolding network_within network_of
  second-passes =
      clean-passes t (clear-fine 7 t (omega arith) ct)
      (with-eight (network_in t) (plan-clean t ct) (second-safe (sheet_of s).plan (sheet_of t).plan (plan-valid s cs) (plan-valid t ct) (in-limits s t cs ct f) joined-passes))

-- ---- the answer and the bytes

-- THE CALL WAS ANSWERED WITH KIND 6
pub joined : (s t d : List ℕ) → kind_of (join_call s t (length d)) ≡ 6 → Joined s t d
unfolding network_within network_of
joined s t d k =
    let x = taken s t (length d) k in
    let e : shown s t d ≡ joined_text s t = shown-is s t d x.first x.second x.room k in
    let c = joined-clean s t x.first x.second x.room in
    let p = (sheet_of s).plan in
    let q = (sheet_of t).plan in
    let v = plan-valid s x.first in
    let w = plan-valid t x.second in
    let l = in-limits s t x.first x.second x.room in
    let z = joined-plan s t x.first x.second x.room in
    record {
      plan = ap sheet_of e ∙ joined-read s t x.first x.second x.room;
      clean = ap (clear 7) e ∙ joined-clear s t x.first x.second x.room;
      firsts = rw (e, z) (pair-first p q v w l);
      seconds = rw (e, z) (pair-second p q v w l);
      orders_first = rw (e, z) (pre-first p q v w l);
      orders_second = rw (e, z) (pre-second p q v w l);
      orders_across = rw (e, z) (pre-across p q v w l);
      closed = rw e (closed-way (network_in (joined_text s t)) (joined-shape s t x.first x.second x.room) (c.five (omega arith)));
      distinct = rw e (one_way (network_in (joined_text s t)) (c.seven (omega arith)));
      parts = λ o. let g : sheet_passes (joined_text s t) ≡ true = ap sheet_passes (sym e) ∙ o in (
        first_passes s t x.first x.second x.room g,
        second-passes s t x.first x.second x.room g,
      );
    }

-- of either sheet one byte more than the longest decides: what lies behind changes neither the answer nor what is left
pub join_front : (s t d : List ℕ) → let k = longest_within ours + 1 in
    (join_call (take k s) (take k t) (length d) ≡ join_call s t (length d)) × (join_leaves (take k s) (take k t) d ≡ join_leaves s t d)
unfolding join_call join_leaves clear fits joined_text
join_front s t d = (
  rw (check-front ours s, check-front ours t, sheet-front ours s, sheet-front ours t),
  rw (check-front ours s, check-front ours t, sheet-front ours s, sheet-front ours t),
)
