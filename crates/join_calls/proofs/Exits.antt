-- What the join answers, and what it leaves, at each of its exits.
-- Assumes nothing.
use mathlib.Core.Path.{◌≡◌, sym, ap, subst, ◌∙◌}
use mathlib.Core.Bool.{true, false}
use mathlib.Core.List.{List}
use Prim.Native.Nat.{ℕ, ◌+◌, ◌*◌, ◌≤◌}
use native.Mathlib.Omega.{arith}
use lib.ListN.{length}
use Rattle.plan.specs.Limits.{most_bookings, most_links, most_ways, ours, counted}
use Rattle.plan.specs.declared.Limits.{Limits}
use Rattle.plan.specs.declared.Outline.{Outline}
use Rattle.plan.specs.declared.Plan.{Plan}
use Rattle.plan.proofs.Valid.{Valid}
use Rattle.plan.specs.Outline.{plan_of}
use Rattle.sheet.specs.Sheet.{sheet_of}
use Rattle.sheet.specs.Outlined.{links_read}
use Rattle.sheet.specs.Text.{sheet_text}
use Rattle.lent_text.specs.Room.{room_bits, room_leaves}
use Rattle.std.specs.Prelude.{⊤, Ok, Err}
use Rattle.plan.specs.Judging.{is_fine}
use Rattle.verdict.specs.Check.{check}
use Rattle.verdict.specs.declared.Fault.{Fault}
use Rattle.verdict.proofs.Places.{verdict-small}
use Rattle.calls.specs.Calls.{network_in, judged_bits, check_within, check_call}
use Rattle.calls.specs.declared.Refusal.{Refusal}
use Rattle.calls.specs.declared.Refusal.TheVariants as R
use Rattle.calls.specs.declared.Planned.{Planned}
use Rattle.calls.specs.Refusals.{refusal_bits, refusal_place, Refused, PlanTold}
use Rattle.calls.proofs.Exits.{fine-bounds}
use Rattle.clear.specs.Clear.{clear_verdict, clear}
use Rattle.clear.proofs.Verdicts.{clear-pass}
use Rattle.clear.proofs.ClearLaws.{clear-fine, clear-valid, clear-read, unread-unclear}
use Rattle.clear.proofs.PlanRead.{plan-read}
use Rattle.join.specs.Join.{joined_plan, joinable}
use Rattle.join.proofs.Entries.{Within}
use Rattle.join.proofs.ValidJoin.{within-limits}
use Rattle.join_calls.specs.Join.{fits, joined_text, join_call, join_leaves}
use Rattle.join_calls.specs.Refusals.{join_bits, join_place, Cleared, JoinedIn, NotJoined}
use Rattle.join_calls.specs.declared.JoinRefusal.TheVariants.{Sheet, Large}

-- ---- a sheet that is to have none of 1 to k

-- it does not read
pub unread : (k : ℕ) (s : List ℕ) → 3 ≤ k → (r : Refusal) → Refused (is_fine (sheet_of s).judged) (judged_bits (sheet_of s).judged) r → Refused (clear k s) (check_call s) r
unfolding check_within
unread k s h r x = record { fails = unread-unclear k s h x.fails; bits = rw x.fails x.bits; fits = x.fits }

-- it does
module _ (k : ℕ) (s : List ℕ) (p : Planned) (x : PlanTold ours s p) where
  verdict-clear : clear_verdict k p.verdict ≡ clear k s
  verdict-clear = ap (clear_verdict k) x.verdict ∙ clear-read k s x.reads

  pub faulty : (f : Fault) → p.verdict ≡ Err f → clear_verdict k p.verdict ≡ false → Refused (clear k s) (check_call s) (R.Plan f)
  unfolding check_within refusal_bits refusal_place
  faulty f e n =
      let v : check (network_in s) ≡ Err f = sym x.verdict ∙ e in
      let b = fine-bounds ours s x.reads in
      record {
        fails = sym verdict-clear ∙ n;
        bits = rw (x.reads, v);
        fits = rw v at (verdict-small (network_in s) b.0 b.1);
      }

  pub its-outline : clear_verdict k p.verdict ≡ true → Cleared k s p.outline
  its-outline n = record { clear = sym verdict-clear ∙ n; outline = x.outline }

  pub passed-outline : (u : ⊤) → p.verdict ≡ Ok u → Cleared k s p.outline
  passed-outline u e = its-outline (ap (clear_verdict k) e ∙ sym (clear-pass k u))

-- ---- a sheet without 1 to 7, read with its links beside it

module _ (s : List ℕ) (o : Outline) (us vs : List ℕ) (x : Cleared 7 s o) (eu : us ≡ (links_read ours s).from) (ev : vs ≡ (links_read ours s).to) where
  pub its-plan : plan_of o us vs ≡ (sheet_of s).plan
  its-plan = plan-read s o us vs x.outline eu ev (clear-fine 7 s (omega arith) x.clear)

  pub its-valid : Valid (plan_of o us vs)
  its-valid = subst Valid (sym its-plan) (clear-valid 7 s (omega arith) x.clear)

-- ---- two sheets

module _ (s t : List ℕ) where
  pub first-refused : (r : Refusal) → Refused (clear 7 s) (check_call s) r → NotJoined s t (Sheet r)
  unfolding join_call join_leaves join_bits join_place
  first-refused r x = record { answer = λ size. rw x.fails x.bits; left = λ d. rw x.fails; place = x.fits }

  module _ (cs : clear 7 s ≡ true) where
    pub second-refused : (r : Refusal) → Refused (clear 7 t) (check_call t) r → NotJoined s t (Sheet r)
    unfolding join_call join_leaves join_bits join_place
    second-refused r x = record { answer = λ size. rw (cs, x.fails) x.bits; left = λ d. rw (cs, x.fails); place = x.fits }

    module _ (ct : clear 7 t ≡ true) (p q : Plan) (ep : p ≡ (sheet_of s).plan) (eq : q ≡ (sheet_of t).plan) (l : Limits) (el : l ≡ ours) where
      is-joinable : counted l (p.n + q.n) (p.m + q.m) (p.a * q.a) ≡ joinable p q
      unfolding joinable
      is-joinable = ap (λ (m : Limits). counted m (p.n + q.n) (p.m + q.m) (p.a * q.a)) el

      fits-is : counted l (p.n + q.n) (p.m + q.m) (p.a * q.a) ≡ fits s t
      unfolding fits
      fits-is = is-joinable ∙ rw (ep, eq)

      pub too_large : false ≡ counted l (p.n + q.n) (p.m + q.m) (p.a * q.a) → NotJoined s t Large
      unfolding join_call join_leaves join_bits join_place
      too_large k =
          let f : fits s t ≡ false = sym (k ∙ fits-is) in
          record { answer = λ size. rw (cs, ct, f); left = λ d. rw (cs, ct, f); place = omega arith }

      module _ (k : true ≡ counted l (p.n + q.n) (p.m + q.m) (p.a * q.a)) where
        pub both-within : Within p q
        both-within = within-limits p q (sym (k ∙ is-joinable))

        pub both-joined : (j : Plan) → j ≡ joined_plan p q → JoinedIn s t j
        both-joined j ej = record { first = cs; second = ct; room = sym (k ∙ fits-is); plan = ej ∙ rw (ep, eq) }

  -- the joined plan is written where it has room
  module _ (j : Plan) (x : JoinedIn s t j) where
    pub has-limits : (j.n ≤ most_bookings) × (j.m ≤ most_links) × (j.a ≤ most_ways)
    unfolding joined_plan fits ours
    has-limits = let c = within-limits (sheet_of s).plan (sheet_of t).plan x.room in rw x.plan (c.bookings, c.links, c.ways)

    pub written : (d : List ℕ) → (room_bits (sheet_text j) (length d) ≡ join_call s t (length d)) × (room_leaves (sheet_text j) d ≡ join_leaves s t d)
    unfolding join_call join_leaves joined_text
    written d = (rw (x.first, x.second, x.room, ← x.plan), rw (x.first, x.second, x.room, ← x.plan))
