-- What the calls answer, and what they leave, at each of their exits.
-- Assumes nothing.
use mathlib.Core.Path.{◌≡◌, refl, sym, ap, subst, ◌∙◌}
use mathlib.Core.Bool.{Bool, true, false, cond}
use mathlib.Core.Logic.{inl, inr}
use mathlib.Core.List.{List, [], ◌∷◌}
use Prim.Native.Nat.{ℕ, zero, suc, ◌≤◌, ◌<◌}
use native.Mathlib.Omega.{arith}
use lib.ListN.{length}
use lib.Dec.{eqb}
use borrow.Author.Tests.{eq-eqb, ne_eqb}
use Rattle.std.specs.Prelude.{Result, Ok, Err, IsErrAnd, Some, None}
use Rattle.bounded.proofs.Bools.{which, clash, and_l, and_r, ◌&◌, and-no-l, and-no-r}
use Rattle.plan.specs.Limits.{ours}
use Rattle.plan.specs.Judging.{Judged, is_fine}
use Rattle.plan.specs.Outline.{plan_of, outline_of}
use Rattle.plan.specs.declared.Fault.{Fault}
use Rattle.plan.specs.declared.Limits.{Limits}
use Rattle.plan.specs.declared.Outline.{Outline}
use Rattle.plan.specs.declared.Plan.{Plan}
use Rattle.sheet.specs.Sheet.{sheet_within, given}
use Rattle.sheet.specs.Outlined.{outlined_of, links_read}
use Rattle.sheet.proofs.SheetLaws.{read-fine}
use Rattle.sheet.proofs.Places.{sheet-small}
use Rattle.sheet.proofs.Accepted.{sheet-valid}
use Rattle.network.specs.declared.Network.{Network}
use Rattle.network.specs.declared.Chart.{Chart}
use Rattle.network.specs.FromPlan.{network_of, Ends, Seated}
use Rattle.network.proofs.Plans.{valid-fits}
use Rattle.verdict.specs.Check.{Verdict, check, verdict_number, verdict_place}
use Rattle.verdict.specs.declared.Fault.{Fault as PlanFault}
use Rattle.verdict.specs.declared.Fault.TheVariants.{Circular, Unclosed, Unused, Repeated, Stranding}
use Rattle.verdict.proofs.Places.{verdict-small}
use Rattle.run.specs.declared.Run.{Run}
use Rattle.standing.specs.declared.Standing.{Standing}
use Rattle.run.specs.State.{start, standing}
use Rattle.run.specs.Sound.{sound}
use Rattle.run.specs.Bytes.{bytes_of, run_of, sound_bytes}
use Rattle.run.specs.Replies.{Replied, kept_of}
use Rattle.run.proofs.Cases.{ReplyCase, misfit, confirmed, refused, again, returned, kept, reply-case}
use Rattle.run.proofs.SoundTest.{sound-way}
use Rattle.guarantee.specs.Answers.{pack, check_bits, reply_bits}
use Rattle.guarantee.specs.Machine.{Asked, replied, reply_to, answer, after}
use Rattle.guarantee.proofs.Numbers.{small-9, taken-small}
use Rattle.guarantee.specs.Calls.{call_bits, call_bytes}
use Rattle.calls.specs.declared.Refusal.{Refusal}
use Rattle.calls.specs.declared.Refusal.TheVariants.{Sheet as NoSheet, Plan as NoPlan, Reply, State}
use Rattle.calls.specs.declared.Checked.{Checked}
use Rattle.calls.specs.declared.Planned.{Planned}
use Rattle.calls.specs.declared.Campaign.{Campaign}
use Rattle.calls.specs.Calls.{network_within, network_in, passes, passes_within, sheet_passes, judged_bits, check_within, check_call, start_call, start_leaves, asked_call, asked_leaves, in_order, refused_with}
use Rattle.calls.specs.Refusals.{refusal_bits, refusal_place, Answers, Judges, Refused, Passed, SheetTold, SheetUnread, SheetRead, PlanTold, Stood, TakenUp}

-- what a `?` gives on is the refusal that it found
pub on-err : {A E : Type 0} (P : Result A E → Type 0) (r : Result A E) (x : E) → IsErrAnd r (λ e. e ≡ x) → P (Err x) → P r
on-err P (Ok y) x h p = absurd h
on-err P (Err e) x h p = rw h p

-- the counts of a plan that reads are within the limits of every sheet
pub fine-bounds : (most : Limits) (s : List ℕ) → is_fine (sheet_within most s).judged ≡ true → ((network_within most s).n ≤ 64) × ((network_within most s).a ≤ 16)
unfolding network_within network_of
fine-bounds most s e = let v = sheet-valid most s e in (v.counts.bookings, v.counts.ways)

-- ---- a sheet that is read

-- what is told of it
told-fault : (j : Judged) (o : Outline) (f : Fault) → Err f ≡ given j o → j ≡ Err f
told-fault (Ok u) o f e = absurd (cc)
told-fault (Err g) o f e = cc

told-fine : (j : Judged) (o p : Outline) → Ok p ≡ given j o → (is_fine j ≡ true) × (p ≡ o)
told-fine (Ok u) o p e = (refl, cc)
told-fine (Err g) o p e = absurd (cc)

given-fine : (j : Judged) (p q : Plan) → Ok p ≡ given j q → p ≡ q
given-fine (Ok u) p q e = cc
given-fine (Err g) p q e = absurd (cc)

module _ (most : Limits) (s : List ℕ) where
  -- a line of it is refused, and its number fits
  pub unread-fits : (f : Fault) → (sheet_within most s).judged ≡ Err f → SheetUnread most s f
  unread-fits f j = record { judged = j; fits = rw j at (sheet-small most s) }

  pub unread : (f : Fault) → Err f ≡ outlined_of (sheet_within most s) → SheetUnread most s f
  unread f e = unread-fits f (told-fault (sheet_within most s).judged _ f e)

  pub unread-refused : (f : Fault) → (sheet_within most s).judged ≡ Err f → Refused (is_fine (sheet_within most s).judged) (judged_bits (sheet_within most s).judged) (NoSheet f)
  unfolding refusal_bits refusal_place
  unread-refused f j = record { fails = rw j refl; bits = rw j refl; fits = (unread-fits f j).fits }

  -- what is told of a plan is told with a place that fits
  pub plan-fits : (p : Planned) → is_fine (sheet_within most s).judged ≡ true → p.outline ≡ outline_of (sheet_within most s).plan → p.chart.network ≡ network_within most s
      → p.verdict ≡ check (network_within most s) → PlanTold most s p
  plan-fits p r o n v = record { reads = r; outline = o; network = n; verdict = v; fits = rw (v, ← n) (verdict-small p.chart.network p.chart.few_bookings p.chart.few_ways) }

  -- it reads, and its links stand beside its plan
  module _ (o : Outline) (us vs : List ℕ) (e : Ok o ≡ outlined_of (sheet_within most s)) (eu : us ≡ (links_read most s).from) (ev : vs ≡ (links_read most s).to) where
    fine : is_fine (sheet_within most s).judged ≡ true
    fine = (told-fine (sheet_within most s).judged _ o e).0

    plan-is : plan_of o us vs ≡ (sheet_within most s).plan
    plan-is = rw (eu, ev) (given-fine (sheet_within most s).judged _ _ (read-fine most s o e))

    -- what the check of the plan relies on
    pub can-network : (o.n ≤ 64) × Ends o.n us vs o.m × Seated o.n o.desk
    can-network = subst (λ (p : Plan). (p.n ≤ 64) × Ends p.n p.from p.to p.m × Seated p.n p.desk) (sym plan-is) (valid-fits _ (sheet-valid most s fine))

    module _ (g : Network) (eg : g ≡ network_of (plan_of o us vs)) where
      network-read : g ≡ network_within most s
      unfolding network_within
      network-read = eg ∙ ap network_of plan-is

      pub can-check : (g.n ≤ 64) × (g.a ≤ 16)
      can-check = rw network-read (fine-bounds most s fine)

      -- what the check says of it
      pub told-of : (v : Verdict) → v ≡ check g → SheetTold most s (record { chart = record { network = g; few_bookings = can-check.0; few_ways = can-check.1 }; verdict = v })
      told-of v q = record { reads = fine; network = network-read; verdict = q ∙ ap check network-read; fits = rw q (verdict-small g can-check.0 can-check.1) }

      pub plan-told : (c : Chart) (v : Verdict) → c.network ≡ g → v ≡ check c.network → PlanTold most s (record { outline = o; chart = c; verdict = v })
      plan-told c v ec q = plan-fits _ fine (told-fine (sheet_within most s).judged _ o e).1 (ec ∙ network-read) (q ∙ ap check (ec ∙ network-read))

-- ---- a sheet that is judged

-- a fault is a refusal with its number and its place
pub fault-bits : (f : PlanFault) → check_bits (Err f) ≡ pack 0 (verdict_number (Err f)) (verdict_place (Err f))
unfolding check_bits verdict_number
fault-bits (Circular b) = refl
fault-bits (Unclosed w) = refl
fault-bits (Unused b) = refl
fault-bits (Repeated w) = refl
fault-bits (Stranding w b) = refl

pub fault-few : (f : PlanFault) → verdict_number (Err f) ≤ 8
unfolding verdict_number
fault-few (Circular b) = omega arith
fault-few (Unclosed w) = omega arith
fault-few (Unused b) = omega arith
fault-few (Repeated w) = omega arith
fault-few (Stranding w b) = omega arith

fault-fails : (f : PlanFault) → passes (Err f) ≡ false
unfolding passes verdict_number
fault-fails (Circular b) = refl
fault-fails (Unclosed w) = refl
fault-fails (Unused b) = refl
fault-fails (Repeated w) = refl
fault-fails (Stranding w b) = refl

fine-passes : passes (Ok tt) ≡ true
unfolding passes verdict_number
fine-passes = refl

module _ (most : Limits) (s : List ℕ) where
  pub judged-unread : (r : Refusal) → Refused (is_fine (sheet_within most s).judged) (judged_bits (sheet_within most s).judged) r → Refused (passes_within most s) (check_within most s) r
  unfolding check_within
  judged-unread r f = record { fails = and-no-l (is_fine (sheet_within most s).judged) _ f.fails; bits = f.bits ∙ rw f.fails refl; fits = f.fits }

  -- but for its outline
  pub sheet-told : (p : Planned) → PlanTold most s p → SheetTold most s (record { chart = p.chart; verdict = p.verdict })
  sheet-told p t = record { reads = t.reads; network = t.network; verdict = t.verdict; fits = t.fits }

  -- the 32 bits of a sheet that was read or not
  abbrev pub sheet-answer : Result Checked Fault → ℕ
  sheet-answer (Ok p) = check_bits p.verdict
  sheet-answer (Err f) = judged_bits (Err f)

  -- are the answer of check
  pub sheet-bits : (t : Result Checked Fault) → SheetRead most s t → sheet-answer t ≡ check_within most s
  unfolding check_within
  sheet-bits (Ok p) t = rw (t.reads, t.verdict) refl
  sheet-bits (Err f) u = rw u.judged refl

  module _ (p : Checked) (t : SheetTold most s p) where
    -- the fault of a plan that is read, as an answer
    pub told-refused : (f : PlanFault) → p.verdict ≡ Err f → Refused (passes_within most s) (check_within most s) (NoPlan f)
    unfolding refusal_bits refusal_place
    told-refused f e =
        let q : check (network_within most s) ≡ Err f = sym t.verdict ∙ e in
        record {
          fails = and-no-r (is_fine (sheet_within most s).judged) _ (ap passes q ∙ fault-fails f);
          bits = rw e at (sheet-bits (Ok p) t);
          fits = rw e at t.fits;
        }

    pub told-passed : (u : Unit {0}) → p.verdict ≡ Ok u → Passed (passes_within most s) (network_within most s) p.chart
    told-passed u e = record { holds = t.reads & (ap passes (sym t.verdict ∙ e) ∙ fine-passes); network = t.network }

  -- the same of a plan
  module _ (p : Planned) (t : PlanTold most s p) where
    pub fault-refused : (f : PlanFault) → p.verdict ≡ Err f → Refused (passes_within most s) (check_within most s) (NoPlan f)
    fault-refused = told-refused _ (sheet-told p t)

    pub fine-passed : (u : Unit {0}) → p.verdict ≡ Ok u → Passed (passes_within most s) (network_within most s) p.chart
    fine-passed = told-passed _ (sheet-told p t)

  -- a sheet that passes is accepted
  pub accepts : passes_within most s ≡ true → check_within most s ≡ pack 6 0 0
  unfolding check_within check_bits passes
  accepts e = rw (and_l (is_fine (sheet_within most s).judged) _ e, and_r (is_fine (sheet_within most s).judged) _ e) refl

  -- the 32 bits of what was judged
  abbrev pub judged-answer : Result Chart Refusal → ℕ
  judged-answer (Ok c) = pack 6 0 0
  judged-answer (Err r) = refusal_bits r

  -- are the answer of check
  pub bits_is : (t : Result Chart Refusal) → Judges (passes_within most s) (network_within most s) (check_within most s) t → judged-answer t ≡ check_within most s
  bits_is (Ok c) j = sym (accepts j.holds)
  bits_is (Err r) j = j.bits

-- ---- our sheet

module _ (s : List ℕ) where
  pub accepted : sheet_passes s ≡ true → check_call s ≡ pack 6 0 0
  unfolding sheet_passes
  accepted e = accepts ours s e

  pub passing-few : sheet_passes s ≡ true → ((network_in s).n ≤ 64) × ((network_in s).a ≤ 16)
  unfolding sheet_passes
  passing-few e = fine-bounds ours s (and_l (is_fine (sheet_within ours s).judged) _ e)

  module _ (bs : List ℕ) where
    pub start-refused : (r : Refusal) → Refused (sheet_passes s) (check_call s) r → Answers (start_call s bs) (Err r) × (bs ≡ start_leaves s bs)
    unfolding start_call start_leaves
    start-refused r f = (record { bits = f.bits ∙ rw f.fails refl; fits = f.fits }, rw f.fails refl)

    module _ (p : sheet_passes s ≡ true) where
      pub start-short : (length bs ≡ 65 → ⊥) → Answers (start_call s bs) (Err State) × (bs ≡ start_leaves s bs)
      unfolding start_call start_leaves refusal_bits refusal_place
      start-short h = (record { bits = rw (p, ne_eqb (length bs) 65 h) refl; fits = omega arith }, rw (p, ne_eqb (length bs) 65 h) refl)

      pub start-done : length bs ≡ 65 → (x : ℕ) → x ≡ pack 6 0 0 → (r : Run) → r ≡ start → (after : List ℕ) → after ≡ bytes_of r
          → Answers (start_call s bs) (Ok x) × (after ≡ start_leaves s bs)
      unfolding start_call start_leaves
      start-done h x q r er after ea = (record { bits = rw (p, eq-eqb (length bs) 65 h) q; fits = tt }, rw (p, eq-eqb (length bs) 65 h, ← er) ea)

    -- ---- a campaign that is taken up

    pub away : (r : Refusal) → Refused (sheet_passes s) (check_call s) r → Refused (in_order s bs) (refused_with s) r
    unfolding in_order refused_with
    away r f = record { fails = and-no-l (sheet_passes s) _ f.fails; bits = f.bits ∙ rw f.fails refl; fits = f.fits }

    module _ (p : sheet_passes s ≡ true) (c : Chart) (ec : c.network ≡ network_in s) where
      pub unsound-away : sound_bytes c.network bs ≡ false → Refused (in_order s bs) (refused_with s) State
      unfolding in_order refused_with refusal_bits refusal_place
      unsound-away f = record { fails = and-no-r (sheet_passes s) _ (rw ec at f); bits = rw p refl; fits = omega arith }

      pub taken-up : (u : Campaign) → Stood c.network bs u → TakenUp s bs u
      unfolding in_order
      taken-up u t = record { order = p & (rw ec at t.sound); size = t.size; network = t.network ∙ ec; run = t.run; standing = t.standing; way = t.way }

-- what the bytes of a state are
module _ (c : Chart) (bs : List ℕ) where
  pub short-bytes : (length bs ≡ 65 → ⊥) → sound_bytes c.network bs ≡ false
  unfolding sound_bytes
  short-bytes h = and-no-l (eqb (length bs) 65) _ (ne_eqb (length bs) 65 h)

  module _ (h : length bs ≡ 65) (r : Run) (er : r ≡ run_of bs) (t : Bool) (et : t ≡ sound c.network r) where
    sound-is : t ≡ sound c.network (run_of bs)
    sound-is = et ∙ ap (sound c.network) er

    pub unsound-bytes : t ≡ false → sound_bytes c.network bs ≡ false
    unfolding sound_bytes
    unsound-bytes f = and-no-r (eqb (length bs) 65) _ (sym sound-is ∙ f)

    pub stood : t ≡ true → (y : Standing) → y ≡ standing c.network r → Stood c.network bs (record { chart = c; run = r; standing = y })
    unfolding sound_bytes
    stood m y ey = record {
      sound = eq-eqb (length bs) 65 h & (sym sound-is ∙ m);
      size = h;
      network = refl;
      run = er;
      standing = ey;
      way = rw er (sound-way c.network (run_of bs) (sym sound-is ∙ m) c.few_ways);
    }

-- ---- a step on a campaign

-- where the sheet is refused or the state is not sound, so is the call, and it leaves the state
pub refused-asked : (s bs : List ℕ) → in_order s bs ≡ false → (q : Asked) → (refused_with s ≡ asked_call s bs q) × (bs ≡ asked_leaves s bs q)
unfolding in_order refused_with asked_call asked_leaves call_bits call_bytes
refused-asked s bs o q = elim (which (sheet_passes s)) [
  | inl p ↦ (let u : sound_bytes (network_in s) bs ≡ false = rw p at o in (rw (p, u), rw (p, u)))
  | inr p ↦ (rw p, rw p)
]

-- the bytes of a state are those of the state that they hold
pub bytes_run : (bs : List ℕ) → length bs ≡ 65 → bytes_of (run_of bs) ≡ bs
unfolding bytes_of run_of
bytes_run [] h = absurd (omega arith)
bytes_run (x ∷ xs) h = refl

module _ (s bs : List ℕ) where
  pub asked-refused : (r : Refusal) → Refused (in_order s bs) (refused_with s) r → (q : Asked) → Answers (asked_call s bs q) (Err r) × (bs ≡ asked_leaves s bs q)
  asked-refused r f q = let t = refused-asked s bs f.fails q in (record { bits = f.bits ∙ t.0; fits = f.fits }, t.1)

  module _ (c : Campaign) (t : TakenUp s bs c) where
    passing : sheet_passes s ≡ true
    unfolding in_order
    passing = and_l (sheet_passes s) _ t.order

    sound-state : sound_bytes (network_in s) bs ≡ true
    unfolding in_order
    sound-state = and_r (sheet_passes s) _ t.order

    -- the answer to a call, and what it leaves
    pub step-answers : (q : Asked) (x : ℕ) → x ≡ answer c.chart.network c.run q → x ≡ asked_call s bs q
    unfolding asked_call call_bits
    step-answers q x p = rw (passing, sound-state) (rw (t.network, t.run) at p)

    pub step-leaves : (q : Asked) (bytes : List ℕ) → bytes ≡ bytes_of (after c.chart.network c.run q) → bytes ≡ asked_leaves s bs q
    unfolding asked_leaves call_bytes
    step-leaves q bytes w = rw (passing, sound-state) (rw (t.network, t.run) at w)

-- ---- a reply

left-by : (g : Network) (r : Run) (l b : ℕ) {t : Replied} → ReplyCase g r l b t → t.taken ≡ false → t.run ≡ r
left-by g r l b misfit n = refl
left-by g r l b (confirmed h m e) n = clash true refl n
left-by g r l b (refused h m e z) n = clash true refl n
left-by g r l b (again h m e z) n = clash true refl n
left-by g r l b (returned h m e) n = clash true refl n
left-by g r l b (kept h m e) n = clash true refl n

-- one that does not fit changes nothing
left-run : (g : Network) (r : Run) (l b : ℕ) → (reply_to g r l b).taken ≡ false → (reply_to g r l b).run ≡ r
unfolding reply_to
left-run g r l zero n = refl
left-run g r l (suc b) n = left-by g r l b (reply-case g r l b) n

kept-some : (k : Bool) (u r : Run) → Some u ≡ cond k (Some r) None → (k ≡ true) × (u ≡ r)
kept-some true u r e = (refl, cc)
kept-some false u r e = absurd (cc)

kept-none : (k : Bool) (r : Run) → None ≡ cond k (Some r) None → k ≡ false
kept-none true r e = absurd (cc)
kept-none false r e = refl

module _ (s bs : List ℕ) (c : Campaign) (t : TakenUp s bs c) (l b : ℕ) where
  -- it fits
  module _ (u : Run) (e : Some u ≡ kept_of (reply_to c.chart.network c.run l b)) where
    pub reply-small : b < 65536
    reply-small = taken-small c.chart.network c.run l b _ c.chart.few_bookings refl (kept-some _ u _ e).0

    pub reply-done : (x : ℕ) → x ≡ pack 6 0 b → (bytes : List ℕ) → bytes ≡ bytes_of u → Answers (asked_call s bs (replied l b)) (Ok x) × (bytes ≡ asked_leaves s bs (replied l b))
    unfolding answer after reply_bits
    reply-done x p bytes w =
        let k = kept-some _ u _ e in
        (record { bits = step-answers s bs c t (replied l b) x (p ∙ rw k.0 refl); fits = tt }, step-leaves s bs c t (replied l b) bytes (w ∙ ap bytes_of k.1))

  -- it does not
  pub reply-refused : None ≡ kept_of (reply_to c.chart.network c.run l b) → Answers (asked_call s bs (replied l b)) (Err (Reply b)) × (bs ≡ asked_leaves s bs (replied l b))
  unfolding answer after reply_bits refusal_bits refusal_place
  reply-refused e =
      let k = kept-none _ _ e in (
        record { bits = step-answers s bs c t (replied l b) _ (rw k refl); fits = omega (arith, small-9 b) },
        step-leaves s bs c t (replied l b) bs (sym (bytes_run bs t.size) ∙ ap bytes_of (sym t.run ∙ sym (left-run c.chart.network c.run l b k))),
      )
