-- The whole campaign: for every network that passes and every list of calls from the start.
-- Assumes nothing.
use mathlib.Core.Path.{◌≡◌, refl, sym, ap, ◌∙◌}
use mathlib.Core.Logic.{◌⊎◌, inl, inr}
use mathlib.Core.Bool.{true, false}
use mathlib.Core.List.{List, [], ◌∷◌}
use Prim.Native.Nat.{ℕ, suc, ◌+◌, ◌*◌, ◌≤◌, ◌<◌}
use native.Mathlib.Omega.{arith}
use lib.Dec.{eqb}
use lib.Bits.{bit_and}
use lib.ListN.{get_or}
use borrow.Author.Tests.{eqb-true, ltb-true}
use Rattle.bounded.specs.Bounded.{one}
use Rattle.bounded.proofs.Bools.{or_cases, and_l, and_r}
use Rattle.bounded.proofs.Sums.{count-mono, count-upto}
use Rattle.sets.specs.Sets.{member, size_of}
use Rattle.sets.proofs.Facts.{both-i}
use Rattle.desks.specs.Desks.{open_at}
use Rattle.network.specs.Network.{in_way, firm, desk_of}
use Rattle.network.specs.declared.Network.{Network}
use Rattle.verdict.proofs.Facts.{Passes}
use Rattle.network.proofs.Facts.{no_way}
use Rattle.standing.specs.Standing.{requested, returning, matters}
use Rattle.run.specs.State.{code, standing, start}
use Rattle.run.specs.Orders.{next}
use Rattle.run.specs.declared.Run.{Run}
use Rattle.run.proofs.Facts.{Sound, matter-i}
use Rattle.run.proofs.Cases.{Done, next-case}
use Rattle.guarantee.specs.Answers.{kind_of, place_of, order_bits}
use Rattle.guarantee.specs.Machine.{Asked, next_order, answer, after, machine_answers, final}
use Rattle.guarantee.specs.Calls.{call_bits, answers_to, order_after}
use Rattle.guarantee.specs.Counted.{ends, confirmed, returned, ordered, answered, event, again, tally, outstanding, open_here, open_matters}
use Rattle.guarantee.specs.Demand.{Settled, Kept, Undone, Demand3, SemiAtomic, one_way, no_effect}
use Rattle.guarantee.specs.Guarantee.{Guarantee}
use Rattle.guarantee.proofs.Start.{all-free, start-sound}
use Rattle.guarantee.proofs.Potential.{potential, potential-start}
use Rattle.guarantee.proofs.Moved.{hold, awaits, moved}
use Rattle.guarantee.proofs.Ends.{Decided, awaited, goes, flown-e, off-e, ended, decided}
use Rattle.guarantee.proofs.Bytes.{call-bits, calls-answers, calls-states, calls-left}

-- ---- what a list of calls does, from any sound state

pub record Travelled (g : Network) (r : Run) (qs : List Asked) (xs : List ℕ) (t : Run) : Type 0 where
  pub sound : Sound g t
  pub holds : (b : ℕ) → tally (confirmed (suc b)) qs xs + hold (code r b) ≡ tally (returned (suc b)) qs xs + hold (code t b)
  pub opens : (b : ℕ) → tally (ordered (suc b)) qs xs + awaits (code r b) ≡ tally (answered (suc b)) qs xs + awaits (code t b)
  pub firms : (b : ℕ) → firm g b ≡ true → tally (returned (suc b)) qs xs ≡ 0
  pub cost : tally event qs xs + potential g t ≤ potential g r + 2 * tally (again g) qs xs

pub travel : (g : Network) → Passes g → (r : Run) → Sound g r → (qs : List Asked) → Travelled g r qs (machine_answers g r qs) (final g r qs)
unfolding machine_answers final tally
travel g ok r s [] = record { sound = s; holds = λ b. refl; opens = λ b. refl; firms = λ b z. refl; cost = omega arith }
travel g ok r s (q ∷ qs) =
    let m = moved g ok r s q in
    let t = travel g ok (after g r q) m.sound qs in
    record {
      sound = t.sound;
      holds = λ b. omega (arith, m.holds b, t.holds b);
      opens = λ b. omega (arith, m.opens b, t.opens b);
      firms = λ b z. omega (arith, m.firms b z, t.firms b z);
      cost = omega (arith, m.cost, t.cost);
    }

-- ---- from the start: xs are the answers, and t is the state after them

module _ (g : Network) (ok : Passes g) (qs : List Asked) (xs : List ℕ) (t : Run) (k : Travelled g start qs xs t) where
  balance : (b : ℕ) → tally (confirmed (suc b)) qs xs ≡ tally (returned (suc b)) qs xs + hold (code t b)
  balance b = omega (arith, k.holds b, ap hold (all-free b))

  unanswered : (b : ℕ) → tally (ordered (suc b)) qs xs ≡ tally (answered (suc b)) qs xs + awaits (code t b)
  unanswered b = omega (arith, k.opens b, ap awaits (all-free b))

  settled : Decided t → Settled qs xs
  settled d b = omega (arith, unanswered b, d b)

  undone : Done g t → (b : ℕ) → in_way g t.way b ≡ false → Undone qs xs (suc b)
  undone d b o = omega (arith, balance b, ended g ok t k.sound d b, ap one o)

  kept : Done g t → (b : ℕ) → in_way g t.way b ≡ true → Kept qs xs (suc b)
  kept d b i = omega (arith, balance b, ended g ok t k.sound d b, ap one i)

  nowhere : t.way ≡ 0 → (b : ℕ) → in_way g t.way b ≡ false
  nowhere e b = ap (λ (w : ℕ). in_way g w b) e ∙ no_way g b

  -- what is outstanding is requested or returning
  open-now : (b : ℕ) → outstanding qs xs (suc b) ≡ true → (code t b ≡ requested) ⊎ (code t b ≡ returning)
  unfolding outstanding
  open-now b e = awaited (code t b) (k.sound.core.codes b) (omega (arith, ltb-true (tally (answered (suc b)) qs xs) (tally (ordered (suc b)) qs xs) e, unanswered b))

  desk-limits : (d : ℕ) → d < 8 → open_matters g qs xs d ≤ g.limit
  unfolding open_matters open_here open_at size_of desk_of
  desk-limits d h =
      let m = matters (standing g t) in
      let fewer = count-mono (open_here g qs xs d) (member (bit_and (get_or g.desk d 0) m)) g.n (λ b l e.
      both-i (get_or g.desk d 0) m b (and_l (member (get_or g.desk d 0) b) _ e) (matter-i g t b l (open-now b (and_r (member (get_or g.desk d 0) b) _ e)))) in
      omega (arith, fewer, count-upto (member (bit_and (get_or g.desk d 0) m)) g.n 64 ok.shape.bookings, k.sound.core.desks d h)

  demanded : Demand3 g qs xs (order_bits (next g t).order)
  demanded =
      let n = next-case g t in
      record {
        goes_on = λ d. goes g ok t k.sound (λ b. omega (arith, unanswered b, d b)) n;
        flown = λ e.
            let f = flown-e g ok t k.sound n e in
            let w : place_of (order_bits (next g t).order) ≡ t.way = f.2 in (
              omega (arith, f.1),
              omega (arith, k.sound.core.way),
              (λ b i. kept f.0 b (ap (λ (w : ℕ). in_way g w b) (sym w) ∙ i)),
              (λ b o. undone f.0 b (ap (λ (w : ℕ). in_way g w b) (sym w) ∙ o)),
            );
        called_off = λ e b.
            let f = off-e g ok t k.sound n e in
            let u = undone f.0 b (nowhere f.1 b) in
            (u, λ z. omega (arith, u, k.firms b z));
        bound = omega (arith, k.cost, potential-start g ok);
        desks = desk-limits;
      }

  semi : ends (order_bits (next g t).order) ≡ true → SemiAtomic g qs xs
  unfolding ends
  semi e =
      let n = next-case g t in
      let x = order_bits (next g t).order in
      elim (or_cases (eqb (kind_of x) 4) (eqb (kind_of x) 5) e) [
        | inl z ↦ (let f = flown-e g ok t k.sound n (eqb-true _ _ z) in
            one_way (settled (decided g ok t k.sound f.0)) t.way (omega (arith, f.1)) k.sound.core.way (kept f.0) (undone f.0))
        | inr z ↦ (let f = off-e g ok t k.sound n (eqb-true _ _ z) in
            no_effect (settled (decided g ok t k.sound f.0)) (λ b. undone f.0 b (nowhere f.1 b)))
      ]

-- ---- the guarantee

pub whole-campaign : (g : Network) → Passes g → (qs : List Asked) → Guarantee g qs
unfolding answers_to order_after answer
whole-campaign g ok qs =
    let s = start-sound g ok in
    let k = travel g ok start s qs in
    let t = final g start qs in
    let xs : answers_to g qs ≡ machine_answers g start qs = calls-answers g ok start s qs in
    let x : order_after g qs ≡ order_bits (next g t).order =
    ap (λ (bs : List ℕ). call_bits g bs next_order) (calls-left g ok start s qs) ∙ call-bits g ok t k.sound next_order in
    record {
      bits = xs;
      bytes = calls-states g ok start s qs;
      demand_3 = rw (xs, x) (demanded g ok qs (machine_answers g start qs) t k);
      semi_atomic = rw (xs, x) (semi g ok qs (machine_answers g start qs) t k);
    }
