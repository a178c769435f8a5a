-- A record without refusals 2 and 3, as facts: what the record's test gives, and what gives the test.
-- Assumes nothing.
use mathlib.Core.Path.{◌≡◌, refl, sym, ◌∙◌}
use mathlib.Core.Logic.{◌⊎◌, inl}
use mathlib.Core.Bool.{Bool, true, false, ◌&&◌, cond}
use mathlib.Core.List.{◌∷◌}
use Prim.Native.Nat.{ℕ, zero, suc, ◌+◌, ◌^◌, ◌≤◌, ◌<◌}
use native.Mathlib.Omega.{arith}
use native.Mathlib.Numerals.{add-one}
use lib.ListN.{get_or}
use borrow.Author.Tests.{ltb-true, lt-ltb}
use Rattle.bounded.specs.Bounded.{all}
use Rattle.bounded.proofs.Bools.{clash, and_l, and_r, ◌&◌}
use Rattle.bounded.proofs.Tests.{all-i, all-e}
use Rattle.sets.specs.Sets.{size_of}
use Rattle.sets.proofs.Gather.{size-le}
use Rattle.plan.specs.Limits.{most_desks, is_kind, is_desk, ours, counted, limits}
use Rattle.plan.specs.Record.{booking_at, link_at, count_at, within_at, counts_fit, entries_fit, record_of}
use Rattle.plan.specs.declared.Plan.{Plan}
use Rattle.std.specs.Prelude.{⊤, Result, Ok, Err}
use Rattle.plan.specs.declared.RecordFault.TheVariants.{Count, Sequence}
use Rattle.plan.specs.declared.RecordFault.{RecordFault}
use Rattle.plan.proofs.LimitLaws.{Limited, limited-i, within-lo, within-i, desk-known, Sequenced, sequenced, sequence-i}
use Rattle.plan.proofs.RecordLaws.{fit_limited}

pub record Valid (p : Plan) : Type 0 where
  pub counts : Limited p.n p.m p.a p.limit
  pub kinds : (b : ℕ) → b < p.n → is_kind (get_or p.kind b 0) ≡ true
  pub desks : (b : ℕ) → b < p.n → (1 ≤ get_or p.desk b 0) × (get_or p.desk b 0 ≤ most_desks)
  pub starts : (i : ℕ) → i < p.m → (1 ≤ get_or p.from i 0) × (get_or p.from i 0 ≤ p.n)
  pub ends : (i : ℕ) → i < p.m → (1 ≤ get_or p.to i 0) × (get_or p.to i 0 ≤ p.n)
  pub rising : (i : ℕ) → i + 1 < p.m
      → (get_or p.from i 0 < get_or p.from (i + 1) 0) ⊎ ((get_or p.from i 0 ≡ get_or p.from (i + 1) 0) × (get_or p.to i 0 < get_or p.to (i + 1) 0))
  pub sets : (k : ℕ) → k < p.a → get_or p.way k 0 < 2 ^ p.n
  pub taken : (k : ℕ) → k < p.a → 1 ≤ size_of (get_or p.way k 0)

-- ---- from the test to the facts

fine-counts : (p : Plan) → record_of p ≡ Ok tt → counts_fit p ≡ true
unfolding record_of
fine-counts p = go (counts_fit p)
  where
    go : (x : Bool) → ◌≡◌ {A = Result ⊤ RecordFault} (cond x (cond (entries_fit p) (Ok tt) (Err Sequence)) (Err Count)) (Ok tt) → x ≡ true
    go true e = refl
    go false e = cc

pub fine-entries : (p : Plan) → record_of p ≡ Ok tt → entries_fit p ≡ true
unfolding record_of
fine-entries p = go (counts_fit p) (entries_fit p)
  where
    go : (x y : Bool) → ◌≡◌ {A = Result ⊤ RecordFault} (cond x (cond y (Ok tt) (Err Sequence)) (Err Count)) (Ok tt) → y ≡ true
    go true true e = refl
    go true false e = cc
    go false y e = clash true refl (cc)

module _ (p : Plan) (e : entries_fit p ≡ true) where
  pub booking-fits : (b : ℕ) → b < p.n → booking_at p.kind p.desk b ≡ true
  unfolding entries_fit
  booking-fits = all-e (booking_at p.kind p.desk) p.n (and_l (all (booking_at p.kind p.desk) p.n) _ e)

  others-fit : all (link_at p.n p.from p.to) p.m && all (within_at p.n p.way) p.a ≡ true
  unfolding entries_fit
  others-fit = and_r (all (booking_at p.kind p.desk) p.n) _ e

  pub link_fits : (i : ℕ) → i < p.m → link_at p.n p.from p.to i ≡ true
  link_fits = all-e (link_at p.n p.from p.to) p.m (and_l (all (link_at p.n p.from p.to) p.m) _ others-fit)

  way-fits : (k : ℕ) → k < p.a → within_at p.n p.way k ≡ true
  way-fits = all-e (within_at p.n p.way) p.a (and_r (all (link_at p.n p.from p.to) p.m) _ others-fit)

module _ (p : Plan) (c : counts_fit p ≡ true) (e : entries_fit p ≡ true) where
  link-fact : (i : ℕ) → i < p.m → Sequenced p.n (get_or (0 ∷ p.from) i 0) (get_or (0 ∷ p.to) i 0) (get_or p.from i 0) (get_or p.to i 0)
  unfolding link_at
  link-fact i h = sequenced p.n _ _ _ _ (link_fits p e i h)

  count_fits : (k : ℕ) → k < p.a → count_at p.n p.way k ≡ true
  unfolding counts_fit
  count_fits = all-e (count_at p.n p.way) p.a (and_r (limits p.n p.m p.a p.limit) _ c)

  facts : Valid p
  unfolding booking_at within_at count_at
  facts = record {
    counts = fit_limited p c;
    kinds = λ b h. and_l (is_kind (get_or p.kind b 0)) _ (booking-fits p e b h);
    desks = λ b h. desk-known (get_or p.desk b 0) (and_r (is_kind (get_or p.kind b 0)) _ (booking-fits p e b h));
    starts = λ i h. (link-fact i h).start;
    ends = λ i h. (link-fact i h).end;
    rising = λ i h. rw add-one (link-fact (suc i) (omega arith)).rising;
    sets = λ k h. ltb-true (get_or p.way k 0) (2 ^ p.n) (way-fits p e k h);
    taken = λ k h. within-lo 1 (size_of (get_or p.way k 0)) p.n (count_fits k h);
  }

pub valid : (p : Plan) → record_of p ≡ Ok tt → Valid p
valid p e = facts p (fine-counts p e) (fine-entries p e)

-- so we take it
pub fine-counted : (p : Plan) → record_of p ≡ Ok tt → counted ours p.n p.m p.a ≡ true
unfolding limits
fine-counted p e = let l = (valid p e).counts in and_l (counted ours p.n p.m p.a) _ (limited-i p.n p.m p.a p.limit l)

-- the counts of a record that was judged fine
pub fine-limited : (p : Plan) (r : Result ⊤ RecordFault) → r ≡ record_of p → r ≡ Ok tt → Limited p.n p.m p.a p.limit
fine-limited p r e g = (valid p (sym e ∙ g)).counts

-- ---- and back

module _ (p : Plan) (l : Limited p.n p.m p.a p.limit) (bookings : (b : ℕ) → b < p.n → booking_at p.kind p.desk b ≡ true)
    (links : (i : ℕ) → i < p.m → link_at p.n p.from p.to i ≡ true) (sets : (k : ℕ) → k < p.a → get_or p.way k 0 < 2 ^ p.n)
    (taken : (k : ℕ) → k < p.a → 1 ≤ size_of (get_or p.way k 0)) where
  counts-fit : counts_fit p ≡ true
  unfolding counts_fit count_at
  counts-fit =
      limited-i p.n p.m p.a p.limit l
      & all-i (count_at p.n p.way) p.a
      (λ k h. within-i 1 (size_of (get_or p.way k 0)) p.n (taken k h) (size-le p.n (get_or p.way k 0) l.bookings (sets k h)))

  entries_fit_lem : entries_fit p ≡ true
  unfolding entries_fit within_at
  entries_fit_lem =
      all-i (booking_at p.kind p.desk) p.n bookings
      & all-i (link_at p.n p.from p.to) p.m links
      & all-i (within_at p.n p.way) p.a (λ k h. lt-ltb (get_or p.way k 0) (2 ^ p.n) (sets k h))

  pub fine-i : record_of p ≡ Ok tt
  unfolding record_of
  fine-i = rw (counts-fit, entries_fit_lem)

module _ (p : Plan) (v : Valid p) where
  links-fit : (i : ℕ) → i < p.m → link_at p.n p.from p.to i ≡ true
  unfolding link_at
  links-fit zero h = sequence-i p.n 0 0 _ _ (v.starts 0 h) (v.ends 0 h) (inl (v.starts 0 h).0)
  links-fit (suc i) h = sequence-i p.n _ _ _ _ (v.starts (suc i) h) (v.ends (suc i) h) (rw (add-one i) at (v.rising i (omega arith)))

  -- facts that hold of a record make it fine
  pub valid-fine : record_of p ≡ Ok tt
  unfolding booking_at is_desk
  valid-fine =
      fine-i p v.counts (λ b h. v.kinds b h & within-i 1 (get_or p.desk b 0) most_desks (v.desks b h).0 (v.desks b h).1) links-fit v.sets v.taken
