-- What the reader of a sheet has in hand at each of its returns: what it tells, and the links in the lent arrays.
-- Assumes nothing.
use Prim.Native.Nat.{ℕ, ◌+◌}
use mathlib.Core.Path.{◌≡◌, refl}
use mathlib.Core.Logic.{inl, inr}
use mathlib.Core.List.{List}
use mathlib.Core.Bool.{true, false, cond}
use lib.ListN.{length, take, drop}
use lib.Dec.{eqb}
use borrow.Author.Tests.{eq-eqb, ne_eqb}
use Rattle.std.specs.Prelude.{Result, Ok, Err}
use Rattle.bounded.proofs.Bools.{which, clash}
use Rattle.plan.specs.Judging.{Judged, is_fine}
use Rattle.plan.specs.Outline.{outline_of, plan_of}
use Rattle.plan.specs.declared.Fault.{Fault}
use Rattle.plan.specs.declared.Fault.TheVariants.{Form}
use Rattle.plan.specs.declared.Limits.{Limits}
use Rattle.plan.specs.declared.Outline.{Outline}
use Rattle.plan.specs.declared.Plan.{Plan}
use Rattle.lines.specs.Form.{head_bytes, links_place, ways_place}
use Rattle.lines.specs.Head.{head_of}
use Rattle.plan.specs.Links.{no_links}
use Rattle.lines.specs.HeadFault.{head_fault_of}
use Rattle.lines.specs.Links.{Links, links_of}
use Rattle.lines.specs.declared.Counts.{Counts}
use Rattle.lines.specs.declared.HeadFault.{HeadFault}
use Rattle.ways.specs.Ways.{ways_of, no_ways}
use Rattle.ways.specs.declared.Ways.{Ways}
use Rattle.sheet.specs.Sheet.{Sheet, bookings_in, links_in, ways_in, plan_in, refused_of, end_of, body_of, after_head, sheet_within, plan_read}
use Rattle.sheet.specs.Outlined.{outlined_of, none_read, body_links, links_after, links_read}

-- ---- the links and the ways, read where they begin

pub links-there : (n m at : ℕ) (s : List ℕ) → at ≡ links_place n → links_of n m 0 (drop at s) 0 0 no_links no_links ≡ links_in n m s
unfolding links_in
links-there n m at s e = rw e

pub ways-there : (n m a at : ℕ) (s : List ℕ) (w : Ways) → at ≡ ways_place n m → w ≡ ways_of n (n + m + 2) a 0 at (drop at s) no_ways → w ≡ ways_in n m a s
unfolding ways_in
ways-there n m a at s w e f = rw e at f

-- ---- the lines after the head

-- what is told of a sheet, and the links that were read
abbrev pub Out : Sheet → Links → Result Outline Fault → List ℕ → List ℕ → Type 0
Out t l r us vs = (r ≡ outlined_of t) × ((us ≡ l.from) × (vs ≡ l.to))

module _ (n m a limit : ℕ) (s : List ℕ) where
  pub bookings-refused : (f : Fault) → (bookings_in n s).judged ≡ Err f → Out (body_of n m a limit s) (body_links n m s) (Err f) no_links no_links
  unfolding body_of body_links none_read refused_of
  bookings-refused f e = rw e (refl, (refl, refl))

  module _ (b : (bookings_in n s).judged ≡ Ok tt) where
    pub links-refused : (f : Fault) → (links_in n m s).judged ≡ Err f → Out (body_of n m a limit s) (body_links n m s) (Err f) (links_in n m s).from (links_in n m s).to
    unfolding body_of body_links refused_of
    links-refused f e = rw (b, e) (refl, (refl, refl))

    module _ (l : (links_in n m s).judged ≡ Ok tt) where
      pub ways-refused : (f : Fault) → (ways_in n m a s).judged ≡ Err f → Out (body_of n m a limit s) (body_links n m s) (Err f) (links_in n m s).from (links_in n m s).to
      unfolding body_of body_links refused_of
      ways-refused f e = rw (b, l, e) (refl, (refl, refl))

      module _ (w : (ways_in n m a s).judged ≡ Ok tt) where
        pub bytes-remain : ((ways_in n m a s).next ≡ length s → ⊥) → Out (body_of n m a limit s) (body_links n m s) (Err (Form (n + m + a + 2))) (links_in n m s).from (links_in n m s).to
        unfolding body_of end_of body_links refused_of
        bytes-remain h = rw (b, l, w, ne_eqb _ _ h) (refl, (refl, refl))

        pub all_read : (ways_in n m a s).next ≡ length s
            → Out (body_of n m a limit s) (body_links n m s) (Ok (outline_of (plan_in n m a limit s))) (links_in n m s).from (links_in n m s).to
        unfolding body_of end_of body_links
        all_read h = rw (b, l, w, eq-eqb _ _ h) (refl, (refl, refl))

-- ---- the head

module _ (most : Limits) (s : List ℕ) where
  -- it is refused
  pub head-refused : (f : HeadFault) → Err f ≡ head_of most (take head_bytes s) → Out (sheet_within most s) (links_read most s) (Err (head_fault_of f)) no_links no_links
  unfolding sheet_within links_read refused_of none_read
  head-refused f e = rw (← e) (refl, (refl, refl))

  pub head-right : (c : Counts) → Ok c ≡ head_of most (take head_bytes s) → (us vs : List ℕ) (r : Result Outline Fault)
      → Out (body_of c.bookings c.links c.ways c.limit s) (body_links c.bookings c.links s) r us vs → Out (sheet_within most s) (links_read most s) r us vs
  unfolding sheet_within links_read
  head-right c e us vs r o = rw (← e) o

-- ---- the whole sheet

-- a sheet is refused, and then its plan is empty; or it is fine, and the links of its plan are those that were read
data Reading : Sheet → Links → Type 0 where
  refuses : (j : Judged) (l : Links) → is_fine j ≡ false → Reading (refused_of j) l
  reads : (p : Plan) (l : Links) → p.from ≡ l.from → p.to ≡ l.to → Reading (record { judged = Ok tt; plan = p }) l

-- on past lines that are fine
past-reads : (j : Judged) (t : Sheet) (l l' : Links) → Reading t l → Reading (cond (is_fine j) t (refused_of j)) (cond (is_fine j) l l')
past-reads j t l l' r = elim (which (is_fine j)) [
  | inl e ↦ rw e r
  | inr e ↦ rw e (refuses j l' e)
]

past_same : (j : Judged) (t : Sheet) (l : Links) → Reading t l → Reading (cond (is_fine j) t (refused_of j)) l
past_same j t l r = elim (which (is_fine j)) [
  | inl e ↦ rw e r
  | inr e ↦ rw e (refuses j l e)
]

end_reads : (n m a limit : ℕ) (s : List ℕ) → Reading (end_of n m a limit s) (links_in n m s)
unfolding end_of plan_in
end_reads n m a limit s = elim (which (eqb (ways_in n m a s).next (length s))) [
  | inl e ↦ rw e (reads _ (links_in n m s) refl refl)
  | inr e ↦ rw e (refuses (Err (Form (n + m + a + 2))) (links_in n m s) refl)
]

reading : (most : Limits) (s : List ℕ) → Reading (sheet_within most s) (links_read most s)
unfolding sheet_within links_read body_of body_links
reading most s = go (head_of most (take head_bytes s))
  where
    go : (h : Result Counts HeadFault) → Reading (after_head h s) (links_after h s)
    go (Ok c) =
        past-reads (bookings_in c.bookings s).judged _ (links_in c.bookings c.links s) none_read
        (past_same (links_in c.bookings c.links s).judged _ (links_in c.bookings c.links s)
        (past_same (ways_in c.bookings c.links c.ways s).judged (end_of c.bookings c.links c.ways c.limit s) (links_in c.bookings c.links s) (end_reads c.bookings c.links c.ways c.limit s)))
    go (Err f) = refuses (Err (head_fault_of f)) none_read refl

-- a fine sheet's plan is its outline with the links that were read
plan-reads : (t : Sheet) (l : Links) → Reading t l → (o : Outline) → Ok o ≡ outlined_of t → Ok (plan_of o l.from l.to) ≡ plan_read t
unfolding refused_of
plan-reads t l (refuses (Ok u) k n) o f = clash true refl n
plan-reads t l (refuses (Err e) k n) o f = clash true refl (cc)
plan-reads t l (reads p k u v) o f =
    let e : o ≡ outline_of p = cc in
    rw (e, ← u, ← v)

pub read-fine : (most : Limits) (s : List ℕ) (o : Outline) → Ok o ≡ outlined_of (sheet_within most s) → Ok (plan_of o (links_read most s).from (links_read most s).to) ≡ plan_read (sheet_within most s)
read-fine most s o f = plan-reads (sheet_within most s) (links_read most s) (reading most s) o f

-- the same of a sheet that is fine, as a whole
plan-whole : (t : Sheet) (l : Links) → Reading t l → is_fine t.judged ≡ true → ◌≡◌ {A = Sheet} (record { judged = Ok tt; plan = plan_of (outline_of t.plan) l.from l.to }) t
unfolding refused_of
plan-whole t l (refuses j k n) f = clash (is_fine j) f n
plan-whole t l (reads p k u v) f = rw (← u, ← v)

pub read-whole : (most : Limits) (s : List ℕ) → is_fine (sheet_within most s).judged ≡ true
    → ◌≡◌ {A = Sheet} (record { judged = Ok tt; plan = plan_of (outline_of (sheet_within most s).plan) (links_read most s).from (links_read most s).to }) (sheet_within most s)
read-whole most s f = plan-whole (sheet_within most s) (links_read most s) (reading most s) f

-- a refused sheet is the one without a plan
plan-empty : (t : Sheet) (l : Links) → Reading t l → is_fine t.judged ≡ false → refused_of t.judged ≡ t
unfolding refused_of
plan-empty t l (refuses j k n) f = refl
plan-empty t l (reads p k u v) f = clash true refl f

pub read-refused : (most : Limits) (s : List ℕ) → is_fine (sheet_within most s).judged ≡ false → refused_of (sheet_within most s).judged ≡ sheet_within most s
read-refused most s f = plan-empty (sheet_within most s) (links_read most s) (reading most s) f
