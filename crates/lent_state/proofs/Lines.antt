-- Taking lines: what comes of one, and that what is left of the lines gives the whole answer.
-- Assumes nothing.
use mathlib.Core.Path.{◌≡◌, refl, sym, ap, ◌∙◌}
use mathlib.Core.Logic.{inl, inr}
use mathlib.Core.Bool.{Bool, true, false, ◌&&◌, cond}
use mathlib.Core.List.{List, [], ◌∷◌}
use Prim.Native.Nat.{ℕ, ◌+◌, ◌*◌, ◌≤◌}
use native.Mathlib.Omega.{arith}
use lib.ListN.{length}
use Rattle.bounded.proofs.Bools.{which, by_cond}
use Rattle.network.specs.declared.Network.{Network}
use Rattle.standing.specs.declared.Standing.{Standing}
use Rattle.run.specs.State.{standing}
use Rattle.run.specs.Bytes.{bytes_of, run_of}
use Rattle.run.specs.Orders.{next}
use Rattle.run.specs.Replies.{misfits, Replied}
use Rattle.run.specs.declared.Run.{Run}
use Rattle.guarantee.specs.Machine.{reply_to}
use Rattle.std.specs.Prelude.{Option, Some, None, Result, Ok, Err, IsErrAnd}
use Rattle.event_lines.specs.Line.{is_order}
use Rattle.event_lines.specs.declared.Event.{Event}
use Rattle.journal.specs.Reading.{journal_lines}
use Rattle.journal.proofs.LineLaws.{journal-length}
use Rattle.std.specs.Option.{ok_or}
use Rattle.lent_state.specs.Codes.{stood_by}
use Rattle.lent_state.specs.declared.LineFault.TheVariants.{Misformed, Unfit}
use Rattle.lent_state.specs.Due.{order_taken, took, order_line}
use Rattle.lent_state.specs.Lines.{line_by, line_fault, line_told, Lines, taken_from, taken_of}
use Rattle.lent_state.specs.Stands.{Stands}
use Rattle.lent_state.specs.declared.LineFault.{LineFault}
use Rattle.lent_state.proofs.Bytes.{bytes_run, held_run, codes-size, bytes-size}
use Rattle.lent_state.proofs.Due.{sent}
use Rattle.lent_state.proofs.Limits.{order-few, numbered-few, order-size, numbered-size, took-off, took-taken, misfit-stays}

-- ---- one line

module _ (orders : Bool) (g : Network) (r : Run) where
  -- one that is not taken leaves the state
  pub line_stays : (line : Option Event) → (line_by orders g r line).taken ≡ false → (line_by orders g r line).run ≡ r
  unfolding line_by order_line
  line_stays (Some e) n = let t = order_taken (next g r) e.letter e.booking in elim (which (orders && is_order e.letter)) [
    | inl z ↦ (let m : t.taken ≡ false = sym (took-taken r t) ∙ rw z at n in rw z (ap (λ (u : Replied). u.run) (took-off r t m)))
    | inr z ↦ rw z (misfit-stays g r e.letter e.booking (rw z at n))
  ]
  line_stays None n = refl

  -- what every line keeps
  keeps : (P : Run → Type 0) → P r → P (order_taken (next g r) 0 0).run → ((l b : ℕ) → P (reply_to g r l b).run) → (line : Option Event) → P (line_by orders g r line).run
  unfolding line_by order_line order_taken took
  keeps P p q f (Some e) =
      let t = order_taken (next g r) e.letter e.booking in
      by_cond (λ (t : Replied). P t.run) {t = orders && is_order e.letter} {a = order_line g r e.letter e.booking} {b = reply_to g r e.letter e.booking}
      (λ z. by_cond (λ (t : Replied). P t.run) {t = t.taken} {a = t} {b = misfits r} (λ z. q) (λ z. p)) (λ z. f e.letter e.booking)
  keeps P p q f None = p

  -- the way's limit, and 64 codes
  pub line-few : g.a ≤ 16 → r.way ≤ 16 → (line : Option Event) → (line_by orders g r line).run.way ≤ 16
  unfolding order_taken
  line-few few h = keeps (λ (t : Run). t.way ≤ 16) h (order-few g few r h (sent g r)) (numbered-few g few r h)

  pub line-size : length r.code ≡ 64 → (line : Option Event) → length (line_by orders g r line).run.code ≡ 64
  unfolding order_taken
  line-size h = keeps (λ (t : Run). length t.code ≡ 64) h (order-size g r h (sent g r)) (numbered-size g r h)

-- ---- taking them one after the other

-- lines leave 64 codes
pub taken-size : (orders : Bool) (k : ℕ) (g : Network) (r : Run) (lines : List (Option Event)) → length r.code ≡ 64 → length (taken_from orders k g r lines).run.code ≡ 64
unfolding taken_from
taken-size orders k g r [] h = h
taken-size orders k g r (line ∷ rest) h = elim (which (line_by orders g r line).taken) [
  | inl e ↦ rw e (taken-size orders (k + 1) g (line_by orders g r line).run rest (line-size orders g r h line))
  | inr e ↦ rw e h
]

-- what is told of a line
pub event-told : (orders : Bool) (g : Network) (r : Run) (e : Event) → ok_or (stood_by g (line_by orders g r (Some e))) Unfit ≡ line_told orders g r (Some e)
unfolding stood_by line_told line_fault
event-told orders g r e = go (line_by orders g r (Some e)).taken
  where
    go : (b : Bool) → ok_or (cond b (Some (standing g (line_by orders g r (Some e)).run)) None) Unfit ≡ cond b (Ok (standing g (line_by orders g r (Some e)).run)) (Err Unfit)
    go true = refl
    go false = refl

-- whether a line has an event
pub has_event : (line : Option Event) (f : LineFault) (e : Event) → Ok e ≡ ok_or line f → line ≡ Some e
has_event (Some x) f e p = cc
has_event None f e p = absurd (cc)

pub no_event : (line : Option Event) (f x : LineFault) → Err x ≡ ok_or line f → (line ≡ None) × (x ≡ f)
no_event (Some y) f x p = absurd (cc)
no_event None f x p = (refl, cc)

-- and what is told where it has none
pub told-misformed : (orders : Bool) (g : Network) (r : Run) (line : Option Event) (x : LineFault) → Err x ≡ ok_or line Misformed
    → (t : Result Standing LineFault) → IsErrAnd t (λ e. e ≡ x) → t ≡ line_told orders g r line
unfolding line_told line_by line_fault
told-misformed orders g r line x p (Ok s) h = absurd h
told-misformed orders g r line x p (Err e) h = let n = no_event line Misformed x p in rw (n.0, h, n.1) refl

-- what was told of a line
pub told-on : (orders : Bool) (g : Network) (r : Run) (line : Option Event) (s : Standing) → Ok s ≡ line_told orders g r line → ((line_by orders g r line).taken ≡ true) × (s ≡ standing g (line_by orders g r line).run)
unfolding line_told
told-on orders g r line s = go (line_by orders g r line)
  where
    go : (t : Replied) → Ok s ≡ cond t.taken (Ok (standing g t.run)) (Err (line_fault line)) → (t.taken ≡ true) × (s ≡ standing g t.run)
    go t e = elim (which t.taken) [
      | inl z ↦ (z, (let f = rw z at e in cc))
      | inr z ↦ (let f = rw z at e in absurd (cc))
    ]

pub told-off : (orders : Bool) (g : Network) (r : Run) (line : Option Event) (f : LineFault) → Err f ≡ line_told orders g r line → ((line_by orders g r line).taken ≡ false) × (f ≡ line_fault line)
unfolding line_told
told-off orders g r line f = go (line_by orders g r line)
  where
    go : (t : Replied) → Err f ≡ cond t.taken (Ok (standing g t.run)) (Err (line_fault line)) → (t.taken ≡ false) × (f ≡ line_fault line)
    go t e = elim (which t.taken) [
      | inl z ↦ (let y = rw z at e in absurd (cc))
      | inr z ↦ (z, (let y = rw z at e in cc))
    ]

-- what the loop holds: the bookings stand as the state's bytes say, and what is left of the lines gives the whole answer
pub record Holds (orders : Bool) (g : Network) (lines first : List ℕ) (k : ℕ) (s : Standing) (ys : List ℕ) (left : List (Option Event)) : Type 0 where
  pub there : Stands g s ys
  pub few : 6 * (k + length left) ≤ length lines
  pub answer : taken_from orders k g (run_of ys) left ≡ taken_of orders g (run_of first) lines

module _ (orders : Bool) (g : Network) (lines first : List ℕ) where
  pub holds-first : (s : Standing) → Stands g s first → (left : List (Option Event)) → left ≡ journal_lines lines → Holds orders g lines first 0 s first left
  unfolding taken_of
  holds-first s h left e = record { there = h; few = rw (e, journal-length lines) (omega arith); answer = rw e }

  module _ (k : ℕ) (s : Standing) (ys : List ℕ) (left : List (Option Event)) (h : Holds orders g lines first k s ys left) where
    -- no line is left
    pub holds-end : left ≡ [] → (k ≡ (taken_of orders g (run_of first) lines).kept) × (None ≡ (taken_of orders g (run_of first) lines).fault) × (ys ≡ bytes_of (taken_of orders g (run_of first) lines).run)
    unfolding taken_from
    holds-end e =
        let a = rw e at h.answer in
        (ap (λ (x : Lines). x.kept) a, ap (λ (x : Lines). x.fault) a, sym (bytes_run ys h.there.size) ∙ ap (λ (x : Lines). bytes_of x.run) a)

    module _ (line : Option Event) (more : List (Option Event)) (e : left ≡ line ∷ more) where
      module _ (zs : List ℕ) (ez : zs ≡ bytes_of (line_by orders g (run_of ys) line).run) where
        -- the next line was taken
        pub holds-on : g.a ≤ 16 → (m : Standing) → Ok m ≡ line_told orders g (run_of ys) line → Holds orders g lines first (k + 1) m zs more
        unfolding taken_from
        holds-on few m et =
            let t = told-on orders g (run_of ys) line m et in
            let w : run_of zs ≡ (line_by orders g (run_of ys) line).run = ap run_of ez ∙ held_run _ in
            record {
              there = record {
                size = ap length ez ∙ bytes-size _ (line-size orders g (run_of ys) (codes-size ys h.there.size) line);
                way = rw w (line-few orders g (run_of ys) few h.there.way line);
                stands = rw w t.1;
              };
              few = omega (arith, h.few, ap length e);
              answer = rw w (rw (e, t.0) at h.answer);
            }

        -- it was not
        pub holds-off : (f : LineFault) → Err f ≡ line_told orders g (run_of ys) line
            → (k ≡ (taken_of orders g (run_of first) lines).kept) × (Some f ≡ (taken_of orders g (run_of first) lines).fault) × (zs ≡ bytes_of (taken_of orders g (run_of first) lines).run)
        unfolding taken_from
        holds-off f et =
            let t = told-off orders g (run_of ys) line f et in
            let a = rw (e, t.0) at h.answer in (
              ap (λ (x : Lines). x.kept) a,
              rw t.1 (ap (λ (x : Lines). x.fault) a),
              ez ∙ rw (line_stays orders g (run_of ys) line t.0) (ap (λ (x : Lines). bytes_of x.run) a),
            )
