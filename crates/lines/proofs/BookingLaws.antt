-- What a reader of a booking's line has in hand at each of its returns, and what that says of `booking_of`.
-- Assumes nothing.
use Prim.Native.Nat.{ℕ, ◌-◌}
use mathlib.Core.Path.{◌≡◌, refl, sym, ap, ◌∙◌}
use mathlib.Core.List.{List, [], ◌∷◌, ◌++◌}
use mathlib.Core.Bool.{true, false}
use native.Mathlib.Omega.{arith}
use lib.ListN.{get_or, drop}
use lib.Seq.{drop-cons}
use borrow.Author.Tests.{eq-eqb, ne_eqb}
use Rattle.bounded.proofs.Bools.{and-no-r}
use Rattle.decimal.specs.Decimal.{columns, columns_to, same_bytes, field_at}
use Rattle.std.specs.Prelude.{Ok, Err}
use Rattle.decimal.specs.declared.NoNumber.{NoNumber}
use Rattle.decimal.proofs.Bytes.{same_refl, same-ne}
use Rattle.decimal.proofs.Fields.{not-read, fault-in, number_is, field-then}
use Rattle.plan.specs.Limits.{is_kind, is_desk}
use Rattle.lines.specs.Form.{is_framed, booking_bytes}
use Rattle.lines.specs.Booking.{booking_text, number_in, kind_in, desk_in, is_booking, entry_of, booking_of}
use Rattle.lines.specs.declared.LineFault.TheVariants.{Malformed, OutOfSequence}
use Rattle.lines.proofs.FormLaws.{Framed, framed, unframed, begun, ended_at}

-- ---- of another form

module _ (line : List ℕ) (x : ℕ) where
  text : List ℕ
  text = booking_text (number_in line) (kind_in line) (desk_in line)

  not-text : (line ≡ text → ⊥) → Err Malformed ≡ booking_of line x
  unfolding booking_of is_booking text
  not-text h = rw (same-ne line (booking_text (number_in line) (kind_in line) (desk_in line)) h)

  pub no-frame : false ≡ is_framed 66 booking_bytes line → Err Malformed ≡ booking_of line x
  unfolding text booking_text columns columns_to is_framed
  no-frame e = not-text (unframed 66 booking_bytes line text (sym e) refl)

  pub no_number : (e : NoNumber) → Err e ≡ field_at 4 1 line → Err Malformed ≡ booking_of line x
  unfolding text booking_text columns columns_to
  no_number e g = not-text (fault-in 4 1 line _ refl text (not-read _ e (sym g)) refl)

  pub no-space : (get_or line 5 0 ≡ 32 → ⊥) → Err Malformed ≡ booking_of line x
  unfolding text booking_text columns columns_to
  no-space h = not-text (λ e. h (ap (λ (l : List ℕ). get_or l 5 0) e))

  pub no_kind : false ≡ is_kind (get_or line 6 0) → Err Malformed ≡ booking_of line x
  unfolding booking_of is_booking kind_in
  no_kind o =
      rw (and-no-r (same_bytes line (booking_text (number_in line) (get_or line 6 0) (desk_in line))) (is_kind (get_or line 6 0)) (sym o))

  pub no-desk-field : (e : NoNumber) → Err e ≡ field_at 4 7 line → Err Malformed ≡ booking_of line x
  unfolding text booking_text columns columns_to
  no-desk-field e g = not-text (fault-in 4 7 line _ refl text (not-read _ e (sym g)) refl)

-- ---- of this form

module _ (line : List ℕ) (x : ℕ) (p : true ≡ is_framed 66 booking_bytes line) (y : ℕ) (n1 : Ok y ≡ field_at 4 1 line)
    (c : get_or line 5 0 ≡ 32) (m : true ≡ is_kind (get_or line 6 0)) (d : ℕ) (n2 : Ok d ≡ field_at 4 7 line) where
  whole : line ≡ booking_text y (get_or line 6 0) d
  unfolding booking_text
  whole =
      let o : Framed 66 booking_bytes line = framed 66 booking_bytes line (sym p) in
      let s : line ≡ 66 ∷ drop 1 line = begun 66 booking_bytes line (omega arith) o in
      let t : drop 1 line ≡ columns 4 y ++ drop 5 line = field-then 4 1 line _ refl y (sym n1) in
      let u : drop 5 line ≡ get_or line 5 0 ∷ drop 6 line = drop-cons line 5 0 (omega (arith, o.size)) in
      let v : drop 6 line ≡ get_or line 6 0 ∷ drop 7 line = drop-cons line 6 0 (omega (arith, o.size)) in
      let z : drop 7 line ≡ columns 4 d ++ drop (booking_bytes - 1) line = field-then 4 7 line _ refl d (sym n2) in
      let w : drop (booking_bytes - 1) line ≡ 10 ∷ [] = ended_at 66 (booking_bytes - 1) line o in
      s ∙ rw (t, u, c, v, z, w)

  pub formed : entry_of x y (get_or line 6 0) d ≡ booking_of line x
  unfolding booking_of is_booking kind_in
  formed =
      let z : y ≡ number_in line = number_is 4 1 line _ refl y (sym n1) in
      let o : d ≡ desk_in line = number_is 4 7 line _ refl d (sym n2) in
      let s : same_bytes line (booking_text y (get_or line 6 0) d) ≡ true = rw (← whole) (same_refl line) in
      rw (← z, ← o, s, ← m)

  pub another : (y ≡ x → ⊥) → Err OutOfSequence ≡ booking_of line x
  unfolding entry_of
  another h = rw (← formed, ne_eqb y x h)

  pub no-desk : y ≡ x → false ≡ is_desk d → Err OutOfSequence ≡ booking_of line x
  unfolding entry_of
  no-desk h e = rw (← formed, eq-eqb y x h, ← e)

  pub entry : y ≡ x → true ≡ is_desk d → Ok (get_or line 6 0, d) ≡ booking_of line x
  unfolding entry_of
  entry h e = rw (← formed, eq-eqb y x h, ← e)
