-- What a reader of the head line has in hand at each of its returns, and what that says of `head_of`.
-- Assumes nothing.
use Prim.Native.Nat.{ℕ, ◌-◌}
use mathlib.Core.Path.{◌≡◌, refl, sym, ◌∙◌}
use mathlib.Core.List.{List, [], ◌∷◌, ◌++◌}
use mathlib.Core.Bool.{true, false}
use native.Mathlib.Omega.{arith}
use lib.ListN.{drop}
use Rattle.decimal.specs.Decimal.{columns, columns_to, same_bytes, field_at}
use Rattle.std.specs.Prelude.{Ok, Err}
use Rattle.decimal.specs.declared.NoNumber.{NoNumber}
use Rattle.decimal.proofs.Bytes.{same_refl, same-ne}
use Rattle.decimal.proofs.Fields.{not-read, fault-in, number_is, field-then}
use Rattle.plan.specs.declared.Limits.{Limits}
use Rattle.lines.specs.Form.{is_framed, head_bytes}
use Rattle.lines.specs.Head.{head_text, booking_count_in, link_count_in, way_count_in, limit_in, is_head, counts_of, head_of}
use Rattle.lines.specs.declared.HeadFault.TheVariants.{Malformed}
use Rattle.lines.proofs.FormLaws.{Framed, framed, unframed, begun, ended_at}

-- ---- of another form

module _ (most : Limits) (line : List ℕ) where
  text : List ℕ
  text = head_text (booking_count_in line) (link_count_in line) (way_count_in line) (limit_in line)

  not-text : (line ≡ text → ⊥) → Err Malformed ≡ head_of most line
  unfolding head_of is_head text
  not-text h = rw (same-ne line (head_text (booking_count_in line) (link_count_in line) (way_count_in line) (limit_in line)) h)

  pub no-frame : false ≡ is_framed 80 head_bytes line → Err Malformed ≡ head_of most line
  unfolding text head_text columns columns_to is_framed
  no-frame e = not-text (unframed 80 head_bytes line text (sym e) refl)

  pub no-bookings : (e : NoNumber) → Err e ≡ field_at 4 1 line → Err Malformed ≡ head_of most line
  unfolding text head_text columns columns_to
  no-bookings e g = not-text (fault-in 4 1 line _ refl text (not-read _ e (sym g)) refl)

  pub no-links : (e : NoNumber) → Err e ≡ field_at 4 5 line → Err Malformed ≡ head_of most line
  unfolding text head_text columns columns_to
  no-links e g = not-text (fault-in 4 5 line _ refl text (not-read _ e (sym g)) refl)

  pub no-ways : (e : NoNumber) → Err e ≡ field_at 4 9 line → Err Malformed ≡ head_of most line
  unfolding text head_text columns columns_to
  no-ways e g = not-text (fault-in 4 9 line _ refl text (not-read _ e (sym g)) refl)

  pub no-limit : (e : NoNumber) → Err e ≡ field_at 4 13 line → Err Malformed ≡ head_of most line
  unfolding text head_text columns columns_to
  no-limit e g = not-text (fault-in 4 13 line _ refl text (not-read _ e (sym g)) refl)

-- ---- of this form

module _ (most : Limits) (line : List ℕ) (p : true ≡ is_framed 80 head_bytes line) (n m a limit : ℕ)
    (n1 : Ok n ≡ field_at 4 1 line) (n2 : Ok m ≡ field_at 4 5 line) (n3 : Ok a ≡ field_at 4 9 line) (n4 : Ok limit ≡ field_at 4 13 line) where
  whole : line ≡ head_text n m a limit
  unfolding head_text
  whole =
      let r : Framed 80 head_bytes line = framed 80 head_bytes line (sym p) in
      let s : line ≡ 80 ∷ drop 1 line = begun 80 head_bytes line (omega arith) r in
      let t : drop 1 line ≡ columns 4 n ++ drop 5 line = field-then 4 1 line _ refl n (sym n1) in
      let u : drop 5 line ≡ columns 4 m ++ drop 9 line = field-then 4 5 line _ refl m (sym n2) in
      let v : drop 9 line ≡ columns 4 a ++ drop 13 line = field-then 4 9 line _ refl a (sym n3) in
      let o : drop 13 line ≡ columns 4 limit ++ drop (head_bytes - 1) line = field-then 4 13 line _ refl limit (sym n4) in
      let w : drop (head_bytes - 1) line ≡ 10 ∷ [] = ended_at 80 (head_bytes - 1) line r in
      s ∙ rw (t, u, v, o, w)

  pub formed : counts_of most n m a limit ≡ head_of most line
  unfolding head_of is_head
  formed =
      let x : n ≡ booking_count_in line = number_is 4 1 line _ refl n (sym n1) in
      let y : m ≡ link_count_in line = number_is 4 5 line _ refl m (sym n2) in
      let z : a ≡ way_count_in line = number_is 4 9 line _ refl a (sym n3) in
      let o : limit ≡ limit_in line = number_is 4 13 line _ refl limit (sym n4) in
      let s : same_bytes line (head_text n m a limit) ≡ true = rw (← whole) (same_refl line) in
      rw (← x, ← y, ← z, ← o, s)
