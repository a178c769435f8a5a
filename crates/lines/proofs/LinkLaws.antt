-- What a reader of a link's line has in hand at each of its returns, and what that says of `link_of`.
-- Assumes nothing.
use Prim.Native.Nat.{ℕ, ◌-◌}
use mathlib.Core.Path.{◌≡◌, refl, sym, ◌∙◌}
use mathlib.Core.List.{List, [], ◌∷◌, ◌++◌}
use mathlib.Core.Bool.{true, false}
use native.Mathlib.Omega.{arith}
use lib.ListN.{drop}
use Rattle.decimal.specs.Decimal.{columns, columns_to, same_bytes, field_at}
use Rattle.std.specs.Prelude.{Ok, Err}
use Rattle.decimal.specs.declared.NoNumber.{NoNumber}
use Rattle.decimal.proofs.Bytes.{same_refl, same-ne}
use Rattle.decimal.proofs.Fields.{not-read, fault-in, number_is, field-then}
use Rattle.plan.specs.Limits.{in_sequence}
use Rattle.lines.specs.Form.{is_framed, link_bytes}
use Rattle.lines.specs.Link.{link_text, from_in, to_in, is_link, pair_of, link_of}
use Rattle.lines.specs.declared.LineFault.TheVariants.{Malformed, OutOfSequence}
use Rattle.lines.proofs.FormLaws.{Framed, framed, unframed, begun, ended_at}

-- ---- of another form

module _ (line : List ℕ) (n lastFrom last_to : ℕ) where
  text : List ℕ
  text = link_text (from_in line) (to_in line)

  not-text : (line ≡ text → ⊥) → Err Malformed ≡ link_of line n lastFrom last_to
  unfolding link_of is_link text
  not-text h = rw (same-ne line (link_text (from_in line) (to_in line)) h)

  pub no-frame : false ≡ is_framed 76 link_bytes line → Err Malformed ≡ link_of line n lastFrom last_to
  unfolding text link_text columns columns_to is_framed
  no-frame e = not-text (unframed 76 link_bytes line text (sym e) refl)

  pub no-first : (e : NoNumber) → Err e ≡ field_at 4 1 line → Err Malformed ≡ link_of line n lastFrom last_to
  unfolding text link_text columns columns_to
  no-first e g = not-text (fault-in 4 1 line _ refl text (not-read _ e (sym g)) refl)

  pub no_second : (e : NoNumber) → Err e ≡ field_at 4 5 line → Err Malformed ≡ link_of line n lastFrom last_to
  unfolding text link_text columns columns_to
  no_second e g = not-text (fault-in 4 5 line _ refl text (not-read _ e (sym g)) refl)

-- ---- of this form

module _ (line : List ℕ) (n lastFrom last_to : ℕ) (p : true ≡ is_framed 76 link_bytes line) (u v : ℕ)
    (n1 : Ok u ≡ field_at 4 1 line) (n2 : Ok v ≡ field_at 4 5 line) where
  whole : line ≡ link_text u v
  unfolding link_text
  whole =
      let r : Framed 76 link_bytes line = framed 76 link_bytes line (sym p) in
      let s : line ≡ 76 ∷ drop 1 line = begun 76 link_bytes line (omega arith) r in
      let t : drop 1 line ≡ columns 4 u ++ drop 5 line = field-then 4 1 line _ refl u (sym n1) in
      let x : drop 5 line ≡ columns 4 v ++ drop (link_bytes - 1) line = field-then 4 5 line _ refl v (sym n2) in
      let w : drop (link_bytes - 1) line ≡ 10 ∷ [] = ended_at 76 (link_bytes - 1) line r in
      s ∙ rw (t, x, w)

  pub formed : pair_of n lastFrom last_to u v ≡ link_of line n lastFrom last_to
  unfolding link_of is_link
  formed =
      let x : u ≡ from_in line = number_is 4 1 line _ refl u (sym n1) in
      let y : v ≡ to_in line = number_is 4 5 line _ refl v (sym n2) in
      let s : same_bytes line (link_text u v) ≡ true = rw (← whole) (same_refl line) in
      rw (← x, ← y, s)

  pub out : false ≡ in_sequence n lastFrom last_to u v → Err OutOfSequence ≡ link_of line n lastFrom last_to
  unfolding pair_of
  out e = rw (← formed, ← e)

  pub pair : true ≡ in_sequence n lastFrom last_to u v → Ok (u, v) ≡ link_of line n lastFrom last_to
  unfolding pair_of
  pair e = rw (← formed, ← e)
