-- What a reader of a line has in hand at each of its returns, and what that says of `line_of`; and that a line is read back as it
-- was written.
-- Assumes nothing.
use Prim.Native.Nat.{ℕ, ◌^◌, ◌<◌}
use mathlib.Core.Path.{◌≡◌, refl, ap, ◌∙◌}
use mathlib.Core.List.{List, [], ◌∷◌, ◌++◌}
use mathlib.Core.Bool.{Bool, true, false, cond}
use native.Mathlib.Omega.{arith}
use lib.ListN.{length, get_or, drop, drop_of_length-le}
use lib.Seq.{drop-cons}
use Rattle.std.specs.Prelude.{Option, Some, None, Ok, Err}
use Rattle.std.specs.Result.{result_ok}
use Rattle.decimal.specs.Decimal.{columns, columns_to, same_bytes, Field, field_at, number_at}
use Rattle.decimal.proofs.Bytes.{same_refl, same-eq, same-ne}
use Rattle.decimal.proofs.Fields.{NotRead, fault-in, number_is, field-then, number-in}
use Rattle.event_lines.specs.Line.{line_text, is_line, line_of}
use Rattle.event_lines.specs.declared.Event.{Event}

-- ---- what `ok` leaves of a field

pub ok-none : (f : Field) → result_ok f ≡ None → NotRead f
ok-none f e y h = absurd (cc)

pub ok-some : (f : Field) (y : ℕ) → result_ok f ≡ Some y → f ≡ Ok y
ok-some (Ok x) y e = cc
ok-some (Err n) y e = absurd (cc)

-- ---- of another form

module _ (line : List ℕ) where
  text : List ℕ
  text = line_text (get_or line 0 0) (number_at 4 1 line)

  not-text : (line ≡ text → ⊥) → None ≡ line_of line
  unfolding line_of is_line text
  not-text h = rw (same-ne line (line_text (get_or line 0 0) (number_at 4 1 line)) h)

  pub other-size : (length line ≡ 6 → ⊥) → None ≡ line_of line
  unfolding text line_text columns columns_to
  other-size h = not-text (λ e. h (ap length e))

  pub no_number : (f : Field) → f ≡ field_at 4 1 line → NotRead f → None ≡ line_of line
  unfolding text line_text columns columns_to
  no_number f e g = not-text (fault-in 4 1 line f e text g refl)

  pub no-feed : (get_or line 5 0 ≡ 10 → ⊥) → None ≡ line_of line
  unfolding text line_text columns columns_to
  no-feed h = not-text (λ e. h (ap (λ (l : List ℕ). get_or l 5 0) e))

-- ---- of this form

pub given : (line : List ℕ) (f : Field) (y : ℕ) → length line ≡ 6 → f ≡ field_at 4 1 line → f ≡ Ok y → get_or line 5 0 ≡ 10
    → ◌≡◌ {A = Option Event} (Some (record { letter = get_or line 0 0; booking = y })) (line_of line)
unfolding line_of is_line line_text
given line f y n e g c =
    let s : line ≡ get_or line 0 0 ∷ drop 1 line = drop-cons line 0 0 (omega arith) in
    let t : drop 1 line ≡ columns 4 y ++ drop 5 line = field-then 4 1 line f e y g in
    let u : drop 5 line ≡ get_or line 5 0 ∷ drop 6 line = drop-cons line 5 0 (omega arith) in
    let v : drop 6 line ≡ [] = drop_of_length-le line {i = 6} (omega arith) in
    let w : line ≡ get_or line 0 0 ∷ (columns 4 y ++ (10 ∷ [])) = s ∙ ap (λ (l : List ℕ). get_or line 0 0 ∷ l) (t ∙ rw (u, c, v)) in
    let z : y ≡ number_at 4 1 line = number_is 4 1 line f e y g in
    let m : same_bytes line (get_or line 0 0 ∷ (columns 4 y ++ (10 ∷ []))) ≡ true = rw (← w) (same_refl line) in
    rw (← z, m)

-- ---- both ways

-- a line that is written is read
pub line_read : (letter b : ℕ) → b < 10 ^ 4 → line_of (line_text letter b) ≡ Some (record { letter = letter; booking = b })
unfolding line_of is_line line_text columns columns_to
line_read letter b h =
    let z : number_at 4 1 (letter ∷ (columns 4 b ++ (10 ∷ []))) ≡ b = number-in 4 1 b (letter ∷ (columns 4 b ++ (10 ∷ []))) h refl in
    rw (z, same_refl (letter ∷ (columns 4 b ++ (10 ∷ []))))

-- a line that is read is its text
pub read-text : (line : List ℕ) (letter b : ℕ) → line_of line ≡ Some (record { letter = letter; booking = b }) → line ≡ line_text letter b
unfolding line_of is_line
read-text line letter b = go (same_bytes line text') (same-eq line text')
  where
    text' : List ℕ
    text' = line_text (get_or line 0 0) (number_at 4 1 line)

    go : (t : Bool) → (t ≡ true → line ≡ text') → cond {A = Option Event} t (Some (record { letter = get_or line 0 0; booking = number_at 4 1 line })) None ≡ Some (record { letter = letter; booking = b }) → line ≡ line_text letter b
    go true h e =
        let v : ◌≡◌ {A = Event} (record { letter = get_or line 0 0; booking = number_at 4 1 line }) (record { letter = letter; booking = b }) = cc in
        let l : get_or line 0 0 ≡ letter = ap (λ (x : Event). x.letter) v in
        let y : number_at 4 1 line ≡ b = ap (λ (x : Event). x.booking) v in
        h refl ∙ rw (l, y)
    go false h e = absurd (cc)

-- ---- written

pub line-length : (letter x : ℕ) → length (line_text letter x) ≡ 6
unfolding line_text columns columns_to
line-length letter x = refl
