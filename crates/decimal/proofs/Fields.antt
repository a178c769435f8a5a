-- A field inside a line: what a reader that goes on from field to field has in hand.
-- Assumes nothing.
use Prim.Native.Nat.{ℕ, ◌+◌, ◌^◌, ◌<◌}
use mathlib.Core.Path.{◌≡◌, sym, ap, ◌∙◌}
use mathlib.Core.List.{List, ◌++◌}
use lib.ListN.{take, drop, take-append-drop}
use lib.Seq.{drop-drop, take_at}
use Rattle.std.specs.Prelude.{Ok, Err}
use Rattle.decimal.specs.Decimal.{columns, Field, field_text, field_at, number_at}
use Rattle.decimal.specs.declared.NoNumber.{NoNumber}
use Rattle.decimal.specs.declared.NoNumber.TheVariants.{Fault}
use Rattle.decimal.proofs.Laws.{Reads, read-written, value_written, columns-number, columns-length, written_read, own-text}

-- what the else of a reader's `let Ok(y) = f else` is told, and what its `?` is
abbrev pub NotRead : Field → Type 0
NotRead f = (y : ℕ) → f ≡ Ok y → ⊥

pub no_number : (f : Field) → NotRead f → (y : ℕ) → f ≡ Ok y → ⊥
no_number f n = n

pub not-read : (f : Field) (e : NoNumber) → f ≡ Err e → NotRead f
not-read f e g y h = absurd (cc)

module _ (w at : ℕ) (line : List ℕ) (f : Field) (e : f ≡ field_at w at line) where
  -- a line that has a blank or a fault there is no text that has the number's columns there
  pub fault-in : (text : List ℕ) → NotRead f → take w (drop at text) ≡ columns w (number_at w at line) → line ≡ text → ⊥
  unfolding field_at number_at
  fault-in text g c t = no_number f g _ (e ∙ columns-number w (take w (drop at line)) (ap (λ (l : List ℕ). take w (drop at l)) t ∙ c))

  module _ (y : ℕ) (g : f ≡ Ok y) where
    read : Reads w (take w (drop at line)) y
    unfolding field_at
    read = read-written w (take w (drop at line)) y (sym e ∙ g)

    -- the number that was read is the line's
    pub number_is : y ≡ number_at w at line
    unfolding number_at
    number_is = read.value

    pub number_small : y < 10 ^ w
    number_small = read.small

    -- its columns, and then the rest of the line
    pub field-then : drop at line ≡ columns w y ++ drop (at + w) line
    field-then =
        sym (take-append-drop w (drop at line)) ∙ rw (← read.text, drop-drop w at line)

-- the number that is written at a place stands there
pub number-in : (w at x : ℕ) (text : List ℕ) → x < 10 ^ w → take w (drop at text) ≡ columns w x → number_at w at text ≡ x
unfolding number_at
number-in w at x text h e = rw e (value_written w x h)

-- a field in front of a text
pub field-front : (w x : ℕ) (rest : List ℕ) → x < 10 ^ w → field_at w 0 (columns w x ++ rest) ≡ Ok x
unfolding field_at
field-front w x rest h = rw (take_at (columns w x) rest w (columns-length w x)) (written_read w x h)

-- the text of a field that was read
pub field-text : (w at : ℕ) (line : List ℕ) (y : ℕ) → field_at w at line ≡ Ok y → take w (drop at line) ≡ columns w y
unfolding field_at
field-text w at line y e = (read-written w (take w (drop at line)) y e).text

-- a field that is no fault, and then the rest of the line
pub text-then : (w at : ℕ) (line : List ℕ) → (field_at w at line ≡ Err Fault → ⊥) → drop at line ≡ field_text w (field_at w at line) ++ drop (at + w) line
unfolding field_at
text-then w at line h = sym (take-append-drop w (drop at line)) ∙ rw (← (own-text w (take w (drop at line)) h), drop-drop w at line)
