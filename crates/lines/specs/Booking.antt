-- The line of a booking: `B`, its number, a space, the letter of its kind, the number of its desk.
-- Another letter is a line of another form, and so is refused before the two numbers are judged.
-- Assumes nothing.
use Rattle.std.specs.Prelude.{ℕ, List, [], ◌∷◌, ◌++◌, Bool, ◌&&◌, cond, get_or, eqb, Result, Ok, Err}
use Rattle.decimal.specs.Decimal.{columns, same_bytes, number_at}
use Rattle.plan.specs.Limits.{is_kind, is_desk}
use Rattle.lines.specs.declared.LineFault.{LineFault}
use Rattle.lines.specs.declared.LineFault.TheVariants.{Malformed, OutOfSequence}

unfoldable pub booking_text : ℕ → ℕ → ℕ → List ℕ
booking_text x k d = 66 ∷ (columns 4 x ++ (32 ∷ k ∷ (columns 4 d ++ (10 ∷ []))))

-- the number, the byte of the kind and the desk at the columns of a line
abbrev pub number_in : List ℕ → ℕ
number_in line = number_at 4 1 line

unfoldable pub kind_in : List ℕ → ℕ
kind_in line = get_or line 6 0

abbrev pub desk_in : List ℕ → ℕ
desk_in line = number_at 4 7 line

-- a line is of this form if it is the text of these three
unfoldable pub is_booking : List ℕ → Bool
is_booking line = same_bytes line (booking_text (number_in line) (kind_in line) (desk_in line)) && is_kind (kind_in line)

-- the kind and the desk on the line of this form that has number y where booking x has its line
unfoldable pub entry_of : ℕ → ℕ → ℕ → ℕ → Result (ℕ × ℕ) LineFault
entry_of x y k d = cond (eqb y x && is_desk d) (Ok (k, d)) (Err OutOfSequence)

-- what a line holds that stands where booking x has its line
unfoldable pub booking_of : List ℕ → ℕ → Result (ℕ × ℕ) LineFault
booking_of line x = cond (is_booking line) (entry_of x (number_in line) (kind_in line) (desk_in line)) (Err Malformed)
