-- A decimal number in columns: w of them, right-justified with spaces, without leading zeros; zero is spaces and a `0`.
-- The width is an argument everywhere: most numbers of the texts have four columns, a place has six.
-- Assumes nothing.
use Rattle.std.specs.Prelude.{ℕ, zero, suc, ◌+◌, ◌*◌, ◌/◌, ◌%◌, List, [], ◌∷◌, ◌++◌, Bool, true, false, not, ◌&&◌, cond, get_or, take, drop, eqb}
use Rattle.std.specs.Prelude.{Result, Ok, Err}
use Rattle.decimal.specs.declared.NoNumber.{NoNumber}
use Rattle.decimal.specs.declared.NoNumber.TheVariants.{Blank, Fault}

-- The byte in one column, where q is the number that ends with this column: its last digit, or a space while q is nothing.
-- The field's last column shows its digit even so.
unfoldable pub column : Bool → ℕ → ℕ
column last q = cond (eqb q 0 && not last) 32 (48 + q % 10)

-- w columns that end with the digit x % 10; `last` says whether they are the field's last ones
unfoldable pub columns_to : Bool → ℕ → ℕ → List ℕ
columns_to last zero x = []
columns_to last (suc w) x = columns_to false w (x / 10) ++ (column last x ∷ [])

-- the w columns of x
unfoldable pub columns : ℕ → ℕ → List ℕ
columns w x = columns_to true w x

-- the only number whose w columns these bytes can be: a digit is its byte's remainder by 16, and so is a space's 0
unfoldable pub value_of : ℕ → List ℕ → ℕ
value_of zero s = 0
value_of (suc w) s = value_of w s * 10 + get_or s w 0 % 16

-- the number has begun: no space stands in column i
unfoldable pub begun : List ℕ → ℕ → Bool
begun s i = not (eqb (get_or s i 0) 32)

-- two lists of bytes are the same
unfoldable pub same_bytes : List ℕ → List ℕ → Bool
same_bytes [] [] = true
same_bytes [] (y ∷ ys) = false
same_bytes (x ∷ xs) [] = false
same_bytes (x ∷ xs) (y ∷ ys) = eqb x y && same_bytes xs ys

-- w spaces
unfoldable pub spaces : ℕ → List ℕ
spaces zero = []
spaces (suc w) = spaces w ++ (32 ∷ [])

-- what a field holds: a number, or why it is none
abbrev pub Field : Type 0
Field = Result ℕ NoNumber

-- what w columns hold that are no number's: a blank, if they are spaces, and else a fault
unfoldable pub unread_of : ℕ → List ℕ → NoNumber
unread_of w s = cond (same_bytes s (spaces w)) Blank Fault

-- what a field of w columns holds: a number, if it is that number's columns, and else a blank or a fault
unfoldable pub field_of : ℕ → List ℕ → Field
field_of w s = cond (same_bytes s (columns w (value_of w s))) (Ok (value_of w s)) (Err (unread_of w s))

-- the w columns in which a field is written; a fault has none of its own
unfoldable pub field_text : ℕ → Field → List ℕ
field_text w (Ok x) = columns w x
field_text w (Err Blank) = spaces w
field_text w (Err Fault) = []

-- the field of w columns that starts at a place of a line, and the number that can stand there
unfoldable pub field_at : ℕ → ℕ → List ℕ → Field
field_at w at line = field_of w (take w (drop at line))

unfoldable pub number_at : ℕ → ℕ → List ℕ → ℕ
number_at w at line = value_of w (take w (drop at line))
