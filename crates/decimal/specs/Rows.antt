-- Texts in a row, one after the other.
-- Assumes nothing.
use Rattle.std.specs.Prelude.{ℕ, zero, suc, List, [], ◌++◌}

-- f 0, f 1, .. f (n - 1)
unfoldable pub in_row : (ℕ → List ℕ) → ℕ → List ℕ
in_row f zero = []
in_row f (suc n) = in_row f n ++ f n
