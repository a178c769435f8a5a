-- Replies in any order: what another order of a list is, and of which lists of calls it is claimed that the order does not matter.
-- Assumes nothing.
use Rattle.std.specs.Prelude.{◌≡◌, Bool, true, false, not, ◌&&◌, List, [], ◌∷◌, ◌++◌, ℕ, eqb}
use Rattle.guarantee.specs.Machine.{Asked, next_order, replied}

-- ys has the entries of xs in some order: the first of xs stands somewhere in ys, and around it stand the others of xs in some order
unfoldable pub Rearranged : {A : Type 0} → List A → List A → Type 0
Rearranged [] ys = ys ≡ []
Rearranged {A} (x ∷ xs) ys = (front rest : List A) × (ys ≡ front ++ (x ∷ rest)) × Rearranged xs (front ++ rest)

unfoldable pub every : {A : Type 0} → (A → Bool) → List A → Bool
every f [] = true
every f (x ∷ xs) = f x && every f xs

-- ---- calls

unfoldable pub is_reply : Asked → Bool
is_reply next_order = false
is_reply (replied l b) = true

-- no order is taken between: all the calls are replies
unfoldable pub no_order : List Asked → Bool
no_order qs = every is_reply qs

-- no reply to booking b
unfoldable pub not_to : ℕ → Asked → Bool
not_to b next_order = true
not_to b (replied l c) = not (eqb c b)

-- the replies name different bookings
unfoldable pub different : List Asked → Bool
different [] = true
different (next_order ∷ qs) = different qs
different (replied l b ∷ qs) = every (not_to b) qs && different qs
