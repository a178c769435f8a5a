-- What is wrong with a plan record: every fault in a count comes before every fault in an entry, and entries past the counts are not looked at.
-- Assumes nothing.
use Rattle.std.specs.Prelude.{Bool, ◌&&◌, cond, List, ◌∷◌, ℕ, ◌^◌, ltb, get_or, ⊤, Result, Ok, Err}
use Rattle.bounded.specs.Bounded.{all}
use Rattle.sets.specs.Sets.{size_of}
use Rattle.plan.specs.Limits.{is_kind, is_desk, within, limits, in_sequence}
use Rattle.plan.specs.declared.Plan.{Plan}
use Rattle.plan.specs.declared.RecordFault.{RecordFault}
use Rattle.plan.specs.declared.RecordFault.TheVariants.{Count, Sequence}

-- booking b + 1 has a kind and a desk
unfoldable pub booking_at : List ℕ → List ℕ → ℕ → Bool
booking_at ks ds b = is_kind (get_or ks b 0) && is_desk (get_or ds b 0)

-- link i joins two of the bookings 1 to n and comes after the link before it; the first comes after 0, 0
unfoldable pub link_at : ℕ → List ℕ → List ℕ → ℕ → Bool
link_at n us vs i = in_sequence n (get_or (0 ∷ us) i 0) (get_or (0 ∷ vs) i 0) (get_or us i 0) (get_or vs i 0)

-- way k + 1 has 1 to n ones, wherever they stand
unfoldable pub count_at : ℕ → List ℕ → ℕ → Bool
count_at n ws k = within 1 (size_of (get_or ws k 0)) n

-- way k + 1 has no bit past booking n
unfoldable pub within_at : ℕ → List ℕ → ℕ → Bool
within_at n ws k = ltb (get_or ws k 0) (2 ^ n)

-- the counts: of bookings, links and ways, of the matters that a desk may have open, and of the bookings of each way
unfoldable pub counts_fit : Plan → Bool
counts_fit p = limits p.n p.m p.a p.limit && all (count_at p.n p.way) p.a

-- the entries: kinds and desks, links, ways
unfoldable pub entries_fit : Plan → Bool
entries_fit p =
    all (booking_at p.kind p.desk) p.n && (all (link_at p.n p.from p.to) p.m && all (within_at p.n p.way) p.a)

unfoldable pub record_of : Plan → Result ⊤ RecordFault
record_of p = cond (counts_fit p) (cond (entries_fit p) (Ok tt) (Err Sequence)) (Err Count)
