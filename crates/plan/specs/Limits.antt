-- The limits of a plan: how many bookings, links and ways it has and how much a desk takes on, its letters of kinds, its desks, and the sequence
-- of its links.
-- Assumes nothing.
use Rattle.std.specs.Prelude.{Bool, ◌&&◌, ◌||◌, ℕ, eqb, leb, ltb}
use Rattle.plan.specs.declared.Limits.{Limits}

-- at most so many bookings, links and ways. These are the limits that are judged; that sets, arrays and states have 64 places, and arrays of
-- ways 16, is written as a number where they are defined
abbrev pub most_bookings : ℕ
most_bookings = 64

abbrev pub most_links : ℕ
most_links = 512

abbrev pub most_ways : ℕ
most_ways = 16

-- the greatest limit of open matters that a plan may set its desks, and how many desks there are
abbrev pub most_matters : ℕ
most_matters = 64

abbrev pub most_desks : ℕ
most_desks = 8

-- the letters of the kinds: returnable, pivot, repeatable, and both repeatable and returnable
abbrev pub C : ℕ
C = 67

abbrev pub P : ℕ
P = 80

abbrev pub R : ℕ
R = 82

abbrev pub D : ℕ
D = 68

unfoldable pub is_kind : ℕ → Bool
is_kind k = eqb k C || (eqb k P || (eqb k R || eqb k D))

-- x is one of lo, lo + 1, .. hi
unfoldable pub within : ℕ → ℕ → ℕ → Bool
within lo x hi = leb lo x && leb x hi

-- our limits, which are those of every sheet and of every record: refusal 2 goes by these, whoever asks
unfoldable pub ours : Limits
ours = record { bookings = most_bookings; links = most_links; ways = most_ways }

-- a caller with such limits takes n bookings, m links and a ways: at least one booking and one way, and of each at most its limit
unfoldable pub counted : Limits → ℕ → ℕ → ℕ → Bool
counted most n m a = within 1 n most.bookings && (within 0 m most.links && within 1 a most.ways)

-- the counts of a plan, and what it lets each desk have open, are within the limits
unfoldable pub limits : ℕ → ℕ → ℕ → ℕ → Bool
limits n m a limit = counted ours n m a && within 1 limit most_matters

-- d is the number of a desk
unfoldable pub is_desk : ℕ → Bool
is_desk d = within 1 d most_desks

-- the link from u to v comes after the link from lastFrom to last_to: by its first booking, then by its second
unfoldable pub rises : ℕ → ℕ → ℕ → ℕ → Bool
rises lastFrom last_to u v = ltb lastFrom u || (eqb lastFrom u && ltb last_to v)

-- a link between two of the bookings 1 to n that comes after the link from lastFrom to last_to
unfoldable pub in_sequence : ℕ → ℕ → ℕ → ℕ → ℕ → Bool
in_sequence n lastFrom last_to u v = within 1 u n && (within 1 v n && rises lastFrom last_to u v)
