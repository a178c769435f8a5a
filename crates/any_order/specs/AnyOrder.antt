-- Desks in any order: what holds of replies to different bookings, with no order taken between them, whatever the bytes s of the sheet and bs
-- of the state. By the contracts of the calls for C, each of which gets the state that the call before left. A next order that is answered with a wait
-- or the end takes no order, so it may stand anywhere. Where the sheet is refused or the state is not sound, all these calls are refused alike and
-- change nothing.
-- Assumes nothing.
use Rattle.std.specs.Prelude.{◌≡◌, ◌≢◌, true, List, [], ◌∷◌, map, ℕ, length}
use Rattle.bounded.specs.Bounded.{one}
use Rattle.guarantee.specs.Answers.{pack}
use Rattle.guarantee.specs.Machine.{Asked, next_order, replied}
use Rattle.guarantee.specs.Counted.{sends, accepts, tally}
use Rattle.guarantee.specs.AnyOrder.{Rearranged, different}
use Rattle.calls.specs.Calls.{asked_call, asked_leaves, in_order}
use Rattle.block_calls.specs.Block.{lines_of, block_call, block_leaves}
use Rattle.whole_campaign.specs.Calls.{Call, singles}
use Rattle.whole_campaign.specs.Lists.{answers_on, left_on}
use Rattle.whole_campaign.specs.Singly.{singly_on, told_on}
use Rattle.any_order.specs.Lines.{rows_of, joined, replies_on, well_formed, all_fit, all_differ}

-- ---- next orders among the replies

-- the replies among the calls, and what they were answered
unfoldable pub replies_in : List Asked → List Asked
replies_in [] = []
replies_in (next_order ∷ qs) = replies_in qs
replies_in (replied l b ∷ qs) = replied l b ∷ replies_in qs

unfoldable pub replies_told : List Asked → List ℕ → List ℕ
replies_told [] xs = []
replies_told (q ∷ qs) [] = []
replies_told (next_order ∷ qs) (x ∷ xs) = replies_told qs xs
replies_told (replied l b ∷ qs) (x ∷ xs) = x ∷ replies_told qs xs

-- an order is taken where next order is answered with a request or a return
unfoldable pub takes : Asked → ℕ → ℕ
takes next_order x = one (sends x)
takes (replied l b) x = 0

-- how many are taken by a list of calls
unfoldable pub orders_taken : List ℕ → List ℕ → List Asked → ℕ
orders_taken s bs qs = tally takes qs (answers_on s bs (singles qs))

-- ---- replies given singly

-- TWO REPLIES p and q.
pub record EitherWay (s bs : List ℕ) (p q : Asked) : Type 0 where
  -- each is answered after the other as it is before it; so one that does not fit one way round does not fit the other
  pub one : asked_call s (asked_leaves s bs q) p ≡ asked_call s bs p
  pub other : asked_call s (asked_leaves s bs p) q ≡ asked_call s bs q
  -- they leave the same state, whichever comes first
  pub state : asked_leaves s (asked_leaves s bs p) q ≡ asked_leaves s (asked_leaves s bs q) p

-- SEVERAL: two lists of calls, qs and ps, with the same replies.
pub record InAnyOrder (s bs : List ℕ) (qs ps : List Asked) : Type 0 where
  -- each reply is answered as if it came alone, so alike in both
  pub alone : replies_told qs (answers_on s bs (singles qs)) ≡ map (asked_call s bs) (replies_in qs)
  pub alike : replies_told ps (answers_on s bs (singles ps)) ≡ map (asked_call s bs) (replies_in ps)
  -- they leave the same state
  pub state : left_on s bs (singles ps) ≡ left_on s bs (singles qs)

-- ---- replies in blocks

-- A BLOCK, and another with its lines in another order.
pub record BlockInAnyOrder (s bs block other : List ℕ) : Type 0 where
  -- both get the same answer and leave the same bytes
  pub answer : block_call s other bs ≡ block_call s block bs
  pub state : block_leaves s other bs ≡ block_leaves s block bs
  -- they are taken whole (an empty one too, where the sheet passes and the state is sound)
  pub whole : in_order s bs ≡ true → block_call s other bs ≡ pack 6 0 (length (lines_of other))
  -- and leave the state that their replies leave, given singly
  pub singly : block_leaves s other bs ≡ left_on s bs (singles (replies_on block))

-- SOME IN BLOCKS: two lists of calls, cs and ds, with the same replies, those of a block being the ones that it keeps. They have what two lists of
-- single calls have.
pub record MixedInAnyOrder (s bs : List ℕ) (cs ds : List Call) : Type 0 where
  pub alone : replies_told (singly_on s bs cs) (told_on s bs cs) ≡ map (asked_call s bs) (replies_in (singly_on s bs cs))
  pub alike : replies_told (singly_on s bs ds) (told_on s bs ds) ≡ map (asked_call s bs) (replies_in (singly_on s bs ds))
  pub state : left_on s bs ds ≡ left_on s bs cs

-- ---- the claim

pub record AnyOrder (s bs : List ℕ) : Type 0 where
  -- to different bookings, with any letters
  pub two : (l b m c : ℕ) → b ≢ c → EitherWay s bs (replied l b) (replied m c)
  -- next orders stand anywhere, and none of them takes an order in either list; the replies are the same ones in some order, and name different bookings
  pub several : (qs ps : List Asked) → orders_taken s bs qs ≡ 0 → orders_taken s bs ps ≡ 0 → different (replies_in qs) ≡ true → Rearranged (replies_in qs) (replies_in ps) → InAnyOrder s bs qs ps
  -- the lines of the block are well formed, all fit and name different bookings; the rows are the same lines, and joined they are the other block
  pub blocks : (block : List ℕ) (rows : List (List ℕ)) → well_formed block ≡ true → all_fit s bs block ≡ true → all_differ block ≡ true → Rearranged (rows_of block) rows → BlockInAnyOrder s bs block (joined rows)
  -- so are those of every block that is accepted
  pub told : (block : List ℕ) → accepts (block_call s block bs) ≡ true → (well_formed block ≡ true) × (all_fit s bs block ≡ true) × (all_differ block ≡ true)
  -- and what comes in a block in one list may come singly, or in other blocks, in the other
  pub mixed : in_order s bs ≡ true → (cs ds : List Call) → tally takes (singly_on s bs cs) (told_on s bs cs) ≡ 0 → tally takes (singly_on s bs ds) (told_on s bs ds) ≡ 0
      → different (replies_in (singly_on s bs cs)) ≡ true → Rearranged (replies_in (singly_on s bs cs)) (replies_in (singly_on s bs ds)) → MixedInAnyOrder s bs cs ds

-- ---- a campaign: calls that take no order, an order, calls that take none, an order, and so on

-- what next order answers after the calls of each gap, and the state after the last of these orders
unfoldable pub orders_on : List ℕ → List ℕ → List (List Asked) → List ℕ
orders_on s bs [] = []
orders_on s bs (qs ∷ gaps) = asked_call s (left_on s bs (singles qs)) next_order ∷ orders_on s (asked_leaves s (left_on s bs (singles qs)) next_order) gaps

unfoldable pub state_on : List ℕ → List ℕ → List (List Asked) → List ℕ
state_on s bs [] = bs
state_on s bs (qs ∷ gaps) = state_on s (asked_leaves s (left_on s bs (singles qs)) next_order) gaps

-- in `late` the replies of each gap come in another order; they name different bookings. Next orders within a gap may stand elsewhere, be fewer or more
unfoldable pub Delayed : List ℕ → List ℕ → List (List Asked) → List (List Asked) → Type 0
Delayed s bs [] late = late ≡ []
Delayed s bs (qs ∷ gaps) [] = ⊥
Delayed s bs (qs ∷ gaps) (ps ∷ late) =
    (orders_taken s bs qs ≡ 0) × (orders_taken s bs ps ≡ 0) × (different (replies_in qs) ≡ true) × Rearranged (replies_in qs) (replies_in ps)
    × Delayed s (asked_leaves s (left_on s bs (singles qs)) next_order) gaps late

-- THE SAME PLAN. Delays within the gaps change no order, and leave the same state.
pub record SamePlan (s bs : List ℕ) (gaps late : List (List Asked)) : Type 0 where
  pub orders : orders_on s bs late ≡ orders_on s bs gaps
  pub state : state_on s bs late ≡ state_on s bs gaps
