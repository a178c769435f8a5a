-- What a join is, told from the call's own answer and the bytes that it leaves; and three sheets joined in either grouping.
-- Assumes nothing.
use Rattle.std.specs.Prelude.{ℕ, suc, ◌+◌, ◌*◌, ◌≤◌, ◌<◌, ◌≡◌, true, false, cond, List, eqb, length, take, Ok}
use Rattle.plan.specs.Limits.{ours}
use Rattle.sheet.specs.Sheet.{sheet_of}
use Rattle.sheet.specs.Text.{longest_within}
use Rattle.network.specs.Network.{way_of, in_way, pre}
use Rattle.guarantee.specs.Answers.{kind_of, place_of}
use Rattle.calls.specs.Calls.{network_in, sheet_passes}
use Rattle.clear.specs.Clear.{clear}
use Rattle.join.specs.Join.{joined_plan}
use Rattle.join_calls.specs.Join.{join_call, join_leaves}

module _ (s t d : List ℕ) where
  -- the joined sheet: as many bytes as the answer's place says, from the front of the buffer
  unfoldable pub shown : List ℕ
  shown = take (place_of (join_call s t (length d))) (join_leaves s t d)

  -- THE CALL WAS ANSWERED WITH KIND 6
  pub record Joined : Type 0 where
    -- these bytes are read as the joined plan
    pub plan : sheet_of shown ≡ record { judged = Ok tt; plan = joined_plan (sheet_of s).plan (sheet_of t).plan }
    -- none of 1 to 7 is wrong with them; whether they pass is for the check to say
    pub clean : clear 7 shown ≡ true
    -- the ways are every pair: way i + 1 of the first sheet with each of the second's in order, then the first's next
    pub firsts : (i j b : ℕ) → i < (network_in s).a → j < (network_in t).a → b < (network_in s).n
        → in_way (network_in shown) (suc (j + i * (network_in t).a)) b ≡ in_way (network_in s) (suc i) b
    pub seconds : (i j b : ℕ) → i < (network_in s).a → j < (network_in t).a
        → in_way (network_in shown) (suc (j + i * (network_in t).a)) ((network_in s).n + b) ≡ in_way (network_in t) (suc j) b
    -- what precedes what is what did in either sheet, and nothing of the one precedes anything of the other
    pub orders_first : (u v : ℕ) → u < (network_in s).n → v < (network_in s).n → pre (network_in shown) u v ≡ pre (network_in s) u v
    pub orders_second : (u v : ℕ) → pre (network_in shown) ((network_in s).n + u) ((network_in s).n + v) ≡ pre (network_in t) u v
    pub orders_across : (u v : ℕ) → u < (network_in s).n
        → (pre (network_in shown) u ((network_in s).n + v) ≡ false) × (pre (network_in shown) ((network_in s).n + v) u ≡ false)
    -- the ways are closed: a way that has a booking has all that precede it
    pub closed : (w u v : ℕ) → w ≤ (network_in shown).a → in_way (network_in shown) w v ≡ true → pre (network_in shown) u v ≡ true → in_way (network_in shown) w u ≡ true
    -- and distinct
    pub distinct : (i k : ℕ) → i < (network_in shown).a → k < (network_in shown).a → way_of (network_in shown) (suc i) ≡ way_of (network_in shown) (suc k) → i ≡ k
    -- if they pass, so do both sheets
    pub parts : sheet_passes shown ≡ true → (sheet_passes s ≡ true) × (sheet_passes t ≡ true)

-- ---- three sheets: d is the buffer of the join of two, e that of the other join

module _ (s t u d e : List ℕ) where
  -- the first two are joined first: what the second join answers, or the first join, if that is refused; and what is left in e
  unfoldable pub first_two : ℕ
  first_two = cond (eqb (kind_of (join_call s t (length d))) 6) (join_call (shown s t d) u (length e)) (join_call s t (length d))

  unfoldable pub first_two_leave : List ℕ
  first_two_leave = cond (eqb (kind_of (join_call s t (length d))) 6) (join_leaves (shown s t d) u e) e

  -- the last two are
  unfoldable pub last_two : ℕ
  last_two = cond (eqb (kind_of (join_call t u (length d))) 6) (join_call s (shown t u d) (length e)) (join_call t u (length d))

  unfoldable pub last_two_leave : List ℕ
  last_two_leave = cond (eqb (kind_of (join_call t u (length d))) 6) (join_leaves s (shown t u d) e) e

-- THREE SHEETS without 1 to 7, and for what is between two joins room for the longest sheet: in either grouping the same answer, so that one is
-- refused with 17 where the other is, and the same bytes
pub record Grouped (s t u : List ℕ) : Type 0 where
  pub answer : (d d' e : List ℕ) → longest_within ours ≤ length d → longest_within ours ≤ length d' → first_two s t u d e ≡ last_two s t u d' e
  pub bytes : (d d' e : List ℕ) → longest_within ours ≤ length d → longest_within ours ≤ length d' → first_two_leave s t u d e ≡ last_two_leave s t u d' e
