-- What is said of a sheet that is to have none of refusals 1 to k, and of two that are to be joined: what each gives, or with which bits it
-- is refused.
-- Assumes nothing.
use Rattle.std.specs.Prelude.{◌≡◌, true, List, ℕ, ◌<◌, Result, MatchResult}
use Rattle.plan.specs.Outline.{outline_of}
use Rattle.plan.specs.declared.Plan.{Plan}
use Rattle.plan.specs.declared.Outline.{Outline}
use Rattle.sheet.specs.Sheet.{sheet_of}
use Rattle.guarantee.specs.Answers.{pack}
use Rattle.calls.specs.Calls.{check_call}
use Rattle.calls.specs.Refusals.{refusal_bits, refusal_place, Refused}
use Rattle.calls.specs.declared.Refusal.{Refusal}
use Rattle.clear.specs.Clear.{clear}
use Rattle.join.specs.Join.{joined_plan}
use Rattle.join_calls.specs.Join.{fits, join_call, join_leaves}
use Rattle.join_calls.specs.declared.JoinRefusal.{JoinRefusal}
use Rattle.join_calls.specs.declared.JoinRefusal.TheVariants.{Sheet, Large}

-- the 32 bits of a refusal
unfoldable pub join_bits : JoinRefusal → ℕ
join_bits (Sheet r) = refusal_bits r
join_bits Large = pack 0 17 0

-- and the place in them, which is to fit 16
unfoldable pub join_place : JoinRefusal → ℕ
join_place (Sheet r) = refusal_place r
join_place Large = 0

-- ---- a sheet without refusals 1 to k

-- and this is its plan but for the links
pub record Cleared (k : ℕ) (s : List ℕ) (o : Outline) : Type 0 where
  pub clear : clear k s ≡ true
  pub outline : o ≡ outline_of (sheet_of s).plan

-- or it is refused with what check answers
abbrev pub Clears : ℕ → List ℕ → Result Outline Refusal → Type 0
Clears k s t = MatchResult t (Cleared k s) (Refused (clear k s) (check_call s))

-- ---- two sheets that are to be joined

-- both have none of these, they fit together, and this is their joined plan
pub record JoinedIn (s t : List ℕ) (p : Plan) : Type 0 where
  pub first : clear 7 s ≡ true
  pub second : clear 7 t ≡ true
  pub room : fits s t ≡ true
  pub plan : p ≡ joined_plan (sheet_of s).plan (sheet_of t).plan

-- or this is what the join answers, for every buffer, and it leaves the buffer as it was
pub record NotJoined (s t : List ℕ) (r : JoinRefusal) : Type 0 where
  pub answer : (size : ℕ) → join_bits r ≡ join_call s t size
  pub left : (d : List ℕ) → d ≡ join_leaves s t d
  pub place : join_place r < 65536

abbrev pub JoinsOrNot : List ℕ → List ℕ → Result Plan JoinRefusal → Type 0
JoinsOrNot s t r = MatchResult r (JoinedIn s t) (NotJoined s t)
