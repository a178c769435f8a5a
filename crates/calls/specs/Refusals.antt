-- The refusals of the calls, and what is said of a sheet that is judged, a plan that is checked and a campaign that is taken up: what each gives,
-- or with which bits it is refused.
-- Assumes nothing.
use Rattle.std.specs.Prelude.{◌≡◌, Bool, true, false, List, ℕ, ◌<◌, ◌≤◌, length, Result, Ok, Err, IfErr, MatchResult}
use Rattle.plan.specs.Judging.{is_fine, judged_place}
use Rattle.plan.specs.Outline.{outline_of}
use Rattle.plan.specs.declared.Fault.{Fault}
use Rattle.plan.specs.declared.Limits.{Limits}
use Rattle.sheet.specs.Sheet.{sheet_within}
use Rattle.network.specs.declared.Network.{Network}
use Rattle.network.specs.declared.Chart.{Chart}
use Rattle.verdict.specs.Check.{check, verdict_place}
use Rattle.run.specs.State.{standing}
use Rattle.run.specs.Bytes.{run_of, sound_bytes}
use Rattle.guarantee.specs.Answers.{pack, check_bits, place9, unsound}
use Rattle.calls.specs.Calls.{network_within, network_in, judged_bits, in_order, refused_with}
use Rattle.calls.specs.declared.Refusal.{Refusal}
use Rattle.calls.specs.declared.Refusal.TheVariants.{Sheet, Plan, Reply, Room, State}
use Rattle.calls.specs.declared.Checked.{Checked}
use Rattle.calls.specs.declared.Planned.{Planned}
use Rattle.calls.specs.declared.Campaign.{Campaign}

-- the 32 bits of a refusal
unfoldable pub refusal_bits : Refusal → ℕ
refusal_bits (Sheet f) = judged_bits (Err f)
refusal_bits (Plan f) = check_bits (Err f)
refusal_bits (Reply b) = pack 0 9 (place9 b)
refusal_bits Room = pack 0 10 0
refusal_bits State = unsound

-- and the place in them, which is to fit 16
unfoldable pub refusal_place : Refusal → ℕ
refusal_place (Sheet f) = judged_place (Err f)
refusal_place (Plan f) = verdict_place (Err f)
refusal_place (Reply b) = place9 b
refusal_place Room = 0
refusal_place State = 0

-- those with 9 to 11: at all else than 9 and 10 as at 11
unfoldable pub own_bits : Refusal → ℕ
own_bits (Reply b) = pack 0 9 (place9 b)
own_bits Room = pack 0 10 0
own_bits (Sheet f) = unsound
own_bits (Plan f) = unsound
own_bits State = unsound

-- what is answered
abbrev pub answer_bits : Result ℕ Refusal → ℕ
answer_bits (Ok x) = x
answer_bits (Err r) = refusal_bits r

-- it is x
pub record Answers (x : ℕ) (t : Result ℕ Refusal) : Type 0 where
  pub bits : answer_bits t ≡ x
  pub fits : IfErr t (λ r. refusal_place r < 65536)

-- a test fails, and x is answered
pub record Refused (holds : Bool) (x : ℕ) (r : Refusal) : Type 0 where
  pub fails : holds ≡ false
  pub bits : refusal_bits r ≡ x
  pub fits : refusal_place r < 65536

-- ---- a sheet that is judged

-- it passes, and its plan is looked at as g
pub record Passed (passes : Bool) (g : Network) (c : Chart) : Type 0 where
  pub holds : passes ≡ true
  pub network : c.network ≡ g

abbrev pub Judges : Bool → Network → ℕ → Result Chart Refusal → Type 0
Judges passes g x t = MatchResult t (Passed passes g) (Refused passes x)

-- ---- a sheet that is read

-- it reads, its plan is looked at so, and this is what the check says of it, with a place that fits 16 bits
pub record SheetTold (most : Limits) (s : List ℕ) (c : Checked) : Type 0 where
  pub reads : is_fine (sheet_within most s).judged ≡ true
  pub network : c.chart.network ≡ network_within most s
  pub verdict : c.verdict ≡ check (network_within most s)
  pub fits : verdict_place c.verdict < 65536

-- or a line of it is at fault, whose number fits too
pub record SheetUnread (most : Limits) (s : List ℕ) (f : Fault) : Type 0 where
  pub judged : (sheet_within most s).judged ≡ Err f
  pub fits : judged_place (Err f) < 65536

abbrev pub SheetRead : Limits → List ℕ → Result Checked Fault → Type 0
SheetRead most s t = MatchResult t (SheetTold most s) (SheetUnread most s)

-- the same, and its plan but for the links
pub record PlanTold (most : Limits) (s : List ℕ) (p : Planned) : Type 0 where
  pub reads : is_fine (sheet_within most s).judged ≡ true
  pub outline : p.outline ≡ outline_of (sheet_within most s).plan
  pub network : p.chart.network ≡ network_within most s
  pub verdict : p.verdict ≡ check (network_within most s)
  pub fits : verdict_place p.verdict < 65536

abbrev pub PlanRead : Limits → List ℕ → Result Planned Fault → Type 0
PlanRead most s t = MatchResult t (PlanTold most s) (SheetUnread most s)

abbrev pub Plans : Limits → List ℕ → Result Planned Refusal → Type 0
Plans most s t = MatchResult t (PlanTold most s) (Refused (is_fine (sheet_within most s).judged) (judged_bits (sheet_within most s).judged))

-- ---- a campaign that is taken up

-- the bytes are a sound state of this plan, and this is it
pub record Stood (g : Network) (bs : List ℕ) (c : Campaign) : Type 0 where
  pub sound : sound_bytes g bs ≡ true
  pub size : length bs ≡ 65
  pub network : c.chart.network ≡ g
  pub run : c.run ≡ run_of bs
  pub standing : c.standing ≡ standing c.chart.network c.run
  pub way : c.run.way ≤ 16

-- it is in order, and this is its state
pub record TakenUp (s bs : List ℕ) (c : Campaign) : Type 0 where
  pub order : in_order s bs ≡ true
  pub size : length bs ≡ 65
  pub network : c.chart.network ≡ network_in s
  pub run : c.run ≡ run_of bs
  pub standing : c.standing ≡ standing c.chart.network c.run
  pub way : c.run.way ≤ 16

abbrev pub Takes : List ℕ → List ℕ → Result Campaign Refusal → Type 0
Takes s bs t = MatchResult t (TakenUp s bs) (Refused (in_order s bs) (refused_with s))
