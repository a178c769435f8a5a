-- The four calls of the dispatcher on lent bytes: what each gives back, and what it leaves in the state.
-- The sheet's refusals come first, then 11, then 9; a refused call leaves every byte as it was.
-- Assumes nothing.
use Rattle.std.specs.Prelude.{Bool, ◌&&◌, cond, List, ℕ, suc, ◌+◌, eqb, length}
use Rattle.plan.specs.Limits.{ours}
use Rattle.plan.specs.Judging.{Judged, is_fine, judged_refusal, judged_place}
use Rattle.plan.specs.declared.Limits.{Limits}
use Rattle.sheet.specs.Sheet.{sheet_within}
use Rattle.network.specs.declared.Network.{Network}
use Rattle.network.specs.FromPlan.{network_of}
use Rattle.verdict.specs.Check.{Verdict, check, verdict_number}
use Rattle.run.specs.State.{start}
use Rattle.run.specs.Bytes.{bytes_of, sound_bytes}
use Rattle.run.specs.declared.Order.{Order}
use Rattle.run.specs.declared.Order.TheVariants.{Request, Return, Wait, Flown, Off}
use Rattle.guarantee.specs.Answers.{pack, check_bits, unsound}
use Rattle.guarantee.specs.Machine.{Asked}
use Rattle.guarantee.specs.Calls.{call_bits, call_bytes}

-- the plan that a sheet holds, as the rules see it: to a caller with such limits, and to us
unfoldable pub network_within : Limits → List ℕ → Network
network_within most s = network_of (sheet_within most s).plan

abbrev pub network_in : List ℕ → Network
network_in s = network_within ours s

-- the sheet passes: refusals 1 to 8 are all absent, and for a caller with such limits 16
unfoldable pub passes : Verdict → Bool
passes v = eqb (verdict_number v) 0

abbrev pub passes_within : Limits → List ℕ → Bool
passes_within most s = is_fine (sheet_within most s).judged && passes (check (network_within most s))

unfoldable pub sheet_passes : List ℕ → Bool
sheet_passes s = passes_within ours s

-- the sheet is refused as it is read: 1 to 3, or 16, with their line
unfoldable pub judged_bits : Judged → ℕ
judged_bits j = pack 0 (judged_refusal j) (judged_place j)

-- check, for a caller with such limits: these, then 4 to 8, or accepted
unfoldable pub check_within : Limits → List ℕ → ℕ
check_within most s = cond (is_fine (sheet_within most s).judged) (check_bits (check (network_within most s))) (judged_bits (sheet_within most s).judged)

-- and for us
abbrev pub check_call : List ℕ → ℕ
check_call s = check_within ours s

-- start: it looks at no old byte of the state, only at how many there are
unfoldable pub start_call : List ℕ → List ℕ → ℕ
start_call s bs = cond (sheet_passes s) (cond (eqb (length bs) 65) (pack 6 0 0) unsound) (check_call s)

unfoldable pub start_leaves : List ℕ → List ℕ → List ℕ
start_leaves s bs = cond (sheet_passes s && eqb (length bs) 65) (bytes_of start) bs

-- next order and reply
unfoldable pub asked_call : List ℕ → List ℕ → Asked → ℕ
asked_call s bs q = cond (sheet_passes s) (call_bits (network_in s) bs q) (check_call s)

unfoldable pub asked_leaves : List ℕ → List ℕ → Asked → List ℕ
asked_leaves s bs q = cond (sheet_passes s) (call_bytes (network_in s) bs q) bs

-- ---- a campaign taken up: what a step needs of its sheet and its state

-- the sheet passes and the state is sound
unfoldable pub in_order : List ℕ → List ℕ → Bool
in_order s bs = sheet_passes s && sound_bytes (network_in s) bs

-- what is answered where they are not
unfoldable pub refused_with : List ℕ → ℕ
refused_with s = cond (sheet_passes s) unsound (check_call s)

-- what next order answers: its kind, and as its place a booking's number or, where the campaign is flown, the way
unfoldable pub order_kind : Order → ℕ
order_kind (Request x) = 1
order_kind (Return x) = 2
order_kind Wait = 3
order_kind (Flown w) = 4
order_kind Off = 5

unfoldable pub order_booking : Order → ℕ
order_booking (Request x) = suc x
order_booking (Return x) = suc x
order_booking Wait = 0
order_booking (Flown w) = 0
order_booking Off = 0

unfoldable pub order_way : Order → ℕ
order_way (Request x) = 0
order_way (Return x) = 0
order_way Wait = 0
order_way (Flown w) = w
order_way Off = 0

unfoldable pub order_place : Order → ℕ
order_place o = order_booking o + order_way o
