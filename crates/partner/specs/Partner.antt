-- The check of a partner range, whose gateway takes fewer bookings and ways than a sheet may have, and what it has in common with ours.
-- Assumes nothing.
use Rattle.std.specs.Prelude.{◌≡◌, true, false, List, ℕ, ◌≤◌, length, take}
use Rattle.plan.specs.Limits.{most_links}
use Rattle.plan.specs.declared.Limits.{Limits}
use Rattle.lines.specs.Form.{head_bytes}
use Rattle.lines.specs.Head.{booking_count_in, way_count_in}
use Rattle.sheet.specs.Sheet.{oversize}
use Rattle.guarantee.specs.Answers.{pack, refusal_of}
use Rattle.calls.specs.Calls.{check_within, check_call, sheet_passes}

-- at most 16 bookings and 4 ways, and as many links as ours
unfoldable pub theirs : Limits
theirs = record { bookings = 16; links = most_links; ways = 4 }

-- what the partner's call answers
abbrev pub partner_call : List ℕ → ℕ
partner_call s = check_within theirs s

-- ONE VERDICT, for all limits and all bytes
pub record OneVerdict (l m : Limits) (s : List ℕ) : Type 0 where
  -- a sheet that neither has to turn away for its size is answered by both alike
  pub same : oversize l s ≡ false → oversize m s ≡ false → check_within l s ≡ check_within m s
  -- one within our limits and over the caller's is 16 with line 1
  pub over : oversize l s ≡ true → check_within l s ≡ pack 0 16 1
  -- and no other is 16
  pub only : refusal_of (check_within l s) ≡ 16 → oversize l s ≡ true

-- so of the partner's call and ours
pub record BothCalls (s : List ℕ) : Type 0 where
  -- they give one answer wherever theirs is not 16
  pub same : (refusal_of (partner_call s) ≡ 16 → ⊥) → partner_call s ≡ check_call s
  -- theirs is 16, with line 1, for a sheet within our limits and over theirs
  pub over : oversize theirs s ≡ true → partner_call s ≡ pack 0 16 1
  pub only : refusal_of (partner_call s) ≡ 16 → oversize theirs s ≡ true
  -- ours never is
  pub never : refusal_of (check_call s) ≡ 16 → ⊥
  -- a sheet that theirs accepts has at most 16 bookings and 4 ways, by its head line, and 5,610 bytes; and campaigns on it have our whole guarantee
  pub few : partner_call s ≡ pack 6 0 0 → (booking_count_in (take head_bytes s) ≤ 16) × (way_count_in (take head_bytes s) ≤ 4)
  pub short : partner_call s ≡ pack 6 0 0 → length s ≤ 5610
  pub passes : partner_call s ≡ pack 6 0 0 → sheet_passes s ≡ true
  -- of any sheet the first 5,611 bytes decide, so a gateway needs to keep no more
  pub front : partner_call (take 5611 s) ≡ partner_call s
