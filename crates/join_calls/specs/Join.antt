-- One sheet out of two. The first sheet's refusals 1 to 7 come first, then the second's, then 17, then 10.
-- Assumes nothing.
use Rattle.std.specs.Prelude.{ℕ, Bool, ◌&&◌, cond, List}
use Rattle.sheet.specs.Sheet.{sheet_of}
use Rattle.sheet.specs.Text.{sheet_text}
use Rattle.guarantee.specs.Answers.{pack}
use Rattle.lent_text.specs.Room.{room_bits, room_leaves}
use Rattle.calls.specs.Calls.{check_call}
use Rattle.clear.specs.Clear.{clear}
use Rattle.join.specs.Join.{joined_plan, joinable}

unfoldable pub fits : List ℕ → List ℕ → Bool
fits s t = joinable (sheet_of s).plan (sheet_of t).plan

unfoldable pub joined_text : List ℕ → List ℕ → List ℕ
joined_text s t = sheet_text (joined_plan (sheet_of s).plan (sheet_of t).plan)

unfoldable pub join_call : List ℕ → List ℕ → ℕ → ℕ
join_call s t size =
    cond (clear 7 s) (cond (clear 7 t) (cond (fits s t) (room_bits (joined_text s t) size) (pack 0 17 0)) (check_call t)) (check_call s)

unfoldable pub join_leaves : List ℕ → List ℕ → List ℕ → List ℕ
join_leaves s t d = cond (clear 7 s && (clear 7 t && fits s t)) (room_leaves (joined_text s t) d) d
