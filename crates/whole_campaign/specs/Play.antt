-- A list of calls and their answers as bytes, and what playing the list gives and leaves.
-- A call has ten bytes: 0 for next order, 1 for a block, any other byte for a reply; the reply's letter; two numbers of 32 bits, high byte
-- first: the reply's booking, or where the block begins among the blocks' bytes; and the block's length, less where these bytes end before.
-- An answer has 69: its 32 bits, high byte first, and the state's 65 bytes after the call.
-- Assumes nothing.
use Rattle.std.specs.Prelude.{Bool, ◌&&◌, cond, List, [], ◌∷◌, ◌++◌, ℕ, zero, suc, ◌+◌, ◌*◌, ◌/◌, ◌%◌, eqb, leb, length, get_or, take, drop}
use Rattle.std.proofs.lemmas.List.Edits.{sets}
use Rattle.run.specs.State.{start}
use Rattle.run.specs.Bytes.{bytes_of}
use Rattle.guarantee.specs.Answers.{pack}
use Rattle.guarantee.specs.Machine.{next_order, replied}
use Rattle.calls.specs.Calls.{sheet_passes, check_call}
use Rattle.whole_campaign.specs.Calls.{Call, single, block}
use Rattle.whole_campaign.specs.Lists.{answers_on, states_on}

-- 32 bits at a place, high byte first, and as bytes
unfoldable pub word_at : List ℕ → ℕ → ℕ
word_at bytes at = get_or bytes at 0 * 16777216 + get_or bytes (at + 1) 0 * 65536 + get_or bytes (at + 2) 0 * 256 + get_or bytes (at + 3) 0

unfoldable pub word_text : ℕ → List ℕ
word_text x = x / 16777216 ∷ x / 65536 % 256 ∷ x / 256 % 256 ∷ x % 256 ∷ []

-- the call at index i
unfoldable pub call_at : List ℕ → List ℕ → ℕ → Call
call_at bytes blocks i =
    cond (eqb (get_or bytes (10 * i) 0) 0) (single next_order)
    (cond (eqb (get_or bytes (10 * i) 0) 1) (block (take (word_at bytes (10 * i + 6)) (drop (word_at bytes (10 * i + 2)) blocks)))
    (single (replied (get_or bytes (10 * i + 1) 0) (word_at bytes (10 * i + 2)))))

-- so many calls from index i on
unfoldable pub list_from : ℕ → ℕ → List ℕ → List ℕ → List Call
list_from zero i bytes blocks = []
list_from (suc more) i bytes blocks = call_at bytes blocks i ∷ list_from more (i + 1) bytes blocks

-- the calls in a list of bytes; fewer than ten bytes at the end are none
unfoldable pub list_in : List ℕ → List ℕ → List Call
list_in bytes blocks = list_from (length bytes / 10) 0 bytes blocks

-- answers with the states after them, as bytes
unfoldable pub recorded : List ℕ → List (List ℕ) → List ℕ
recorded [] states = []
recorded (x ∷ xs) [] = []
recorded (x ∷ xs) (bs ∷ states) = word_text x ++ (bs ++ recorded xs states)

-- all that the calls give, from a state on
unfoldable pub record_of : List ℕ → List ℕ → List Call → List ℕ
record_of s bs cs = recorded (answers_on s bs cs) (states_on s bs cs)

-- there is room for the answers
unfoldable pub roomy : List ℕ → ℕ → Bool
roomy calls size = leb (length calls / 10) (size / 69)

-- the sheet's refusal, 10 where there is too little room, or accepted
unfoldable pub play_call : List ℕ → List ℕ → ℕ → ℕ
play_call s calls size = cond (sheet_passes s) (cond (roomy calls size) (pack 6 0 0) (pack 0 10 0)) (check_call s)

-- the answers stand at the front; later bytes, and all bytes where playing is refused, keep their values
unfoldable pub play_leaves : List ℕ → List ℕ → List ℕ → List ℕ → List ℕ
play_leaves s calls blocks d = cond (sheet_passes s && roomy calls (length d)) (sets d 0 (record_of s (bytes_of start) (list_in calls blocks))) d
