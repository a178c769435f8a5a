-- What writing a record's sheet gives, and what it leaves in the lent buffer.
-- Assumes nothing.
use Rattle.std.specs.Prelude.{ℕ, List, ◌++◌, cond, length, drop, leb, ⊤, Result, Ok, Err}
use Rattle.plan.specs.Record.{record_of}
use Rattle.plan.specs.declared.Plan.{Plan}
use Rattle.plan.specs.declared.RecordFault.{RecordFault}
use Rattle.plan.specs.declared.RecordFault.TheVariants as R
use Rattle.sheet.specs.Text.{sheet_text}
use Rattle.writer.specs.declared.WriteFault.{WriteFault}
use Rattle.writer.specs.declared.WriteFault.TheVariants.{Count, Sequence, Short}

-- why the sheet of a record that is refused is not written
abbrev pub write_fault : RecordFault → WriteFault
write_fault R.Count = Count
write_fault R.Sequence = Sequence

-- a record that is fine: its sheet fits into a buffer of so many bytes, or not
unfoldable pub fine_answer : Plan → ℕ → Result ℕ WriteFault
fine_answer p size = cond (leb (length (sheet_text p)) size) (Ok (length (sheet_text p))) (Err Short)

-- the counts are judged first, then the entries, and the buffer last
abbrev pub answer_by : Result ⊤ RecordFault → Plan → ℕ → Result ℕ WriteFault
answer_by (Ok fine) p size = fine_answer p size
answer_by (Err fault) p size = Err (write_fault fault)

unfoldable pub written_of : Plan → ℕ → Result ℕ WriteFault
written_of p size = answer_by (record_of p) p size

-- the sheet at the front and the later bytes as they were; or, where no length is given, every byte as it was
abbrev pub left_by : Result ℕ WriteFault → Plan → List ℕ → List ℕ
left_by (Ok k) p d = sheet_text p ++ drop k d
left_by (Err fault) p d = d

unfoldable pub leaves : Plan → List ℕ → List ℕ
leaves p d = left_by (written_of p (length d)) p d

-- the numbers of the refusals: 2 a count, 3 an entry, 10 the buffer; 0 is none. The place of each is 0
abbrev pub write_refusal : WriteFault → ℕ
write_refusal Count = 2
write_refusal Sequence = 3
write_refusal Short = 10

abbrev pub written_refusal : Result ℕ WriteFault → ℕ
written_refusal (Ok k) = 0
written_refusal (Err fault) = write_refusal fault
