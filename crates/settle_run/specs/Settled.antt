-- What accounts' program prints of three texts: the report, or the refusal as the drill prints it.
-- Assumes nothing.
use Rattle.std.specs.Prelude.{ℕ, cond, List}
use Rattle.report.specs.Report.{report_length}
use Rattle.drill_lines.specs.Printed.{printed_text}
use Rattle.settle_calls.specs.Settle.{report_in, settles, settle_call}

-- no report is longer than that of 64 bookings and 16 ways; with room for it no refusal is 10
abbrev pub longest_report : ℕ
longest_report = report_length 64 16

unfoldable pub settled_text : List ℕ → List ℕ → List ℕ → List ℕ
settled_text s fees journal = cond (settles s fees journal) (report_in s fees journal) (printed_text (settle_call s fees journal longest_report))
