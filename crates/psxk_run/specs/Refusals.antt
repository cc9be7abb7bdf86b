-- How a refusal is told: its line and its status.
use Rattle.std.specs.Prelude.{ℕ, List}
use Rattle.psxk_run.specs.declared.refusal.Refusal.{Refusal}
use Rattle.psxk_run.specs.declared.refusal.Refusal.TheVariants.{Program, Schedule, Config, Text, Unread, Memory}
use Rattle.psxk_run.specs.Reports.{exe_line, schedule_line, config_line, text_line, read_line, memory_line}

abbrev pub line_of : Refusal → List ℕ
line_of (Program fault) = exe_line fault
line_of (Schedule fault) = schedule_line fault
line_of (Config fault) = config_line fault
line_of (Text fault) = text_line fault
line_of (Unread name) = read_line name.now
line_of Memory = memory_line

abbrev pub status_of : Refusal → ℕ
status_of (Program fault) = 3
status_of (Schedule fault) = 4
status_of (Config fault) = 9
status_of (Text fault) = 8
status_of (Unread name) = 5
status_of Memory = 7
