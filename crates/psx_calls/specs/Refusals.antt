-- Why nothing is shown: the status and the line that is reported.
use Rattle.std.specs.Prelude.{ℕ, List, ◌++◌, codes, decimal}
use Rattle.psx_calls.specs.declared.refusal.Refusal.{Refusal}
use Rattle.psx_calls.specs.declared.refusal.Refusal.TheVariants.{Usage, Read, Trace}
use Rattle.psx_calls.specs.declared.shown.Fault.{Fault}
use Rattle.psx_calls.specs.declared.shown.Fault.TheVariants.{TooLong, BadLine, Misplaced, Memory}

-- 1 at a fault of the trace
abbrev pub fault_status : Fault → ℕ
fault_status (TooLong limit) = 1
fault_status (BadLine line) = 1
fault_status (Misplaced line) = 1
fault_status Memory = 7

abbrev pub status_of : Refusal → ℕ
status_of Usage = 2
status_of Read = 5
status_of (Trace fault) = fault_status fault

-- a fault with its line, or with the limit
abbrev pub fault_text : Fault → List ℕ
fault_text (TooLong limit) = codes "psx_calls: trace: TooLong " ++ decimal limit
fault_text (BadLine line) = codes "psx_calls: trace: BadLine " ++ decimal line
fault_text (Misplaced line) = codes "psx_calls: trace: Misplaced " ++ decimal line
fault_text Memory = codes "psx_calls: memory"

abbrev pub report_text : Refusal → List ℕ
report_text Usage = codes "psx_calls: usage: psx_calls [hex|dec] <psxk.trace"
report_text Read = codes "psx_calls: read"
report_text (Trace fault) = fault_text fault

abbrev pub report : Refusal → List ℕ
report refusal = report_text refusal ++ codes "\n"
