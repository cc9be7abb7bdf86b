-- The lines that are reported.
use Rattle.std.specs.Prelude.{ℕ, List, ◌++◌, codes, decimal}
use Rattle.psx_base.specs.declared.stop.Stop.{Stop}
use Rattle.psx_exe.specs.declared.fault.ExeError.{ExeError}
use Rattle.psx_exe.specs.declared.fault.ExeError.TheVariants.{TooLong, Short, NoMark, TextRange, Truncated, FillRange, BadPc, Memory}
use Rattle.psx_sched.specs.declared.fault.SchedError.{SchedError}
use Rattle.psx_sched.specs.declared.fault.SchedError.TheVariants.{TooLong as SchedTooLong, BadLine, OutOfOrder, TooMany, Memory as SchedMemory}
use Rattle.psxk_run.specs.declared.configuration.ConfError.{ConfError}
use Rattle.psxk_run.specs.declared.configuration.ConfError.TheVariants.{TooLong as ConfTooLong, BadLine as ConfBadLine, Range}
use Rattle.psx_asm.specs.declared.fault.AsmFault.{AsmFault}
use Rattle.psx_asm.specs.declared.fault.AsmFault.TheVariants.{BadToken, UnknownWord, BadOperand, Twice, NoLabel, Range as AsmRange, Overlap}
use Rattle.psx_asm.specs.declared.fault.AsmError.{AsmError}
use Rattle.psx_asm.specs.declared.fault.AsmError.TheVariants.{TooLong as AsmTooLong, Line, Memory as AsmMemory}
use Rattle.psx_trace.specs.Digits.{field}
use Rattle.psx_trace.specs.StopText.{stop_text}

-- what makes a file no program, by its name and its field: an address in eight digits, a limit or a need in decimal
unfoldable pub exe_error_text : ExeError → List ℕ
exe_error_text (TooLong limit) = codes "TooLong " ++ decimal limit
exe_error_text Short = codes "Short"
exe_error_text NoMark = codes "NoMark"
exe_error_text (TextRange at) = codes "TextRange" ++ field at
exe_error_text (Truncated need) = codes "Truncated " ++ decimal need
exe_error_text (FillRange at) = codes "FillRange" ++ field at
exe_error_text (BadPc pc) = codes "BadPc" ++ field pc
exe_error_text Memory = codes "Memory"

abbrev pub exe_line : ExeError → List ℕ
exe_line error = codes "psxk: exe: " ++ (exe_error_text error ++ codes "\n")

abbrev pub stop_line : Stop → List ℕ
stop_line stop = codes "psxk: stopped " ++ (stop_text stop ++ codes "\n")

-- what makes a text no schedule, by its name and its field in decimal
unfoldable pub schedule_error_text : SchedError → List ℕ
schedule_error_text (SchedTooLong limit) = codes "TooLong " ++ decimal limit
schedule_error_text (BadLine line) = codes "BadLine " ++ decimal line
schedule_error_text (OutOfOrder line) = codes "OutOfOrder " ++ decimal line
schedule_error_text TooMany = codes "TooMany"
schedule_error_text SchedMemory = codes "Memory"

abbrev pub schedule_line : SchedError → List ℕ
schedule_line error = codes "psxk: schedule: " ++ (schedule_error_text error ++ codes "\n")

-- what makes a text no configuration
unfoldable pub config_error_text : ConfError → List ℕ
config_error_text (ConfTooLong limit) = codes "TooLong " ++ decimal limit
config_error_text (ConfBadLine line) = codes "BadLine " ++ decimal line
config_error_text (Range line) = codes "Range " ++ decimal line

abbrev pub config_line : ConfError → List ℕ
config_line error = codes "psxk: config: " ++ (config_error_text error ++ codes "\n")

-- what is wrong with a line of an assembly text, by its name and its field: a value in eight digits, or a label
unfoldable pub asm_fault_text : AsmFault → List ℕ
asm_fault_text BadToken = codes "BadToken"
asm_fault_text UnknownWord = codes "UnknownWord"
asm_fault_text BadOperand = codes "BadOperand"
asm_fault_text (Twice label) = codes "Twice " ++ label
asm_fault_text (NoLabel label) = codes "NoLabel " ++ label
asm_fault_text (AsmRange value) = codes "Range" ++ field value
asm_fault_text Overlap = codes "Overlap"

-- what makes a text no assembly text
unfoldable pub asm_error_text : AsmError → List ℕ
asm_error_text (AsmTooLong limit) = codes "TooLong " ++ decimal limit
asm_error_text (Line line fault) = codes "line " ++ (decimal line ++ (codes ": " ++ asm_fault_text fault))
asm_error_text AsmMemory = codes "Memory"

abbrev pub text_line : AsmError → List ℕ
text_line error = codes "psxk: text: " ++ (asm_error_text error ++ codes "\n")

-- the line of words that are in no command's form
abbrev pub usage_line : List ℕ
usage_line = codes "psxk: usage: run EXE SCHED BUDGET [CNF], image, asm TEXT, dis EXE, gen N\n"

-- the line of a file that wasn't read
abbrev pub read_line : List ℕ → List ℕ
read_line name = codes "psxk: read " ++ (name ++ codes "\n")

-- the line of want of memory
abbrev pub memory_line : List ℕ
memory_line = codes "psxk: memory\n"
