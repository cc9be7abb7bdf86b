-- The report of an assembly text's fault in the parts in which it is sent: its front, and its label.
use Rattle.std.specs.Prelude.{ℕ, List, [], ◌++◌, codes, decimal}
use Rattle.psx_asm.specs.declared.fault.AsmFault.{AsmFault}
use Rattle.psx_asm.specs.declared.fault.AsmFault.TheVariants.{BadToken, UnknownWord, BadOperand, Twice, NoLabel, Range, Overlap}
use Rattle.psx_asm.specs.declared.fault.AsmError.{AsmError}
use Rattle.psx_asm.specs.declared.fault.AsmError.TheVariants.{TooLong, Line, Memory}
use Rattle.psx_trace.specs.Digits.{field}

abbrev pub fault_head : AsmFault → List ℕ
fault_head BadToken = codes "BadToken"
fault_head UnknownWord = codes "UnknownWord"
fault_head BadOperand = codes "BadOperand"
fault_head (Twice label) = codes "Twice "
fault_head (NoLabel label) = codes "NoLabel "
fault_head (Range value) = codes "Range" ++ field value
fault_head Overlap = codes "Overlap"

abbrev pub fault_label : AsmFault → List ℕ
fault_label (Twice label) = label
fault_label (NoLabel label) = label
fault_label _ = []

abbrev pub error_head : AsmError → List ℕ
error_head (TooLong limit) = codes "TooLong " ++ decimal limit
error_head (Line line fault) = codes "line " ++ (decimal line ++ (codes ": " ++ fault_head fault))
error_head Memory = codes "Memory"

abbrev pub error_label : AsmError → List ℕ
error_label (Line line fault) = fault_label fault
error_label _ = []
