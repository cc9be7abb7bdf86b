-- The text of a stop.
use Rattle.std.specs.Prelude.{ℕ, List, ◌++◌, codes}
use Rattle.psx_base.specs.declared.stop.Stop.{Stop}
use Rattle.psx_base.specs.declared.stop.Stop.TheVariants.{Exit, Budget, UserFetch, UserData, Protected, SlotBranch, Exception, Unserved, BadPointer, BadThread, Deep, BadReturn}
use Rattle.psx_base.specs.declared.stop.Table.{Table}
use Rattle.psx_base.specs.declared.stop.Table.TheVariants.{A, B, C, Sys}
use Rattle.psx_trace.specs.Digits.{field, mark}

-- the letter of a table: A, B, C, and Y for a SYSCALL
abbrev pub table_letter : Table → ℕ
table_letter A = 65
table_letter B = 66
table_letter C = 67
table_letter Sys = 89

-- a stop by its name and its fields in order
unfoldable pub stop_text : Stop → List ℕ
stop_text (Exit code) = codes "Exit" ++ field code
stop_text Budget = codes "Budget"
stop_text (UserFetch at) = codes "UserFetch" ++ field at
stop_text (UserData pc at) = codes "UserData" ++ field pc ++ field at
stop_text (Protected pc) = codes "Protected" ++ field pc
stop_text (SlotBranch pc) = codes "SlotBranch" ++ field pc
stop_text (Exception code pc) = codes "Exception" ++ field code ++ field pc
stop_text (Unserved table number ra) = codes "Unserved" ++ mark (table_letter table) ++ field number ++ field ra
stop_text (BadPointer at ra) = codes "BadPointer" ++ field at ++ field ra
stop_text (BadThread number ra) = codes "BadThread" ++ field number ++ field ra
stop_text (Deep ra) = codes "Deep" ++ field ra
stop_text (BadReturn ra) = codes "BadReturn" ++ field ra
