-- What a write to the halt port stops with, from its code and the three words.
use Rattle.std.specs.Prelude.{ℕ, zero, suc, Option, Some, None}
use Rattle.psx_base.specs.declared.stop.Table.{Table}
use Rattle.psx_base.specs.declared.stop.Table.TheVariants.{A, B, C, Sys}
use Rattle.psx_base.specs.declared.stop.Stop.{Stop}
use Rattle.psx_base.specs.declared.stop.Stop.TheVariants.{Exit, Exception, Unserved, BadPointer, BadThread, Deep, BadReturn}

-- 0 A, 1 B, 2 C, any other SYSCALL
abbrev pub table_of : ℕ → Table
table_of zero = A
table_of (suc zero) = B
table_of (suc (suc zero)) = C
table_of _ = Sys

-- another code than 1 to 7 stops nothing
abbrev pub halt_stop : ℕ → ℕ → ℕ → ℕ → Option Stop
halt_stop zero a b c = None
halt_stop (suc zero) a b c = Some (Exit a)
halt_stop (suc (suc zero)) a b c = Some (Exception a b)
halt_stop (suc (suc (suc zero))) a b c = Some (Unserved (table_of a) b c)
halt_stop (suc (suc (suc (suc zero)))) a b c = Some (BadPointer a b)
halt_stop (suc (suc (suc (suc (suc zero))))) a b c = Some (BadThread a b)
halt_stop (suc (suc (suc (suc (suc (suc zero)))))) a b c = Some (Deep a)
halt_stop (suc (suc (suc (suc (suc (suc (suc zero))))))) a b c = Some (BadReturn a)
halt_stop _ a b c = None
