-- One step of user code, as the written kernel machine makes it: a fetch at a gate reads the word of SYSCALL.
use Rattle.std.specs.Prelude.{ℕ, false, is_some, Option, Some, None, if◌then◌else◌}
use Rattle.psx_ins.specs.declared.ins.Ins.{Ins}
use Rattle.psx_base.specs.declared.stop.Stop.{Stop}
use Rattle.psx_base.specs.Addresses.{gate_of}
use Rattle.psx_base.specs.Memory.{Memory}
use Rattle.psx_base.specs.Context.{Context}
use Rattle.psx_cpu.specs.Processor.{Cop0, Trap, idle}
use Rattle.psx_cpu.specs.DataAccess.{read_word}
use Rattle.psx_cpu.specs.Effect.{effect}
use Rattle.psx_cpu.specs.Traps.{own_trap}
use Rattle.psx_cpu.specs.Guard.{guard}

-- the step goes on, raises an exception, or is stopped by the guard
pub data UserMove : Type 0 where
  Next : (context : Context) (bytes : Memory) → UserMove
  Raises : (trap : Trap) → UserMove
  Halts : (stop : Stop) → UserMove

-- what user code never sees
abbrev unseen : Cop0
unseen = record { sr = 0; cause = 0; epc = 0; bad_address = 0 }

abbrev pub fetched : Context → Memory → ℕ
fetched c m = if is_some (gate_of c.pc) then 0x0000000C else read_word m c.pc

abbrev pub user_performed : Context → Memory → Ins → Option Trap → UserMove
user_performed c m i (Some trap) = Raises trap
user_performed c m i None = let x = effect i (record { context = c; cop0 = unseen; bytes = m }) idle in Next x.context x.bytes

unfoldable pub user_step : Context → Memory → UserMove
user_step c m = guard Halts Raises (λ i. user_performed c m i (own_trap i c)) c false (fetched c m)
