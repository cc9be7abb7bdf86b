-- A stay in the kernel: what is done between an entry and the return to the user side, as a program that asks.
use Rattle.std.specs.Prelude.{ℕ}
use Rattle.psx_base.specs.declared.stop.Stop.{Stop}
use Rattle.psx_base.specs.Memory.{Memory}
use Rattle.psx_base.specs.KernelState.{KernelState}

-- It returns with a state; or halts with a stop and the user's memory; or reads a port and goes on by the answer; or writes a port; or writes a byte to the console;
-- or reads, writes or tests so many bytes of user memory, which nothing outside shows.
pub data Stay : Type 0 where
  Return : (state : KernelState) → Stay
  Halt : (stop : Stop) (memory : Memory) → Stay
  Ask : (port : ℕ) (next : ℕ → Stay) → Stay
  Tell : (port value : ℕ) (next : Stay) → Stay
  Write : (byte : ℕ) (next : Stay) → Stay
  Touch : (bytes : ℕ) (next : Stay) → Stay
