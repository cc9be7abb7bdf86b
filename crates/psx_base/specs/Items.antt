-- The items of a trace.
use Rattle.std.specs.Prelude.{ℕ}
use Rattle.psx_base.specs.declared.stop.Stop.{Stop}
use Rattle.psx_base.specs.Registers.{Registers}

-- By what the kernel was entered: the three gates of calls, a SYSCALL outside the gates, an interrupt, the gates of the program's and of a callback's return, any other exception.
pub data Entrance : Type 0 where
  ByA : Entrance
  ByB : Entrance
  ByC : Entrance
  BySyscall : Entrance
  ByInterrupt : Entrance
  ByDone : Entrance
  ByBack : Entrance
  ByTrap : Entrance

-- B: the first return to the user side. E: an entry. R, W: a read or write of a port. X: a further return, with the registers. S: the stop.
-- Each has its count: of E, R and W the one before the step, of B and X the one after it, of S the number of finished steps.
pub data Item : Type 0 where
  B : (count : ℕ) → Item
  E : (count cause epc : ℕ) (gate : Entrance) (number : ℕ) → Item
  R : (count at value : ℕ) → Item
  W : (count at value : ℕ) → Item
  X : (count pc sr : ℕ) (regs : Registers) → Item
  S : (count : ℕ) (stop : Stop) → Item
