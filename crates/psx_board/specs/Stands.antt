-- That a board, which keeps no history, stands for a machine, and what a step tells.
use Rattle.std.specs.Prelude.{◌≡◌, ℕ, ◌%◌, ◌^◌, Bool, true, List, [], ◌∷◌, Option, Some, None, nat_eq, if◌then◌else◌}
use Rattle.psx_base.specs.Ports.{CONSOLE_DATA}
use Rattle.psx_base.specs.declared.stop.Stop.{Stop}
use Rattle.psx_base.specs.Items.{Item, R}
use Rattle.psx_cpu.specs.declared.step.Did.{Did}
use Rattle.psx_cpu.specs.declared.step.Did.TheVariants.{Plain, PortRead, PortWrite, Entered, Left, Stopped}
use Rattle.psx_cpu.specs.Processor.{Core}
use Rattle.psx_board.specs.Machine.{Machine}
use Rattle.psx_board.specs.Delivery.{delivered, line}
use Rattle.psx_board.specs.Devices.{KeptDevices, Carries}
use Rattle.psx_board.specs.Entries.{entry, return}
use Rattle.psx_board.specs.Turn.{Turn, On, Final, shown, write_shown}

-- what a board keeps; taken is the count of its devices
pub record View : Type 0 where
  pub core : Core
  pub devices : KeptDevices
  pub taken : ℕ
  pub stopped : Option Stop

-- before the first step is finished nothing has stopped, and the processor is on the kernel's side as at reset
pub record IsFresh (b : View) : Type 0 where
  pub stopped : b.stopped ≡ None
  pub latch : b.core.processor.latch ≡ true

abbrev pub IsSound : View → Type 0
IsSound b = b.taken ≡ 0 → IsFresh b

-- the devices are those of the coming step, which has its entries
pub record Stands (b : View) (m : Machine) : Type 0 where
  pub core : b.core ≡ m.core
  pub devices : Carries b.devices (delivered m).history (delivered m).waiting
  pub taken : b.taken ≡ m.history.now

-- the console byte that a step wrote
abbrev pub console_bytes : Did → List ℕ
console_bytes (PortWrite at value) = if nat_eq at CONSOLE_DATA then (value % 2 ^ 8) ∷ [] else []
console_bytes _ = []

-- the step went on
abbrev pub WentOn : Did → Type 0
WentOn (Stopped stop) = ⊥
WentOn _ = Unit {0}

-- the lines that a step made, from what it told and the core that it left; count is the one before it
abbrev pub told_items : Bool → Bool → ℕ → Did → Core → List Item
told_items began line count Plain k = []
told_items began line count (PortRead at value) k = shown began (R count at value)
told_items began line count (PortWrite at value) k = write_shown began count at value
told_items began line count (Entered code) k = shown began (entry count code line k)
told_items began line count Left k = return count began k ∷ []
told_items began line count (Stopped stop) k = []

-- whether the trace has begun after a step
abbrev pub begun : Bool → Did → Bool
begun began Left = true
begun began _ = began

-- what a step told and left is a turn, with the interrupt line and the count before it
abbrev pub TurnedBy : Bool → Bool → ℕ → Turn → Did → View → Type 0
TurnedBy began line count (On next items tty) did new = record {
  went_on : WentOn did;
  items : items ≡ told_items began line count did new.core;
  tty : tty ≡ console_bytes did;
  stands : Stands new next;
  began : next.began ≡ begun began did;
  stopped : new.stopped ≡ None;
}
TurnedBy began line count (Final last stop) did new = record { told : did ≡ Stopped stop; stands : Stands new last; stopped : new.stopped ≡ Some stop }

-- the same of a machine
abbrev pub Turned : Machine → Turn → Did → View → Type 0
Turned m turn did new = TurnedBy m.began (line m) m.history.now turn did new
