-- An invariant of the state and the device history at user moments, by which the entries of runs are covered.
use Rattle.std.specs.Prelude.{◌≡◌, ◌⊎◌, ℕ, ◌%◌, ◌^◌, ◌≤◌, Bool, true, ◌&&◌, nat_le, List, [], ◌∷◌, if◌then◌else◌}
use Rattle.psx_base.specs.Ports.{CONSOLE_DATA, HALT, HALT_A}
use Rattle.psx_base.specs.declared.stop.Sizes.{Sizes}
use Rattle.psx_base.specs.Context.{Context}
use Rattle.psx_base.specs.Memory.{Memory}
use Rattle.psx_base.specs.Items.{Entrance, Item, E}
use Rattle.psx_base.specs.KernelState.{KernelState}
use Rattle.psx_exe.specs.declared.exe.Exe.{Exe}
use Rattle.psx_cpu.specs.Processor.{Trap}
use Rattle.psx_cpu.specs.UserStep.{Next, Raises}
use Rattle.psx_ports.specs.History.{History, Event, Read, Write, Raise, Give, then_event, line}
use Rattle.psx_board.specs.Machine.{given}
use Rattle.kern_layout.specs.Start.{SizesFit}
use Rattle.kern_layout.specs.Valid.{Valid}
use Rattle.abs_kernel.specs.Cause.{entry_of}
use Rattle.abs_kernel.specs.Stay.{Stay, Return, Halt, Ask, Tell, Write, Touch}
use Rattle.abs_kernel.specs.Stay as Stays
use Rattle.abs_kernel.specs.KernelStep.{stay_of}
use Rattle.abs_kernel.specs.UserLaws.{stepped}
use Rattle.abs_run.specs.Accepted.{IsAccepted, opening}
use Rattle.abs_run.specs.Entered.{coming, interrupt}
use Rattle.abs_run.specs.Serves.{is_start_port}

-- ---- histories

abbrev pub is_halt_port : ℕ → Bool
is_halt_port at = nat_le HALT_A at && nat_le at HALT

-- the accesses to ports, but for the writes of the halt ports
abbrev pub accesses_of : List Event → List Event
accesses_of [] = []
accesses_of (Read count at ∷ before) = Read count at ∷ accesses_of before
accesses_of (Write count at value ∷ before) = if is_halt_port at then accesses_of before else Write count at value ∷ accesses_of before
accesses_of (Raise count line ∷ before) = accesses_of before
accesses_of (Give count byte ∷ before) = accesses_of before

-- time passes, without an access
pub record Passes (h later : History) : Type 0 where
  pub given : later.given ≡ h.given
  pub accesses : accesses_of later.events ≡ accesses_of h.events
  pub now : h.now ≤ later.now

-- only start ports were read
abbrev pub OnlyStartReads : List Event → Type 0
OnlyStartReads [] = Unit {0}
OnlyStartReads (Read count at ∷ before) = (is_start_port at ≡ true) × OnlyStartReads before
OnlyStartReads (_ ∷ before) = ⊥

-- ---- invariants

-- an entry out of a state and a history may be made: an interrupt, only where a line that isn't masked is pending
abbrev pub EntersAt : KernelState → History → Trap → Type 0
EntersAt s h trap = (coming s ≡ Raises trap) ⊎ ((trap ≡ interrupt) × (s.running.interrupts ≡ true) × (line h ≡ true))

-- where a stay returns, this holds of the state and the history, whatever the ports answer and however long it takes
abbrev pub ReturnsTo : (KernelState → History → Type 0) → Stay → History → Type 0
ReturnsTo P (Return state) h = P state h
ReturnsTo P (Halt stop memory) h = Unit {0}
ReturnsTo P (Ask port next) h = (now : History) (value : ℕ) → Passes h now → ReturnsTo P (next value) (then_event now (Read now.now port))
ReturnsTo P (Tell port value next) h = (now : History) → Passes h now → ReturnsTo P next (then_event now (Write now.now port value))
ReturnsTo P (Stays.Write byte next) h = (now : History) (value : ℕ) → Passes h now → value % 2 ^ 8 ≡ byte → ReturnsTo P next (then_event now (Write now.now CONSOLE_DATA value))
ReturnsTo P (Touch bytes next) h = ReturnsTo P next h

-- `keeps` holds as the program begins, is kept by time, user steps and covered stays, and where it holds each entry is covered. Of an entry `shows` is known, which the run's trace tells.
pub record IsInvariant (covers : KernelState → ℕ → Type 0) (keeps : KernelState → History → Type 0) (shows : Entrance → ℕ → Type 0) : Type 0 where
  pub begins : (exe : Exe) (sizes : Sizes) (h : History) → IsAccepted exe → SizesFit sizes → h.given ≡ given exe sizes → OnlyStartReads (accesses_of h.events) → keeps (opening exe sizes) h
  pub time : (s : KernelState) (h later : History) → keeps s h → Passes h later → keeps s later
  pub user : (s : KernelState) (h : History) (c : Context) (m : Memory) → Valid s → keeps s h → coming s ≡ Next c m → keeps (stepped s c m) h
  pub stay : (s : KernelState) (h : History) (trap : Trap) → Valid s → keeps s h → EntersAt s h trap → covers s trap.code → ReturnsTo keeps (stay_of s trap.code) h
  pub covered : (s : KernelState) (h : History) (trap : Trap) → Valid s → keeps s h → EntersAt s h trap
      → let e = entry_of s.running.context trap.code in shows e.gate e.number → covers s trap.code

-- each entry that a trace shows is so
abbrev pub EachEntry : (Entrance → ℕ → Type 0) → List Item → Type 0
EachEntry shows [] = Unit {0}
EachEntry shows (E count cause epc gate number ∷ rest) = shows gate number × EachEntry shows rest
EachEntry shows (_ ∷ rest) = EachEntry shows rest
