-- What holds of the runs of a ROM that serves, and of kernel runs.
use Rattle.std.specs.Prelude.{◌≡◌, ◌≢◌, ◌⊎◌, ℕ, ◌<◌, ◌≤◌, Bool, true, false, List, [], ◌∷◌}
use Rattle.psx_base.specs.declared.stop.Stop.TheVariants.{Budget}
use Rattle.psx_base.specs.declared.stop.Sizes.{Sizes}
use Rattle.psx_base.specs.Memory.{Memory}
use Rattle.psx_base.specs.Items.{Entrance, Item, B, E, R, W, X, S}
use Rattle.psx_base.specs.KernelState.{KernelState}
use Rattle.psx_sched.specs.declared.schedule.Entry.{Entry}
use Rattle.psx_exe.specs.declared.exe.Exe.{Exe}
use Rattle.psx_ports.specs.History.{History}
use Rattle.psx_board.specs.Run.{board_run}
use Rattle.kern_layout.specs.Start.{SizesFit}
use Rattle.kern_layout.specs.Stands.{SameUser}
use Rattle.abs_run.specs.Accepted.{IsAccepted, AreBytes}
use Rattle.abs_kernel.specs.Stay.{Stay}
use Rattle.abs_run.specs.InKernel.{InKernel}
use Rattle.abs_run.specs.Serves.{Runs, ServesRom}
use Rattle.abs_run.specs.InTime.{InterruptsInTime}
use Rattle.abs_run.specs.Lists.{ServesLists}
use Rattle.abs_run.specs.KernelRun.{KernelRun}
use Rattle.abs_run.specs.Invariant.{IsInvariant, EachEntry}

-- Where a ROM serves what is covered, each run of the board whose entries are covered is a kernel run of its program, whatever the schedule and the budget.
abbrev pub BoardRuns : (KernelState → ℕ → Type 0) → (KernelState → History → Type 0) → (Entrance → ℕ → Type 0) → Type 0
BoardRuns covers keeps shows =
    (rom : List ℕ) → ServesRom covers rom → IsInvariant covers keeps shows
    → (exe : Exe) (sizes : Sizes) (schedule : List Entry) (budget : ℕ) → IsAccepted exe → SizesFit sizes → AreBytes schedule
    → let o = board_run rom exe sizes schedule budget in EachEntry shows o.items → KernelRun exe sizes o.items o.tty o.last.core.bytes

-- the boot ends after its number of steps, or before it by the budget
abbrev pub BootsIn : ℕ → (budget : ℕ) → List Item → Type 0
BootsIn steps budget items = ((budget < steps) × (items ≡ S budget Budget ∷ [])) ⊎ ((steps ≤ budget) × (rest : List Item) × (items ≡ B steps ∷ rest))

-- and this number is the same for all programs, sizes, schedules and budgets
abbrev pub BoardBoots : (KernelState → ℕ → Type 0) → Type 0
BoardBoots covers =
    (rom : List ℕ) (serves : ServesRom covers rom) (exe : Exe) (sizes : Sizes) (schedule : List Entry) (budget : ℕ) → IsAccepted exe → SizesFit sizes → AreBytes schedule
    → BootsIn serves.boot_steps budget (board_run rom exe sizes schedule budget).items

-- ---- kernel runs

-- Whether a stop may be in a stay or is in user code is seen from the items: no Budget ends these in a stay. There the console bytes may end anywhere between two items.
abbrev pub EndsWhole : (in_stay : Bool) → List Item → Type 0
EndsWhole in_stay [] = Unit {0}
EndsWhole in_stay (B count ∷ rest) = EndsWhole false rest
EndsWhole in_stay (E count cause epc gate number ∷ rest) = EndsWhole true rest
EndsWhole in_stay (R count at value ∷ rest) = EndsWhole in_stay rest
EndsWhole in_stay (W count at value ∷ rest) = EndsWhole in_stay rest
EndsWhole in_stay (X count pc sr regs ∷ rest) = EndsWhole false rest
EndsWhole true (S count stop ∷ rest) = stop ≢ Budget
EndsWhole false (S count stop ∷ rest) = Unit {0}

-- The items of a kernel run determine its console bytes and, at its end, the user's memory.
abbrev pub ItemsDetermine : Type 0
ItemsDetermine =
    (exe : Exe) (sizes : Sizes) (items : List Item) (tty other_tty : List ℕ) (ram other_ram : Memory) → KernelRun exe sizes items tty ram → KernelRun exe sizes items other_tty other_ram
    → EndsWhole false items → (tty ≡ other_tty) × SameUser ram other_ram

-- ---- stays

-- Words that make a stay step by step make it with each list of answers, in as many steps as the bound and 128 for each that it touches.
abbrev pub ListsAreServed : Type 0
ListsAreServed = (rom : List ℕ) (stay : Stay) (bound : ℕ) (k : InKernel) → Runs rom stay bound k → ServesLists rom stay bound k

-- ---- where everything is served

abbrev pub always : KernelState → ℕ → Type 0
always s code = Unit {0}

-- Where a ROM serves what is covered, each interrupt of such a run returns in time.
abbrev pub BoardReturnsInTime : (KernelState → ℕ → Type 0) → (KernelState → History → Type 0) → (Entrance → ℕ → Type 0) → Type 0
BoardReturnsInTime covers keeps shows =
    (rom : List ℕ) → ServesRom covers rom → IsInvariant covers keeps shows
    → (exe : Exe) (sizes : Sizes) (schedule : List Entry) (budget : ℕ) → IsAccepted exe → SizesFit sizes → AreBytes schedule
    → let o = board_run rom exe sizes schedule budget in EachEntry shows o.items → InterruptsInTime o.items

abbrev pub EveryInterrupt : Type 0
EveryInterrupt =
    (rom : List ℕ) → ServesRom always rom → (exe : Exe) (sizes : Sizes) (schedule : List Entry) (budget : ℕ) → IsAccepted exe → SizesFit sizes → AreBytes schedule
    → InterruptsInTime (board_run rom exe sizes schedule budget).items

-- Where a ROM serves every entry, each run of the board is a kernel run of its program.
abbrev pub EveryRun : Type 0
EveryRun =
    (rom : List ℕ) → ServesRom always rom → (exe : Exe) (sizes : Sizes) (schedule : List Entry) (budget : ℕ) → IsAccepted exe → SizesFit sizes → AreBytes schedule
    → let o = board_run rom exe sizes schedule budget in KernelRun exe sizes o.items o.tty o.last.core.bytes
