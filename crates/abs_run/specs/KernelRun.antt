-- Which traces, console bytes and memories the written kernel machine has.
use Rattle.std.specs.Prelude.{◌≡◌, ◌≢◌, ◌⊎◌, ℕ, ◌+◌, ◌<◌, ◌≤◌, List, [], ◌∷◌, ◌++◌, take}
use Rattle.psx_base.specs.declared.stop.Stop.{Stop}
use Rattle.psx_base.specs.declared.stop.Stop.TheVariants.{Budget}
use Rattle.psx_base.specs.declared.stop.Sizes.{Sizes}
use Rattle.psx_base.specs.Memory.{Memory}
use Rattle.psx_base.specs.Registers.{Registers}
use Rattle.psx_base.specs.Items.{Item, B, E, R, W, X, S}
use Rattle.psx_base.specs.KernelState.{KernelState}
use Rattle.psx_exe.specs.declared.exe.Exe.{Exe}
use Rattle.psx_cpu.specs.Processor.{Trap}
use Rattle.psx_cpu.specs.UserStep.{Halts}
use Rattle.kern_layout.specs.Stands.{SameUser, user_sr}
use Rattle.abs_kernel.specs.Cause.{entry_of}
use Rattle.abs_kernel.specs.KernelStep.{stay_of}
use Rattle.abs_kernel.specs.Played.{Access, Asked, Told, End, Returned, Halted, Short, Played, played, answers_of, ports_of, bytes_of}
use Rattle.abs_run.specs.Accepted.{program_memory, opening}
use Rattle.abs_run.specs.Entered.{coming, UserSteps, MayEnter, Shows}

-- ---- counts

abbrev pub count_of : Item → ℕ
count_of (B count) = count
count_of (E count cause epc gate number) = count
count_of (R count at value) = count
count_of (W count at value) = count
count_of (X count pc sr regs) = count
count_of (S count stop) = count

-- the counts don't fall, from one on
abbrev pub Rising : ℕ → List Item → Type 0
Rising least [] = Unit {0}
Rising least (item ∷ rest) = (least ≤ count_of item) × Rising (count_of item) rest

-- ---- stays

-- the stay of an entry, with the answers among accesses to ports, and more of them
abbrev pub played_with : KernelState → (code : ℕ) → List Access → List ℕ → Played
played_with s code made more = played (stay_of s code) (answers_of made ++ more)

-- with these answers the stay makes these accesses to ports and console bytes, and ends so
pub record Does (s : KernelState) (code : ℕ) (made : List Access) (bytes : List ℕ) (end : End) : Type 0 where
  pub ends : (played_with s code made []).end ≡ end
  pub makes : ports_of (played_with s code made []).accesses ≡ made
  pub prints : bytes_of (played_with s code made []).accesses ≡ bytes

-- for each long enough list of answers that begins with these, one point of the stay's accesses gives these accesses to ports and console bytes
abbrev pub IsWithin : KernelState → (code : ℕ) → List Access → List ℕ → Type 0
IsWithin s code made bytes =
    (more : List ℕ) → (played_with s code made more).end ≢ Short →
    (k : ℕ) × (ports_of (take k (played_with s code made more).accesses) ≡ made) × (bytes_of (take k (played_with s code made more).accesses) ≡ bytes)

-- a return shows the running context, and SR as the user side has it
pub record ShowsReturn (t : KernelState) (pc sr : ℕ) (regs : Registers) : Type 0 where
  pub at : pc ≡ t.running.context.pc
  pub interrupts : sr ≡ user_sr t.running.interrupts
  pub registers : regs ≡ t.running.context.regs

-- ---- runs

-- where a run is: in user code, from a state at the count of the last return; or in the stay of an entry, behind these accesses to ports
pub data Place : Type 0 where
  User : (state : KernelState) (count : ℕ) → Place
  Kernel : (state : KernelState) (code : ℕ) (made : List Access) → Place

-- a stop in user code, k user steps behind the last return: the next user step gives it, or it is Budget
pub record StopsUser (s : KernelState) (c count : ℕ) (stop : Stop) (tty : List ℕ) (ram : Memory) : Type 0 where
  pub steps : ℕ
  pub state : KernelState
  pub made : UserSteps steps s state
  pub counted : count ≡ c + steps
  pub stops : (coming state ≡ Halts stop) ⊎ (stop ≡ Budget)
  pub silent : tty ≡ []
  pub memory : SameUser ram state.memory

-- a stop in a stay: the stay halts with it; or it is Budget, somewhere in the stay
abbrev pub StopsKernel : KernelState → (code : ℕ) → List Access → Stop → List ℕ → Memory → Type 0
StopsKernel s code made stop tty ram =
    ((stop ≢ Budget) × (memory : Memory) × Does s code made tty (Halted stop memory) × SameUser ram memory) ⊎ ((stop ≡ Budget) × IsWithin s code made tty)

-- the kernel machine, from a place on, has these items, console bytes and, at the end, this memory of the user
abbrev pub RunsFrom : List Item → Place → List ℕ → Memory → Type 0
RunsFrom (E count cause epc gate number ∷ rest) (User s c) tty ram =
    (k : ℕ) × (t : KernelState) × (trap : Trap) × UserSteps k s t × (count ≡ c + k) × MayEnter t trap × Shows (entry_of t.running.context trap.code) cause epc gate number
    × RunsFrom rest (Kernel t trap.code []) tty ram
RunsFrom (S count stop ∷ []) (User s c) tty ram = StopsUser s c count stop tty ram
RunsFrom (R count at value ∷ rest) (Kernel s code made) tty ram = RunsFrom rest (Kernel s code (made ++ Asked at value ∷ [])) tty ram
RunsFrom (W count at value ∷ rest) (Kernel s code made) tty ram = RunsFrom rest (Kernel s code (made ++ Told at value ∷ [])) tty ram
RunsFrom (X count pc sr regs ∷ rest) (Kernel s code made) tty ram =
    (t : KernelState) × (bytes more : List ℕ) × Does s code made bytes (Returned t) × ShowsReturn t pc sr regs × (tty ≡ bytes ++ more) × RunsFrom rest (User t count) more ram
RunsFrom (S count stop ∷ []) (Kernel s code made) tty ram = StopsKernel s code made stop tty ram
RunsFrom _ place tty ram = ⊥

-- a run that the budget ends in the boot code
pub record EndsInBoot (exe : Exe) (items : List Item) (tty : List ℕ) (ram : Memory) : Type 0 where
  pub count : ℕ
  pub few : count < 400000
  pub shown : items ≡ S count Budget ∷ []
  pub silent : tty ≡ []
  pub memory : SameUser ram (program_memory exe)

-- a run that comes to the program
pub record ComesToProgram (exe : Exe) (sizes : Sizes) (items : List Item) (tty : List ℕ) (ram : Memory) : Type 0 where
  pub count : ℕ
  pub rest : List Item
  pub few : count ≤ 400000
  pub shown : items ≡ B count ∷ rest
  pub runs : RunsFrom rest (User (opening exe sizes) count) tty ram

-- a run of the written kernel machine with a program
pub record KernelRun (exe : Exe) (sizes : Sizes) (items : List Item) (tty : List ℕ) (ram : Memory) : Type 0 where
  pub counts : Rising 0 items
  pub comes : EndsInBoot exe items tty ram ⊎ ComesToProgram exe sizes items tty ram
