-- That a ROM serves the written kernel machine: its words boot to the state in which a program begins, and from each entry they make the stay.
use Rattle.std.specs.Prelude.{◌≡◌, ℕ, zero, suc, ◌+◌, ◌*◌, ◌^◌, ◌<◌, ◌≤◌, Bool, true, ◌||◌, nat_eq, is_some, List, [], All}
use Rattle.psx_base.specs.Ports.{START_PC, START_GP, START_SP, START_THREADS, START_EVENTS}
use Rattle.psx_base.specs.declared.stop.Stop.{Stop}
use Rattle.psx_base.specs.declared.stop.Sizes.{Sizes}
use Rattle.psx_base.specs.Addresses.{gate_of}
use Rattle.psx_base.specs.Memory.{Memory}
use Rattle.psx_base.specs.KernelState.{KernelState}
use Rattle.psx_exe.specs.declared.exe.Exe.{Exe}
use Rattle.psx_cpu.specs.Processor.{Core, Bus, Trap}
use Rattle.psx_cpu.specs.DataAccess.{read_word}
use Rattle.psx_cpu.specs.Exceptions.{enter}
use Rattle.psx_cpu.specs.Step.{Move, Goes, Reads, Leaves, step}
use Rattle.psx_ports.specs.History.{start_answer}
use Rattle.psx_board.specs.Machine.{given, start}
use Rattle.kern_layout.specs.Start.{SizesFit}
use Rattle.kern_layout.specs.Valid.{Valid}
use Rattle.kern_layout.specs.Stands.{HoldsRom, SameUser, Stands}
use Rattle.abs_kernel.specs.Stay.{Stay, Return, Halt, Ask, Tell, Write, Touch}
use Rattle.abs_kernel.specs.KernelStep.{stay_of}
use Rattle.abs_run.specs.Accepted.{IsAccepted, opening}
use Rattle.abs_run.specs.InWords.{CoreFits}
use Rattle.abs_run.specs.InKernel.{InKernel, side_of, Sign, Nothing, PortRead, PortWritten, Printed, LeftKernel, EndedRun, Strayed, sign_of}
use Rattle.abs_run.specs.Entered.{MayEnter, bound_of}

-- whatever the bus brings: the interrupt line is either way, and a port answers any word
abbrev pub EachBus : (Bus → Type 0) → Type 0
EachBus P = (bus : Bus) → bus.value < 2 ^ 32 → P bus

-- ---- stays

-- a step that shows nothing goes on, and another is the last
abbrev pub Onward : (InKernel → Type 0) → (Sign → Type 0) → Sign → Type 0
Onward on last (Nothing next) = on next
Onward on last sign = last sign

-- within so many steps, the words come to one that shows something, and this is as it should be, with the steps that are left
abbrev pub Comes : (Sign → ℕ → Type 0) → ℕ → InKernel → Type 0
Comes last zero k = ⊥
Comes last (suc left) k = EachBus (λ (bus : Bus). Onward (Comes last left) (λ (sign : Sign). last sign left) (sign_of k (step k.core bus)))

-- it reads this port, and the words go on by the answer
abbrev pub AsksFor : ℕ → (ℕ → ℕ → InKernel → Type 0) → Sign → ℕ → Type 0
AsksFor port on (PortRead next at value) left = (at ≡ port) × on value left next
AsksFor port on _ left = ⊥

-- it writes this to a port
abbrev pub WritesTo : (port value : ℕ) → (ℕ → InKernel → Type 0) → Sign → ℕ → Type 0
WritesTo port value on (PortWritten next at written) left = (at ≡ port) × (written ≡ value) × on left next
WritesTo port value on _ left = ⊥

-- it writes this byte to the console
abbrev pub Prints : ℕ → (ℕ → InKernel → Type 0) → Sign → ℕ → Type 0
Prints byte on (Printed next written) left = (written ≡ byte) × on left next
Prints byte on _ left = ⊥

-- it returns to the user side, and stands for a state
abbrev pub Returns : List ℕ → KernelState → Sign → ℕ → Type 0
Returns rom state (LeftKernel next) left = Stands (side_of next) next.bytes state rom
Returns rom state _ left = ⊥

-- it ends the run with a stop, and the user's memory is this
abbrev pub HaltsWith : Stop → Memory → Sign → ℕ → Type 0
HaltsWith stop memory (EndedRun next told) left = (told ≡ stop) × SameUser next.bytes memory
HaltsWith stop memory _ left = ⊥

-- the words make a stay within so many steps, and 128 more for each access to a port or the console and each byte that it touches
abbrev pub Runs : List ℕ → Stay → (bound : ℕ) → InKernel → Type 0
Runs rom (Return state) bound k = Comes (Returns rom state) bound k
Runs rom (Halt stop memory) bound k = Comes (HaltsWith stop memory) bound k
Runs rom (Ask port next) bound k = Comes (AsksFor port (λ value left. Runs rom (next value) (left + 128))) bound k
Runs rom (Tell port value next) bound k = Comes (WritesTo port value (λ left. Runs rom next (left + 128))) bound k
Runs rom (Write byte next) bound k = Comes (Prints byte (λ left. Runs rom next (left + 128))) bound k
Runs rom (Touch bytes next) bound k = Runs rom next (bound + 128 * bytes) k

-- ---- the time of an interrupt

-- a step of the kernel's side goes on, or returns to the user side or ends the run; that none strays is said of stays
abbrev pub FinishesOn : (InKernel → Type 0) → Sign → Type 0
FinishesOn on (Nothing next) = on next
FinishesOn on (PortRead next at value) = on next
FinishesOn on (PortWritten next at value) = on next
FinishesOn on (Printed next byte) = on next
FinishesOn on (LeftKernel next) = Unit {0}
FinishesOn on (EndedRun next stop) = Unit {0}
FinishesOn on Strayed = Unit {0}

-- within so many steps, whatever is touched and however many ports are accessed, the words return or end the run
abbrev pub Finishes : ℕ → InKernel → Type 0
Finishes zero k = ⊥
Finishes (suc left) k = EachBus (λ (bus : Bus). FinishesOn (Finishes left) (sign_of k (step k.core bus)))

-- an interrupt's stay takes at most so many
abbrev pub most_interrupt_steps : ℕ
most_interrupt_steps = 8192

-- ---- the boot code

abbrev pub is_start_port : ℕ → Bool
is_start_port at = nat_eq at START_PC || (nat_eq at START_GP || (nat_eq at START_SP || (nat_eq at START_THREADS || nat_eq at START_EVENTS)))

-- A step of the boot code goes on, or reads a start port; the last one returns.
abbrev pub BootMakes : List ℕ → Exe → Sizes → ℕ → Move → (Core → Type 0) → Type 0
BootMakes rom exe sizes left (Goes next) on = on next
BootMakes rom exe sizes left (Reads next at value) on = (is_start_port at ≡ true) × (value ≡ start_answer (given exe sizes) at 0 → on next)
BootMakes rom exe sizes zero (Leaves next) on = Stands (side_of next) next.bytes (opening exe sizes) rom
BootMakes rom exe sizes left _ on = ⊥

-- In exactly so many steps the words come to the first return, where the state is the opening one. They read start ports, write none, and leave the user's memory as the program's.
abbrev pub Boots : List ℕ → Exe → Sizes → ℕ → Core → Type 0
Boots rom exe sizes zero k = ⊥
Boots rom exe sizes (suc left) k = SameUser k.bytes (opening exe sizes).memory × EachBus (λ (bus : Bus). BootMakes rom exe sizes left (step k bus) (Boots rom exe sizes left))

-- ---- the ROM

-- memory that holds the ROM's words reads the word of SYSCALL at each gate
abbrev pub GatesRead : List ℕ → Type 0
GatesRead rom = (m : Memory) (at : ℕ) → HoldsRom m rom → is_some (gate_of at) ≡ true → read_word m at ≡ 0x0000000C

-- the kernel's side after an entry; the words that the halt ports were given before may be any
abbrev pub entered : Core → Trap → (a b c : ℕ) → InKernel
entered k trap a b c = record { core = record k { processor = enter k.processor trap }; a = a; b = b; c = c }

-- A ROM serves what is covered, by the state and the exception's code: from each processor with its memory, of words and bytes, that stands for a valid state, and an interrupt in time. The boot takes the same number of steps for all programs and sizes.
pub record ServesRom (covers : KernelState → ℕ → Type 0) (rom : List ℕ) : Type 0 where
  pub bytes : All (λ (b : ℕ). b < 2 ^ 8) rom
  pub gates : GatesRead rom
  pub boot_steps : ℕ
  pub boot_few : boot_steps ≤ 400000
  pub boots : (exe : Exe) (sizes : Sizes) → IsAccepted exe → SizesFit sizes → Boots rom exe sizes boot_steps (start rom exe sizes []).core
  pub stays : (k : Core) (s : KernelState) (trap : Trap) (a b c : ℕ) → Valid s → CoreFits k → Stands (side_of k) k.bytes s rom → MayEnter s trap → covers s trap.code
      → Runs rom (stay_of s trap.code) (bound_of s trap.code) (entered k trap a b c)
  pub interrupts : (k : Core) (s : KernelState) (trap : Trap) (a b c : ℕ) → Valid s → CoreFits k → Stands (side_of k) k.bytes s rom → MayEnter s trap → covers s trap.code → trap.code ≡ 0
      → Finishes most_interrupt_steps (entered k trap a b c)
