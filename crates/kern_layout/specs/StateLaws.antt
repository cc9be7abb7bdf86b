-- What holds of the readings of states.
use Rattle.std.specs.Prelude.{◌≡◌, ◌⊎◌, ℕ, ◌<◌, ◌≤◌, false, List}
use Rattle.psx_base.specs.declared.stop.Sizes.{Sizes}
use Rattle.psx_base.specs.Memory.{Memory, byte, word}
use Rattle.psx_base.specs.KernelState.{KernelState}
use Rattle.kern_layout.specs.Reads.{Reads}
use Rattle.kern_layout.specs.Valid.{Valid}
use Rattle.kern_layout.specs.Shown.{shown}
use Rattle.kern_layout.specs.Fits.{IsWord, StateInWords, InBytes}
use Rattle.kern_layout.specs.Start.{SizesFit, start}
use Rattle.kern_layout.specs.Stands.{Side, Stands, SameUser, user_sr}
use Rattle.kern_layout.specs.Numbers.{threads_at}

-- Each valid state is read from a memory, which differs from a given one in the data ranges alone. Where the state's numbers are words and the given memory has bytes, it has bytes.
abbrev pub EachIsRead : Type 0
EachIsRead = (s : KernelState) → Valid s → (given : Memory) → (m : Memory) × Reads s (word m) (byte m) × ((a : ℕ) → (a < threads_at) ⊎ (0x10000 ≤ a) → byte m a ≡ byte given a) × (StateInWords s → InBytes given → InBytes m)

-- the processor on the user side with a state's running context
abbrev pub side_of : KernelState → Side
side_of s = record { context = s.running.context; sr = user_sr s.running.interrupts; latch = false }

-- for each valid state and each ROM a processor and a memory stand
abbrev pub EachStands : Type 0
EachStands = (s : KernelState) → Valid s → (rom : List ℕ) → (m : Memory) × Stands (side_of s) m s rom

-- words and bytes read as one valid state, but for what they don't show
abbrev pub ReadsOne : Type 0
ReadsOne = (w b : ℕ → ℕ) (s t : KernelState) → Valid s → Valid t → Reads s w b → Reads t w b → shown s ≡ shown t

-- a processor and a memory stand for one valid state, but for the context that the running thread's slot keeps
pub record SameStanding (s t : KernelState) : Type 0 where
  pub words : shown s ≡ shown t
  pub running : s.running ≡ t.running
  pub user : SameUser s.memory t.memory

abbrev pub StandsOne : Type 0
StandsOne = (p : Side) (m : Memory) (rom : List ℕ) (s t : KernelState) → Valid s → Valid t → Stands p m s rom → Stands p m t rom → SameStanding s t

-- the state as a program begins is valid
abbrev pub StartsValid : Type 0
StartsValid = (pc gp stack : ℕ) (m : Memory) (sizes : Sizes) → SizesFit sizes → Valid (start pc gp stack m sizes)

-- and its numbers are words, where those of the program are
abbrev pub StartsInWords : Type 0
StartsInWords = (pc gp stack : ℕ) (m : Memory) (sizes : Sizes) → IsWord pc → IsWord gp → IsWord stack → StateInWords (start pc gp stack m sizes)
