-- What holds of the calls that wait, and of the lines of gets, whatever the ports answer.
use Rattle.std.specs.Prelude.{◌≡◌, ℕ, ◌≤◌, ◌%◌, ◌^◌, ◌⊎◌, ◌≢◌, false, nat_eq, List, [], ◌∷◌, ◌++◌, length, if◌then◌else◌}
use Rattle.psx_base.specs.Addresses.{place}
use Rattle.psx_base.specs.Context.{settle}
use Rattle.psx_base.specs.Memory.{Memory, put_byte}
use Rattle.psx_base.specs.Ports.{CONSOLE_DATA}
use Rattle.psx_base.specs.KernelState.{KernelState}
use Rattle.abs_kernel.specs.Stay.{Return}
use Rattle.abs_kernel.specs.Answered.{registers_of, waits}
use Rattle.abs_kernel.specs.UserBytes.{following}
use Rattle.abs_kernel.specs.Cause.{entry_of}
use Rattle.abs_kernel.specs.KernelStep.{settled_state}
use Rattle.abs_kernel.specs.Gets.{gets}
use Rattle.abs_kernel.specs.Played.{Access, Asked, Told, Written, Returned, played}

-- ---- a try

-- A try of a call that waits leaves the program at its gate, all registers but k0 and k1 as they were, and all else of the state; and the coming entry is the same call's.
pub record TriesAgain (s t : KernelState) : Type 0 where
  pub pc : t.running.context.pc ≡ s.running.context.pc
  pub registers : t.running.context.regs ≡ record (settle s.running.context).regs { r26 = s.running.context.pc; r27 = 0 }
  pub rest : t ≡ record s { running = t.running }
  pub entry : (code : ℕ) → entry_of t.running.context code ≡ entry_of s.running.context code

abbrev pub TriesAreTheSameCall : Type 0
TriesAreTheSameCall = (s t : KernelState) → s.running.context.in_slot ≡ false → waits (settled_state s) ≡ Return t → TriesAgain s t

-- ---- the lines

-- the bytes that were taken of the console
abbrev pub taken_bytes : List Access → List ℕ
taken_bytes [] = []
taken_bytes (Asked port value ∷ rest) = if nat_eq port CONSOLE_DATA then value % 2 ^ 8 ∷ taken_bytes rest else taken_bytes rest
taken_bytes (Told port value ∷ rest) = taken_bytes rest
taken_bytes (Written byte ∷ rest) = taken_bytes rest

-- a memory with bytes written from an address on
abbrev pub with_bytes : List ℕ → Memory → (at : ℕ) → Memory
with_bytes [] m at = m
with_bytes (b ∷ bs) m at = with_bytes bs (put_byte m (place at) (b % 2 ^ 8)) (following at)

-- the bytes that end a line: none where it has 255 bytes, or one
abbrev pub IsEnd : (line end : List ℕ) → Type 0
IsEnd line end = ((length line ≡ 255) × (end ≡ [])) ⊎ ((end ≡ 0x0A ∷ []) ⊎ (end ≡ 0x0D ∷ []))

-- a line is given: it and a zero stand at r4, which is the answer, and the buffer is empty
pub record Gives (s t : KernelState) (line end : List ℕ) : Type 0 where
  pub ends : IsEnd line end
  pub memory : t.memory ≡ with_bytes (line ++ 0 ∷ []) s.memory (registers_of s).r4
  pub answer : (registers_of t).r2 ≡ (registers_of s).r4
  pub empty : t.line ≡ []

-- gets waits: the bytes so far are in the line
pub record Keeps (s t : KernelState) (bytes : List ℕ) : Type 0 where
  pub line : t.line ≡ bytes
  pub memory : t.memory ≡ s.memory
  pub short : length t.line ≤ 254

-- The bytes are those that were in the line, and behind them those that were taken. They are kept, or given as a line with its end.
abbrev pub Outcome : (s t : KernelState) (bytes : List ℕ) → Type 0
Outcome s t bytes = Keeps s t bytes ⊎ ((line : List ℕ) × ((end : List ℕ) × Gives s t line end × (bytes ≡ line ++ end)))

-- the bytes that a call of gets takes with these answers
abbrev pub taken_by : KernelState → (answers : List ℕ) → List ℕ
taken_by s answers = taken_bytes (played (gets s) answers).accesses

abbrev pub LinesAreGathered : Type 0
LinesAreGathered = (s t : KernelState) (answers : List ℕ) → (registers_of s).r4 ≢ 0 → length s.line ≤ 254 → (played (gets s) answers).end ≡ Returned t → Outcome s t (s.line ++ taken_by s answers)

-- ---- many calls of gets, tries among them

-- a call in a state, with the answers of the ports, and the state with which it returns
pub record Try : Type 0 where
  pub state : KernelState
  pub answers : List ℕ
  pub after : KernelState

-- each begins with the line that the one before has left, whatever the program does between them
abbrev pub Follow : (line : List ℕ) → List Try → Type 0
Follow line [] = Unit {0}
Follow line (x ∷ xs) = (x.state.line ≡ line) × ((registers_of x.state).r4 ≢ 0) × ((played (gets x.state) x.answers).end ≡ Returned x.after) × Follow x.after.line xs

-- all bytes that they take
abbrev pub all_taken : List Try → List ℕ
all_taken [] = []
all_taken (x ∷ xs) = taken_by x.state x.answers ++ all_taken xs

-- what is in the line behind them
abbrev pub last_line : (line : List ℕ) → List Try → List ℕ
last_line line [] = line
last_line line (x ∷ xs) = last_line x.after.line xs

-- the lines that they give, each with its end, one behind the other; those that give none have kept what they took
abbrev pub AllGive : List Try → (given : List ℕ) → Type 0
AllGive [] given = given ≡ []
AllGive (x ∷ xs) given =
    (Keeps x.state x.after (x.state.line ++ taken_by x.state x.answers) × AllGive xs given)
    ⊎ ((line : List ℕ) × ((end : List ℕ) × ((rest : List ℕ) × Gives x.state x.after line end × (given ≡ (line ++ end) ++ rest) × AllGive xs rest)))

-- The bytes that were in the line and all that were taken are the lines that were given with their ends, and what is left in the line: in order, none twice and none lost.
abbrev pub NoneIsLost : Type 0
NoneIsLost = (tries : List Try) (line : List ℕ) → length line ≤ 254 → Follow line tries → (given : List ℕ) × AllGive tries given × (line ++ all_taken tries ≡ given ++ last_line line tries)
