-- When a processor and a memory stand for a state of the kernel, on the user side.
use Rattle.std.specs.Prelude.{◌≡◌, ℕ, ◌+◌, Bool, true, false, ◌||◌, ◌&&◌, nat_le, nat_lt, List, [], ◌∷◌, slice_index, if◌then◌else◌}
use Rattle.std.specs.List.{list_any}
use Rattle.psx_base.specs.Addresses.{user_main, scratchpad}
use Rattle.psx_base.specs.Memory.{Memory, byte, word}
use Rattle.psx_base.specs.Context.{Context}
use Rattle.psx_base.specs.KernelState.{KernelState}
use Rattle.kern_layout.specs.declared.ranges.Range.{Range}
use Rattle.kern_layout.specs.declared.ranges.TheConstants.{VECTOR, GATE_A, GATE_B, GATE_C, GATE_DONE, GATE_BACK, TABLE_A, TABLE_C, TABLE_B, ENTRY_CODE, THREAD_CODE, EVENT_CODE, TIMER_CODE, MEMORY_CODE, TEXT_CODE, PRINTF_CODE, HEAP_CODE, FILE_CODE}
use Rattle.kern_layout.specs.Reads.{Reads}

-- what of a processor tells on which side it is and where: its context, SR, and the latch
pub record Side : Type 0 where
  pub context : Context
  pub sr : ℕ
  pub latch : Bool

-- SR on the user side (R3000A manual, SR: interrupts are enabled by bit 0, hardware interrupts by bit 10)
abbrev pub user_sr : Bool → ℕ
user_sr on = if on then 0x401 else 0x400

-- the ranges that hold the ROM's words: the vector, the gates, the tables and the code
abbrev pub fixed_ranges : List Range
fixed_ranges = VECTOR ∷ GATE_A ∷ GATE_B ∷ GATE_C ∷ GATE_DONE ∷ GATE_BACK ∷ TABLE_A ∷ TABLE_C ∷ TABLE_B ∷ ENTRY_CODE ∷ THREAD_CODE ∷ EVENT_CODE ∷ TIMER_CODE ∷ MEMORY_CODE ∷ TEXT_CODE ∷ PRINTF_CODE ∷ HEAP_CODE ∷ FILE_CODE ∷ []

abbrev pub is_fixed : ℕ → Bool
is_fixed a = list_any (λ (r : Range). nat_le r.from a && nat_lt a r.to) fixed_ranges

-- the memory holds the ROM's words there: the kernel's block is the ROM's 64 KB from 10000h on
abbrev pub HoldsRom : Memory → List ℕ → Type 0
HoldsRom m rom = (a : ℕ) → is_fixed a ≡ true → byte m a ≡ slice_index rom (0x10000 + a)

-- user memory is the same in two memories
abbrev pub SameUser : Memory → Memory → Type 0
SameUser m n = (a : ℕ) → (user_main a || scratchpad a) ≡ true → byte m a ≡ byte n a

-- the processor is on the user side with the running context, and the memory reads as the state
pub record Stands (p : Side) (m : Memory) (s : KernelState) (rom : List ℕ) : Type 0 where
  pub context : p.context ≡ s.running.context
  pub sr : p.sr ≡ user_sr s.running.interrupts
  pub latch : p.latch ≡ false
  pub reads : Reads s (word m) (byte m)
  pub user : SameUser m s.memory
  pub code : HoldsRom m rom
