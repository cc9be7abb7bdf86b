-- Stays evaluated, one for each cause, on states in which thread 0 of four runs and nothing else is there.
use Rattle.std.specs.Prelude.{◌≡◌, ℕ, ◌+◌, Bool, true, false, [], ◌∷◌, Some, None}
use Rattle.psx_base.specs.declared.stop.Table.TheVariants.{A, C, Sys}
use Rattle.psx_base.specs.declared.stop.Stop.TheVariants.{Exit, Exception, Unserved, BadReturn}
use Rattle.psx_base.specs.Memory.{no_bytes}
use Rattle.psx_base.specs.Registers.{Registers, no_registers}
use Rattle.psx_base.specs.Context.{Context}
use Rattle.psx_base.specs.KernelState.{KernelState}
use Rattle.kern_layout.specs.Start.{start}
use Rattle.abs_kernel.specs.Stay.{Return, Halt, Write}
use Rattle.abs_kernel.specs.KernelStep.{stay_of}
use Rattle.abs_kernel.specs.Played.{Written, Returned, played}
use Rattle.abs_kernel.specs.Touched.{touched}

-- the program in a context, with interrupts on or off
abbrev pub state : Context → Bool → KernelState
state c on = record (start 0x80010000 0 0x801FFF00 no_bytes (record { threads = 4; events = 16 })) { running = record { context = c; interrupts = on } }

-- at an address, with registers
abbrev pub at : ℕ → Registers → Context
at pc regs = record { regs = regs; pending = None; pc = pc; next = pc + 4; in_slot = false }

-- a caller of a number with 141h as the argument; it returns to 80010008h
abbrev pub caller : ℕ → Registers
caller number = record no_registers { r4 = 0x141; r9 = number; r31 = 0x80010008 }

-- a caller of a SYSCALL
abbrev pub asking : ℕ → Registers
asking number = record no_registers { r2 = 5; r4 = number }

-- the caller of putchar after the call
abbrev pub put : KernelState
put = state (at 0x80010008 (record (caller 0x3C) { r2 = 0x41; r26 = 0x80010008 })) true

-- gate A0h: putchar writes the low byte and answers it, and is played in one access
abbrev pub PutsByA : Type 0
PutsByA = stay_of (state (at 0xA0 (caller 0x3C)) true) 8 ≡ Write 0x41 (Return put)

abbrev pub PutsInOneAccess : Type 0
PutsInOneAccess = (played (stay_of (state (at 0xA0 (caller 0x3C)) true) 8) [] ≡ record { accesses = Written 0x41 ∷ []; end = Returned put }) × (touched (stay_of (state (at 0xA0 (caller 0x3C)) true) 8) [] ≡ 1)

-- a number that is loaded in the slot of the jump to the gate
abbrev pub PutsByLoadedNumber : Type 0
PutsByLoadedNumber = stay_of (state (record (at 0x800000A0 (caller 0)) { pending = Some (9, 0x3C) }) true) 8 ≡ Write 0x41 (Return put)

abbrev pub ExitsByA : Type 0
ExitsByA = stay_of (state (at 0xA00000A0 (caller 0x3A)) true) 8 ≡ Halt (Exit 0x141) no_bytes

-- the number is the whole word
abbrev pub StopsByA : Type 0
StopsByA = stay_of (state (at 0xA0 (caller 0x1000003C)) true) 8 ≡ Halt (Unserved A 0x1000003C 0x80010008) no_bytes

-- gates B0h and C0h
abbrev pub ExitsByB : Type 0
ExitsByB = stay_of (state (at 0xB0 (caller 0x38)) false) 8 ≡ Halt (Exit 0x141) no_bytes

abbrev pub StopsByC : Type 0
StopsByC = stay_of (state (at 0xC0 (caller 0x3C)) true) 8 ≡ Halt (Unserved C 0x3C 0x80010008) no_bytes

-- gates D0h and E0h
abbrev pub EndsByDone : Type 0
EndsByDone = stay_of (state (at 0xD0 (asking 0)) true) 8 ≡ Halt (Exit 5) no_bytes

abbrev pub StopsByBack : Type 0
StopsByBack = stay_of (state (at 0xE0 (caller 0)) true) 8 ≡ Halt (BadReturn 0x80010008) no_bytes

-- SYSCALLs 0 to 3
abbrev pub NothingBySyscall : Type 0
NothingBySyscall = stay_of (state (at 0x80010000 (asking 0)) false) 8 ≡ Return (state (at 0x80010004 (record (asking 0) { r26 = 0x80010004 })) false)

abbrev pub OffBySyscall : Type 0
OffBySyscall = stay_of (state (at 0x80010000 (asking 1)) true) 8 ≡ Return (state (at 0x80010004 (record (asking 1) { r2 = 1; r26 = 0x80010004 })) false)

abbrev pub OnBySyscall : Type 0
OnBySyscall = stay_of (state (at 0x80010000 (asking 2)) false) 8 ≡ Return (state (at 0x80010004 (record (asking 2) { r26 = 0x80010004 })) true)

abbrev pub StopsBySyscall : Type 0
StopsBySyscall = stay_of (state (at 0x80010000 (asking 3)) true) 8 ≡ Halt (Unserved Sys 3 0x80010000) no_bytes

-- a SYSCALL in a delay slot, and BREAK: the address is EPC
abbrev pub StopsBySlot : Type 0
StopsBySlot = stay_of (state (record (at 0x80010004 (asking 0)) { next = 0x80010100; in_slot = true }) true) 8 ≡ Halt (Exception 8 0x80010000) no_bytes

abbrev pub StopsByTrap : Type 0
StopsByTrap = stay_of (state (at 0x80010000 (asking 0)) true) 9 ≡ Halt (Exception 9 0x80010000) no_bytes
