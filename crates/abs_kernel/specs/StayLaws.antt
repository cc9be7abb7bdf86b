-- What holds of stays.
use Rattle.std.specs.Prelude.{◌≡◌, ℕ, true, None}
use Rattle.psx_base.specs.declared.stop.Stop.{Stop}
use Rattle.psx_base.specs.declared.stop.Stop.TheVariants.{Unserved}
use Rattle.psx_base.specs.declared.stop.Table.{Table}
use Rattle.psx_base.specs.declared.stop.Table.TheVariants.{A, B, C, Sys}
use Rattle.psx_base.specs.Memory.{Memory}
use Rattle.psx_base.specs.Registers.{Registers}
use Rattle.psx_base.specs.Context.{settle, epc_of, IsAtRest}
use Rattle.psx_base.specs.Items.{Entrance, ByA, ByB, ByC, BySyscall}
use Rattle.psx_base.specs.KernelState.{KernelState}
use Rattle.kern_layout.specs.Valid.{Valid}
use Rattle.abs_kernel.specs.CallTable.{served_call}
use Rattle.abs_kernel.specs.Cause.{entrance_of}
use Rattle.abs_kernel.specs.Changes.{changed, Changed, keeps_memory, takes_up_another}
use Rattle.abs_kernel.specs.Stay.{Stay, Return, Halt, Ask, Tell, Write, Touch}
use Rattle.abs_kernel.specs.KernelStep.{stay_of}

-- each end of a stay, whatever the ports answer: what holds of the states that it returns with, and of the stops and memories that it halts with
abbrev pub EachEnd : (KernelState → Type 0) → (Stop → Memory → Type 0) → Stay → Type 0
EachEnd P Q (Return state) = P state
EachEnd P Q (Halt stop memory) = Q stop memory
EachEnd P Q (Ask port next) = (value : ℕ) → EachEnd P Q (next value)
EachEnd P Q (Tell port value next) = EachEnd P Q next
EachEnd P Q (Write byte next) = EachEnd P Q next
EachEnd P Q (Touch bytes next) = EachEnd P Q next

abbrev pub EachReturn : (KernelState → Type 0) → Stay → Type 0
EachReturn P stay = EachEnd P (λ stop memory. Unit {0}) stay

-- the registers as an entry settles them
abbrev pub settled_registers : KernelState → Registers
settled_registers s = (settle s.running.context).regs

-- ---- numbers that aren't served

-- the entrance to each table
abbrev pub to_table : Table → Entrance
to_table A = ByA
to_table B = ByB
to_table C = ByC
to_table Sys = BySyscall

-- the stop of a number: a call's with r9 and r31, a SYSCALL's with r4 and EPC
abbrev pub unserved : Table → KernelState → Stop
unserved A s = Unserved A (settled_registers s).r9 (settled_registers s).r31
unserved B s = Unserved B (settled_registers s).r9 (settled_registers s).r31
unserved C s = Unserved C (settled_registers s).r9 (settled_registers s).r31
unserved Sys s = Unserved Sys (settled_registers s).r4 (epc_of s.running.context)

-- the number isn't served: the table has no call there, or it is SYSCALL 3
abbrev pub IsUnserved : Table → KernelState → Type 0
IsUnserved A s = served_call A (settled_registers s).r9 ≡ None
IsUnserved B s = served_call B (settled_registers s).r9 ≡ None
IsUnserved C s = served_call C (settled_registers s).r9 ≡ None
IsUnserved Sys s = (settled_registers s).r4 ≡ 3

abbrev pub UnservedStops : Type 0
UnservedStops = (s : KernelState) (code : ℕ) (table : Table) → entrance_of s.running.context code ≡ to_table table → IsUnserved table s → stay_of s code ≡ Halt (unserved table s) s.memory

-- ---- what a stay changes

-- where it returns, it changed what its call may change alone
abbrev pub RestKept : Type 0
RestKept = (s : KernelState) (code : ℕ) → EachReturn (Changed (changed s code) s) (stay_of s code)

-- one that may not change the user's memory leaves it as it is, also where it stops
abbrev pub MemoryKept : Type 0
MemoryKept = (s : KernelState) (code : ℕ) → keeps_memory (changed s code) ≡ true → EachEnd (λ t. t.memory ≡ s.memory) (λ stop memory. memory ≡ s.memory) (stay_of s code)

-- It returns to a program at rest: k0 is the address and k1 is 0. Where another thread may be taken up, that is so in a valid state.
abbrev pub ReturnsAtRest : Type 0
ReturnsAtRest = (s : KernelState) (code : ℕ) → (takes_up_another (changed s code) ≡ true → Valid s) → EachReturn (λ t. IsAtRest t.running.context) (stay_of s code)

-- it keeps the state valid
abbrev pub ValidKept : Type 0
ValidKept = (s : KernelState) (code : ℕ) → Valid s → EachReturn Valid (stay_of s code)
