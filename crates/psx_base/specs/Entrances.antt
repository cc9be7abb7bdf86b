-- By what the kernel is entered, and the number that an entry has (R3000A manual, exception processing; PSX-SPX, Kernel (BIOS), function summary: the gates).
use Rattle.std.specs.Prelude.{ℕ, Bool, true, false, Option, Some, None, nat_eq, if◌then◌else◌}
use Rattle.psx_base.specs.declared.address.Gate.{Gate}
use Rattle.psx_base.specs.declared.address.Gate.TheVariants.{A, B, C, Done, Back}
use Rattle.psx_base.specs.Addresses.{gate_of}
use Rattle.psx_base.specs.Registers.{Registers}
use Rattle.psx_base.specs.Items.{Entrance, ByA, ByB, ByC, BySyscall, ByInterrupt, ByDone, ByBack, ByTrap}

abbrev pub by_gate : Gate → Entrance
by_gate A = ByA
by_gate B = ByB
by_gate C = ByC
by_gate Done = ByDone
by_gate Back = ByBack

-- a SYSCALL: in a delay slot a trap like others, at a gate by the gate, elsewhere by itself
abbrev pub by_syscall : (slot : Bool) → Option Gate → Entrance
by_syscall true gate = ByTrap
by_syscall false (Some gate) = by_gate gate
by_syscall false None = BySyscall

-- by an exception's code, where 0 is an interrupt and 8 a SYSCALL, whether it was in a delay slot, and its address, in a slot the branch's
abbrev pub entrance : (code : ℕ) → (slot : Bool) → (epc : ℕ) → Entrance
entrance code slot epc = if nat_eq code 0 then ByInterrupt else (if nat_eq code 8 then by_syscall slot (gate_of epc) else ByTrap)

-- the number of an entry: r9 of a call, r4 of a SYSCALL, r2 of a return, the code of a trap
abbrev pub number : Entrance → (code : ℕ) → Registers → ℕ
number ByA code regs = regs.r9
number ByB code regs = regs.r9
number ByC code regs = regs.r9
number BySyscall code regs = regs.r4
number ByInterrupt code regs = 0
number ByDone code regs = regs.r2
number ByBack code regs = regs.r2
number ByTrap code regs = code
