-- The processor that the code's fields stand for.
use Rattle.std.specs.Prelude.{ℕ, List, get_or}
use Rattle.psx_base.specs.Registers.{Registers}
use Rattle.psx_base.specs.Memory.{Memory}
use Rattle.psx_cpu.specs.Processor.{Processor, Core}

-- the registers of a list of 32 numbers, with hi and lo
abbrev pub registers_of : List ℕ → ℕ → ℕ → Registers
registers_of regs hi lo =
    record { r1 = get_or regs 1 0; r2 = get_or regs 2 0; r3 = get_or regs 3 0; r4 = get_or regs 4 0; r5 = get_or regs 5 0; r6 = get_or regs 6 0; r7 = get_or regs 7 0; r8 = get_or regs 8 0; r9 = get_or regs 9 0; r10 = get_or regs 10 0; r11 = get_or regs 11 0; r12 = get_or regs 12 0; r13 = get_or regs 13 0; r14 = get_or regs 14 0; r15 = get_or regs 15 0; r16 = get_or regs 16 0; r17 = get_or regs 17 0; r18 = get_or regs 18 0; r19 = get_or regs 19 0; r20 = get_or regs 20 0; r21 = get_or regs 21 0; r22 = get_or regs 22 0; r23 = get_or regs 23 0; r24 = get_or regs 24 0; r25 = get_or regs 25 0; r26 = get_or regs 26 0; r27 = get_or regs 27 0; r28 = get_or regs 28 0; r29 = get_or regs 29 0; r30 = get_or regs 30 0; r31 = get_or regs 31 0; hi = hi; lo = lo }

abbrev pub core_of : Processor → Memory → Core
core_of p m = record { processor = p; bytes = m }
