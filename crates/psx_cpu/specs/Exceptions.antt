-- Entry into the kernel and return from it (R3000A manual, exception processing).
use Rattle.std.specs.Prelude.{ℕ, ◌+◌, ◌*◌, ◌/◌, ◌%◌, ◌^◌, Bool, true, false, nat_eq, None, unwrap_or, if◌then◌else◌}
use Rattle.psx_base.specs.Registers.{no_registers}
use Rattle.psx_base.specs.Context.{settle, epc_of, placed}
use Rattle.psx_cpu.specs.Processor.{Processor, Trap}
use Rattle.psx_cpu.specs.Changes.{forth}

-- SR at an entry: bits 0 to 3 go to bits 2 to 5, and bits 0 and 1 become 0
abbrev pub entered_sr : ℕ → ℕ
entered_sr sr = sr / 64 * 64 + sr % 16 * 4

-- SR at a return: bits 2 to 5 go to bits 0 to 3, and bits 4 and 5 stay
abbrev pub left_sr : ℕ → ℕ
left_sr sr = sr / 16 * 16 + sr / 4 % 16

-- where an exception goes: to the ROM while BEV, bit 22 of SR, is set
abbrev pub vector : ℕ → ℕ
vector sr = if nat_eq (sr / 2 ^ 22 % 2) 1 then 0xBFC00180 else 0x80000080

-- Cause: the code in bits 2 to 6, and in bit 31 whether the instruction is in a delay slot
abbrev pub cause_of : ℕ → Bool → ℕ
cause_of code slot = code * 4 + (if slot then 2 ^ 31 else 0)

-- an exception: the pending load is written, the latch set
abbrev pub enter : Processor → Trap → Processor
enter p trap = record {
  context = placed (settle p.context) (vector p.cop0.sr);
  cop0 = record {
    sr = entered_sr p.cop0.sr;
    cause = cause_of trap.code p.context.in_slot;
    epc = epc_of p.context;
    bad_address = unwrap_or trap.bad p.cop0.bad_address;
  };
  latch = true;
}

-- after reset: pc is BFC00000h, SR is 00400000h, all other registers are 0
abbrev pub reset : Processor
reset = record {
  context = record { regs = no_registers; pending = None; pc = 0xBFC00000; next = 0xBFC00004; in_slot = false };
  cop0 = record { sr = 0x00400000; cause = 0; epc = 0; bad_address = 0 };
  latch = true;
}

-- RFE: the latch is cleared
abbrev pub leave : Processor → Processor
leave p = record { context = forth (settle p.context); cop0 = record p.cop0 { sr = left_sr p.cop0.sr }; latch = false }

-- an interrupt is taken where bits 0 and 10 of SR are set and a line that isn't masked is pending
abbrev pub takes_interrupt : Processor → Bool → Bool
takes_interrupt p false = false
takes_interrupt p true = if nat_eq (p.cop0.sr % 2) 1 then nat_eq (p.cop0.sr / 2 ^ 10 % 2) 1 else false
