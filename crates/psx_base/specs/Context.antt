-- The processor's place in a program: its registers, the load that comes one instruction later, and the two addresses (R3000A manual, delayed instruction slots).
use Rattle.std.specs.Prelude.{◌≡◌, ℕ, ◌+◌, ◌-◌, ◌%◌, ◌^◌, Bool, false, Option, Some, None, if◌then◌else◌}
use Rattle.psx_base.specs.Registers.{Registers, with_register}

-- The registers; the pending load, a register other than r0 with its value; the addresses of the coming instruction and of the next; whether the coming one is in a delay slot.
pub record Context : Type 0 where
  pub regs : Registers
  pub pending : Option (ℕ × ℕ)
  pub pc : ℕ
  pub next : ℕ
  pub in_slot : Bool

-- registers with the pending load written
abbrev pub settled : Registers → Option (ℕ × ℕ) → Registers
settled regs None = regs
settled regs (Some load) = with_register regs load.0 load.1

-- a context with its pending load written and none pending
abbrev pub settle : Context → Context
settle c = record c { regs = settled c.regs c.pending; pending = None }

-- the address at which it goes on after an exception: in a slot the branch's
abbrev pub epc_of : Context → ℕ
epc_of c = if c.in_slot then (c.pc + (2 ^ 32 - 4)) % 2 ^ 32 else c.pc

-- at an instruction and in no slot
abbrev pub placed : Context → ℕ → Context
placed c at = record c { pc = at; next = (at + 4) % 2 ^ 32; in_slot = false }

-- settled and at rest at an address, with k0 the address and k1 0
abbrev pub taken : Context → ℕ → Context
taken c at = let s = settle c in placed (record s { regs = record s.regs { r26 = at; r27 = 0 } }) at

-- at rest: in no slot, the next address follows, k0 is pc, k1 is 0, no load is pending
pub record IsAtRest (c : Context) : Type 0 where
  pub follows : c.next ≡ (c.pc + 4) % 2 ^ 32
  pub no_slot : c.in_slot ≡ false
  pub k0 : c.regs.r26 ≡ c.pc
  pub k1 : c.regs.r27 ≡ 0
  pub none_pending : c.pending ≡ None
