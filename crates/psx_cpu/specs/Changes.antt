-- The ways in which an instruction changes the state. Each writes the pending load first: a load comes one instruction later.
use Rattle.std.specs.Prelude.{ℕ, zero, suc, ◌+◌, ◌*◌, ◌/◌, ◌%◌, ◌^◌, Bool, true, false, nat_eq, bit_and, Option, Some, None, if◌then◌else◌}
use Rattle.psx_ins.specs.declared.reg.Reg.{Reg}
use Rattle.psx_base.specs.Memory.{Memory}
use Rattle.psx_base.specs.Registers.{Registers, register, with_register}
use Rattle.psx_base.specs.Context.{Context, settled, settle}
use Rattle.psx_cpu.specs.Words.{sign_extended}
use Rattle.psx_cpu.specs.Processor.{Cop0, State}

-- on to the next instruction
abbrev pub forth : Context → Context
forth c = record c { pc = c.next; next = (c.next + 4) % 2 ^ 32; in_slot = false }

-- on to the slot, and after it to an address
abbrev pub through_slot : Context → ℕ → Context
through_slot c to = record c { pc = c.next; next = to; in_slot = true }

-- a context with a value in a register
abbrev pub with_value : Context → ℕ → ℕ → Context
with_value c n v = record c { regs = with_register c.regs n v }

-- a result in a register
abbrev pub writes : State → Reg → ℕ → State
writes x d v = record x { context = forth (with_value (settle x.context) d.0 v) }

-- results in HI and LO
abbrev pub hi_lo : State → ℕ → ℕ → State
hi_lo x h l = let c = settle x.context in record x { context = forth (record c { regs = record c.regs { hi = h; lo = l } }) }

-- a change of the memory
abbrev pub memory_is : State → Memory → State
memory_is x m = record x { context = forth (settle x.context); bytes = m }

-- the address after the slot
abbrev pub link_address : Context → ℕ
link_address c = (c.next + 4) % 2 ^ 32

-- the address of a branch that is taken or not
abbrev pub branch_target : Context → Bool → ℕ → ℕ
branch_target c true imm = (c.next + sign_extended imm * 4) % 2 ^ 32
branch_target c false imm = link_address c

-- the address of J and JAL
abbrev pub jump_target : Context → ℕ → ℕ
jump_target c target = c.next / 2 ^ 28 * 2 ^ 28 + target * 4

abbrev pub jumps : State → ℕ → State
jumps x to = record x { context = through_slot (settle x.context) to }

-- a jump with the address after the slot in a register
abbrev pub links : State → ℕ → ℕ → State
links x n to = record x { context = through_slot (with_value (settle x.context) n (link_address x.context)) to }

-- whether a register has a load pending
abbrev pub names : Option (ℕ × ℕ) → ℕ → Bool
names None n = false
names (Some load) n = nat_eq load.0 n

-- the load that is pending after one of a register: none for r0
abbrev pub coming : ℕ → ℕ → Option (ℕ × ℕ)
coming zero v = None
coming (suc n) v = Some (suc n, v)

-- a load of a register: its value comes one instruction later, and a pending one of the same register is dropped
abbrev pub loads : State → Reg → ℕ → State
loads x t v =
    let c = x.context in
    record x { context = forth (record c { regs = if names c.pending t.0 then c.regs else settled c.regs c.pending; pending = coming t.0 v }) }

-- a register as LWL and LWR take it: the pending value where the pending load names it
abbrev pub latest_of : Option (ℕ × ℕ) → Registers → ℕ → ℕ
latest_of None regs n = register regs n
latest_of (Some load) regs n = if nat_eq load.0 n then load.1 else register regs n

abbrev pub latest : Context → ℕ → ℕ
latest c n = latest_of c.pending c.regs n

-- Cop0 registers: 8 BadVaddr, 12 SR, 13 Cause, 14 EPC. Bit 10 of Cause is the line at this step.
abbrev pub cop0_read : Cop0 → Bool → ℕ → ℕ
cop0_read p line n =
    if nat_eq n 8 then p.bad_address else (if nat_eq n 12 then p.sr else (if nat_eq n 13 then p.cause + (if line then 2 ^ 10 else 0) else (if nat_eq n 14 then p.epc else 0)))

-- SR keeps bits 0 to 5, 8 to 15, 16 and 22
abbrev pub sr_kept : ℕ → ℕ
sr_kept v = bit_and v 0x0041FF3F

-- a write of a cop0 register: only SR takes it
abbrev pub cop0_written : State → ℕ → ℕ → State
cop0_written x n v = record x { context = forth (settle x.context); cop0 = if nat_eq n 12 then record x.cop0 { sr = sr_kept v } else x.cop0 }
