-- One step of the processor.
use Rattle.std.specs.Prelude.{◌≡◌, ℕ, IsTrue, Option, Some, None, if◌then◌else◌}
use Rattle.psx_ins.specs.declared.ins.Ins.{Ins}
use Rattle.psx_ins.specs.declared.ins.Ins.TheVariants.{LW, SW, RFE}
use Rattle.psx_cpu.specs.declared.step.Did.{Did}
use Rattle.psx_cpu.specs.declared.step.Did.TheVariants.{Plain, PortRead, PortWrite, Entered, Left, Stopped}
use Rattle.psx_base.specs.declared.stop.Stop.{Stop}
use Rattle.psx_base.specs.Addresses.{place}
use Rattle.psx_base.specs.PortAddresses.{port}
use Rattle.psx_base.specs.Registers.{register}
use Rattle.psx_cpu.specs.Processor.{Core, Bus, Trap, state_of, with_state}
use Rattle.psx_cpu.specs.DataAccess.{data_address, read_word}
use Rattle.psx_cpu.specs.Effect.{effect}
use Rattle.psx_cpu.specs.Traps.{own_trap}
use Rattle.psx_cpu.specs.Exceptions.{enter, leave, takes_interrupt}
use Rattle.psx_cpu.specs.Guard.{guard_instruction, guard}

-- A step goes on, with or without an access to a port; enters the kernel with a code; leaves it by RFE; or is barred, and finishes nothing.
pub data Move : Type 0 where
  Goes : (next : Core) → Move
  Reads : (next : Core) (at value : ℕ) → Move
  Writes : (next : Core) (at value : ℕ) → Move
  Enters : (next : Core) (code : ℕ) → Move
  Leaves : (next : Core) → Move
  Stops : (stop : Stop) → Move

abbrev pub entered : Core → Trap → Move
entered k trap = Enters (record k { processor = enter k.processor trap }) trap.code

-- the core after an instruction's effect
abbrev pub after : Core → Bus → Ins → Core
after k bus i = let x = effect i (state_of k.processor k.bytes) bus in record { processor = with_state k.processor x; bytes = x.bytes }

-- what a step tells of an instruction that has its effect: LW and SW reach ports
abbrev pub executed : Core → Bus → Ins → Move
executed k bus (LW s t imm) =
    let at = place (data_address k.processor.context s imm) in if port at then Reads (after k bus (LW s t imm)) at bus.value else Goes (after k bus (LW s t imm))
executed k bus (SW s t imm) =
    let at = place (data_address k.processor.context s imm) in if port at then Writes (after k bus (SW s t imm)) at (register k.processor.context.regs t.0) else Goes (after k bus (SW s t imm))
executed k bus RFE = Leaves (record k { processor = leave k.processor })
executed k bus i = Goes (after k bus i)

-- an instruction that passed the guard: its trap, or its effect
abbrev pub performed : Core → Bus → Ins → Option Trap → Move
performed k bus i (Some trap) = entered k trap
performed k bus i None = executed k bus i

abbrev pub passed : Core → Bus → Ins → Move
passed k bus i = performed k bus i (own_trap i k.processor.context)

-- an instruction at pc, under the rest of the guard
abbrev pub decided : Core → Bus → Ins → Move
decided k bus i = guard_instruction Stops (entered k) (passed k bus) k.processor.context k.processor.latch i

-- an interrupt in place of an instruction, or the instruction at pc under the guard
unfoldable pub step : Core → Bus → Move
step k bus =
    if takes_interrupt k.processor bus.line then entered k (record { code = 0; bad = None })
    else guard Stops (entered k) (passed k bus) k.processor.context k.processor.latch (read_word k.bytes k.processor.context.pc)

-- what the code tells of a step, and the core that it leaves, are the step's
abbrev pub Does : Core → Move → Did → Core → Type 0
Does old (Goes next) Plain new = new ≡ next
Does old (Reads next at value) (PortRead at' value') new = (new ≡ next) × ((at' ≡ at) × (value' ≡ value))
Does old (Writes next at value) (PortWrite at' value') new = (new ≡ next) × ((at' ≡ at) × (value' ≡ value))
Does old (Enters next code) (Entered code') new = (new ≡ next) × (code' ≡ code)
Does old (Leaves next) Left new = new ≡ next
Does old (Stops stop) (Stopped stop') new = (new ≡ old) × (stop' ≡ stop)
Does old _ _ new = ⊥

-- the port that a step reads
abbrev pub port_read : Move → Option ℕ
port_read (Reads next at value) = Some at
port_read _ = None

-- a port that a step tells is one
abbrev pub IsPortDid : Did → Type 0
IsPortDid (PortRead at value) = IsTrue (port at)
IsPortDid (PortWrite at value) = IsTrue (port at)
IsPortDid _ = Unit {0}
