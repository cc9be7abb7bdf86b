-- A processor, what it works on, and what a step gets from outside (R3000A manual, CPU registers and coprocessor 0).
use Rattle.std.specs.Prelude.{ℕ, Bool, false, Option}
use Rattle.psx_cpu.specs.declared.step.BusAnswer.{BusAnswer}
use Rattle.psx_base.specs.Memory.{Memory}
use Rattle.psx_base.specs.Context.{Context}

-- coprocessor 0: SR; Cause but for bit 10; EPC; BadVaddr
pub record Cop0 : Type 0 where
  pub sr : ℕ
  pub cause : ℕ
  pub epc : ℕ
  pub bad_address : ℕ

-- what instructions work on
pub record State : Type 0 where
  pub context : Context
  pub cop0 : Cop0
  pub bytes : Memory

-- The latch is set while the processor is on the kernel's side.
pub record Processor : Type 0 where
  pub context : Context
  pub cop0 : Cop0
  pub latch : Bool

-- a processor with its memory
pub record Core : Type 0 where
  pub processor : Processor
  pub bytes : Memory

-- what a step gets from outside: whether I_STAT AND I_MASK isn't zero, and what a port answers
abbrev pub Bus : Type 0
Bus = BusAnswer

-- where nothing comes from outside
abbrev pub idle : Bus
idle = record { line = false; value = 0 }

-- an exception in place of an instruction's effect, and the address of a bad access
pub record Trap : Type 0 where
  pub code : ℕ
  pub bad : Option ℕ

abbrev pub state_of : Processor → Memory → State
state_of p m = record { context = p.context; cop0 = p.cop0; bytes = m }

abbrev pub with_state : Processor → State → Processor
with_state p x = record p { context = x.context; cop0 = x.cop0 }
