-- That the numbers of a processor with its memory are words and bytes, as the hardware has them (R3000A manual, CPU registers and data formats).
use Rattle.std.specs.Prelude.{ℕ, ◌+◌, ◌^◌, Option, Some, None}
use Rattle.psx_base.specs.Registers.{Registers, register}
use Rattle.psx_base.specs.Context.{Context}
use Rattle.psx_cpu.specs.Processor.{Cop0, Core, Bus}
use Rattle.psx_cpu.specs.Step.{Move, Goes, Reads, Writes, Enters, Leaves, Stops, step}
use Rattle.kern_layout.specs.Fits.{IsWord, InBytes}

pub record RegistersFit (c : Registers) : Type 0 where
  pub general : (n : ℕ) → IsWord (register c n)
  pub hi : IsWord c.hi
  pub lo : IsWord c.lo

abbrev pub PendingFits : Option (ℕ × ℕ) → Type 0
PendingFits None = Unit {0}
PendingFits (Some load) = IsWord load.1

pub record ContextFits (c : Context) : Type 0 where
  pub regs : RegistersFit c.regs
  pub pending : PendingFits c.pending
  pub pc : IsWord c.pc
  pub next : IsWord c.next

-- Cause is a word with bit 10 too
pub record Cop0Fits (p : Cop0) : Type 0 where
  pub sr : IsWord p.sr
  pub cause : IsWord (p.cause + 2 ^ 10)
  pub epc : IsWord p.epc
  pub bad_address : IsWord p.bad_address

pub record CoreFits (k : Core) : Type 0 where
  pub context : ContextFits k.processor.context
  pub cop0 : Cop0Fits k.processor.cop0
  pub bytes : InBytes k.bytes

-- what a step leaves
abbrev pub MoveFits : Move → Type 0
MoveFits (Goes next) = CoreFits next
MoveFits (Reads next at value) = CoreFits next
MoveFits (Writes next at value) = CoreFits next
MoveFits (Enters next code) = CoreFits next
MoveFits (Leaves next) = CoreFits next
MoveFits (Stops stop) = Unit {0}

-- each step leaves words and bytes, where it finds them and the bus brings a word
abbrev pub StepsKeepWords : Type 0
StepsKeepWords = (k : Core) (bus : Bus) → CoreFits k → IsWord bus.value → MoveFits (step k bus)
