-- What of the board the kernel's words work on, and what a step of theirs shows outside.
use Rattle.std.specs.Prelude.{ℕ, ◌%◌, ◌^◌, ◌&&◌, nat_eq, nat_le, Option, Some, None, if◌then◌else◌}
use Rattle.psx_base.specs.Ports.{CONSOLE_STATUS, CONSOLE_DATA, HALT, HALT_A, HALT_B, HALT_C}
use Rattle.psx_base.specs.declared.stop.Stop.{Stop}
use Rattle.psx_cpu.specs.Processor.{Core}
use Rattle.psx_cpu.specs.Step.{Move, Goes, Reads, Writes, Enters, Leaves, Stops}
use Rattle.psx_ports.specs.HaltCodes.{halt_stop}
use Rattle.psx_ports.specs.History.{History, last_written}
use Rattle.kern_layout.specs.Stands.{Side}

-- the processor with its memory, and the words that the halt ports were given
pub record InKernel : Type 0 where
  pub core : Core
  pub a : ℕ
  pub b : ℕ
  pub c : ℕ

abbrev pub in_kernel : Core → History → InKernel
in_kernel core h = record { core = core; a = last_written h.events HALT_A; b = last_written h.events HALT_B; c = last_written h.events HALT_C }

-- on which side a processor is, and where
abbrev pub side_of : Core → Side
side_of k = record { context = k.processor.context; sr = k.processor.cop0.sr; latch = k.processor.latch }

-- A step shows nothing, as a write of the halt ports' words does; reads a port; writes a port; writes a byte to the console; returns to the user side; ends the run.
-- Or it strays: it does what the kernel's words never do.
pub data Sign : Type 0 where
  Nothing : (next : InKernel) → Sign
  PortRead : (next : InKernel) (at value : ℕ) → Sign
  PortWritten : (next : InKernel) (at value : ℕ) → Sign
  Printed : (next : InKernel) (byte : ℕ) → Sign
  LeftKernel : (next : Core) → Sign
  EndedRun : (next : Core) (stop : Stop) → Sign
  Strayed : Sign

abbrev pub halt_sign : InKernel → Option Stop → Sign
halt_sign next None = Nothing next
halt_sign next (Some stop) = EndedRun next.core stop

-- a write of a port: the console's status isn't written
abbrev pub write_sign : InKernel → (at value : ℕ) → Sign
write_sign next at value =
    if nat_eq at CONSOLE_DATA then Printed next (value % 2 ^ 8)
    else (if nat_eq at HALT then halt_sign next (halt_stop value next.a next.b next.c)
    else (if nat_eq at HALT_A then Nothing (record next { a = value })
    else (if nat_eq at HALT_B then Nothing (record next { b = value })
    else (if nat_eq at HALT_C then Nothing (record next { c = value })
    else (if nat_le CONSOLE_STATUS at && nat_le at HALT then Strayed else PortWritten next at value)))))

-- what a step shows
abbrev pub sign_of : InKernel → Move → Sign
sign_of k (Goes next) = Nothing (record k { core = next })
sign_of k (Reads next at value) = PortRead (record k { core = next }) at value
sign_of k (Writes next at value) = write_sign (record k { core = next }) at value
sign_of k (Enters next code) = Strayed
sign_of k (Leaves next) = LeftKernel next
sign_of k (Stops stop) = Strayed
