-- The end of a program (PSX-SPX, Kernel (BIOS), Misc Functions: exit and _exit; the gate D0h is this project's own).
use Rattle.psx_base.specs.declared.stop.Stop.TheVariants.{Exit}
use Rattle.psx_base.specs.KernelState.{KernelState}
use Rattle.abs_kernel.specs.Stay.{Stay, Halt}
use Rattle.abs_kernel.specs.Answered.{registers_of}

-- exit(code), _exit(code)
abbrev pub exits : KernelState → Stay
exits s = Halt (Exit (registers_of s).r4) s.memory

-- the program's return, with its answer as the code
abbrev pub ends : KernelState → Stay
ends s = Halt (Exit (registers_of s).r2) s.memory
