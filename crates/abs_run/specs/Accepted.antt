-- What a run is given, and the state in which its program begins.
use Rattle.std.specs.Prelude.{ℕ, ◌^◌, ◌<◌, List, All}
use Rattle.psx_base.specs.declared.stop.Sizes.{Sizes}
use Rattle.psx_base.specs.Memory.{Memory, no_bytes}
use Rattle.psx_base.specs.KernelState.{KernelState}
use Rattle.psx_sched.specs.declared.schedule.Entry.{Entry}
use Rattle.psx_sched.specs.Accepted.{IsByte}
use Rattle.psx_exe.specs.declared.exe.Exe.{Exe}
use Rattle.psx_exe.specs.Reading.{IsReadable}
use Rattle.psx_exe.specs.Placed.{placed, stack_top}
use Rattle.kern_layout.specs.Start.{start}

-- a program that some file is read as; its gp is a word and its text bytes, as they are in a file of bytes
pub record IsAccepted (exe : Exe) : Type 0 where
  pub readable : IsReadable exe
  pub word : exe.gp < 2 ^ 32
  pub bytes : All (λ (b : ℕ). b < 2 ^ 8) exe.text

-- the bytes of a schedule are bytes
abbrev pub AreBytes : List Entry → Type 0
AreBytes schedule = All (λ (e : Entry). IsByte e.what) schedule

-- the user's memory as a program begins: 0 but for the program
abbrev pub program_memory : Exe → Memory
program_memory exe = placed no_bytes exe

-- the kernel's state as a program begins
abbrev pub opening : Exe → Sizes → KernelState
opening exe sizes = start exe.pc exe.gp (stack_top exe) (program_memory exe) sizes
