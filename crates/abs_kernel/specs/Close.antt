-- close (PSX-SPX, Kernel (BIOS), File Functions: close).
use Rattle.std.specs.Prelude.{is_some, None, if◌then◌else◌}
use Rattle.psx_base.specs.KernelState.{KernelState}
use Rattle.abs_kernel.specs.Stay.{Stay}
use Rattle.abs_kernel.specs.Answered.{registers_of, answered}
use Rattle.abs_kernel.specs.Files.{file, with_file, refuses, bad_file}

-- close(f) closes an open file, and answers its number
abbrev pub close : KernelState → Stay
close s = let f = (registers_of s).r4 in if is_some (file s f) then answered (with_file s f None) f else refuses s bad_file
