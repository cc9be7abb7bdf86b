-- getc (PSX-SPX, Kernel (BIOS), File Functions: getc).
use Rattle.std.specs.Prelude.{if◌then◌else◌}
use Rattle.psx_base.specs.KernelState.{KernelState}
use Rattle.abs_kernel.specs.Stay.{Stay}
use Rattle.abs_kernel.specs.Answered.{registers_of}
use Rattle.abs_kernel.specs.Files.{file, is_readable, refuses, bad_file}
use Rattle.abs_kernel.specs.Getchar.{getchar}

-- getc(f) waits for a byte of a file that is open for reading, and answers it
abbrev pub getc : KernelState → Stay
getc s = if is_readable (file s (registers_of s).r4) then getchar s else refuses s bad_file
