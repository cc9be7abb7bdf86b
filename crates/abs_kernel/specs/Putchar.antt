-- putchar (PSX-SPX, Kernel (BIOS), TTY Console (std_io): putchar).
use Rattle.std.specs.Prelude.{◌%◌, ◌^◌}
use Rattle.psx_base.specs.KernelState.{KernelState}
use Rattle.abs_kernel.specs.Stay.{Stay, Write}
use Rattle.abs_kernel.specs.Answered.{registers_of, answered}

-- putchar(c) writes the low byte, and answers it
abbrev pub putchar : KernelState → Stay
putchar s = let byte = (registers_of s).r4 % 2 ^ 8 in Write byte (answered s byte)
