-- putc (PSX-SPX, Kernel (BIOS), File Functions: putc).
use Rattle.std.specs.Prelude.{◌%◌, ◌^◌, if◌then◌else◌}
use Rattle.psx_base.specs.KernelState.{KernelState}
use Rattle.abs_kernel.specs.Stay.{Stay, Write}
use Rattle.abs_kernel.specs.Answered.{registers_of, answered}
use Rattle.abs_kernel.specs.Files.{file, is_writable, refuses, bad_file}

-- putc(c, f) writes c's low byte to a file that is open for writing, and answers it
abbrev pub putc : KernelState → Stay
putc s =
    let r = registers_of s in
    let byte = r.r4 % 2 ^ 8 in
    if is_writable (file s r.r5) then Write byte (answered s byte) else refuses s bad_file
