-- write (PSX-SPX, Kernel (BIOS), File Functions: write). The count is signed.
use Rattle.std.specs.Prelude.{ℕ, zero, suc, ◌%◌, ◌^◌, if◌then◌else◌}
use Rattle.psx_base.specs.KernelState.{KernelState}
use Rattle.abs_kernel.specs.Stay.{Stay, Write}
use Rattle.abs_kernel.specs.Answered.{registers_of, answered}
use Rattle.abs_kernel.specs.UserBytes.{reads_byte, following, count_of}
use Rattle.abs_kernel.specs.Files.{file, is_writable, refuses, bad_file}

-- n bytes are written one by one, and then a number is answered
abbrev pub write_bytes : (n : ℕ) → KernelState → (at value : ℕ) → Stay
write_bytes zero s at value = answered s value
write_bytes (suc n) s at value = reads_byte s at (λ b. Write (b % 2 ^ 8) (write_bytes n s (following at) value))

-- write(f, p, n) writes n bytes from p on to a file that is open for writing, and answers n, or 0 where n isn't above 0
abbrev pub write : KernelState → Stay
write s =
    let r = registers_of s in
    let n = count_of r.r6 in
    if is_writable (file s r.r4) then write_bytes n s r.r5 n else refuses s bad_file
