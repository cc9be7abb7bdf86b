-- read (PSX-SPX, Kernel (BIOS), File Functions: read). The count is signed.
use Rattle.std.specs.Prelude.{ℕ, zero, suc, ◌+◌, nat_eq, if◌then◌else◌}
use Rattle.psx_base.specs.KernelState.{KernelState}
use Rattle.abs_kernel.specs.Stay.{Stay}
use Rattle.abs_kernel.specs.Answered.{registers_of, answered, waits}
use Rattle.abs_kernel.specs.UserBytes.{tests_bytes, with_byte, following, count_of}
use Rattle.abs_kernel.specs.ConsoleBytes.{takes_byte}
use Rattle.abs_kernel.specs.Files.{file, is_readable, refuses, bad_file}

-- At most n bytes are taken as they are due, behind those that came. Each place is tested before its byte is asked for. Where none came the call waits, and else it answers how many came.
abbrev pub read_bytes : (n : ℕ) → KernelState → (at came : ℕ) → Stay
read_bytes zero s at came = answered s came
read_bytes (suc n) s at came = tests_bytes 1 s at (takes_byte (if nat_eq came 0 then waits s else answered s came) (λ b. read_bytes n (with_byte s at b) (following at) (came + 1)))

-- read(f, p, n) takes at most n bytes of a file that is open for reading, to p on; where n isn't above 0 it answers 0
abbrev pub read : KernelState → Stay
read s = let r = registers_of s in if is_readable (file s r.r4) then read_bytes (count_of r.r6) s r.r5 0 else refuses s bad_file
