-- puts (PSX-SPX, Kernel (BIOS), TTY Console (std_io): puts).
use Rattle.std.specs.Prelude.{ℕ, zero, suc, ◌%◌, ◌^◌, nat_eq, if◌then◌else◌}
use Rattle.psx_base.specs.KernelState.{KernelState}
use Rattle.abs_kernel.specs.Stay.{Stay, Write}
use Rattle.abs_kernel.specs.Answered.{registers_of, answered}
use Rattle.abs_kernel.specs.UserBytes.{reads_byte, bad_pointer, following, longest}

-- the bytes of a text, up to its zero, are written one by one; it has fewer than n bytes
abbrev pub write_text : (n : ℕ) → KernelState → (at : ℕ) → Stay
write_text zero s at = bad_pointer s at
write_text (suc n) s at = reads_byte s at (λ b. if nat_eq b 0 then answered s 0 else Write (b % 2 ^ 8) (write_text n s (following at)))

-- puts(s) writes s without a newline, and answers 0; a pointer 0 writes nothing
abbrev pub puts : KernelState → Stay
puts s = let r = registers_of s in if nat_eq r.r4 0 then answered s 0 else write_text longest s r.r4
