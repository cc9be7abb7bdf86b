-- tolower (PSX-SPX, Kernel (BIOS), String functions: tolower).
use Rattle.std.specs.Prelude.{ℕ, ◌+◌, ◌%◌, ◌^◌, ◌&&◌, nat_le, if◌then◌else◌}
use Rattle.psx_base.specs.KernelState.{KernelState}
use Rattle.abs_kernel.specs.Stay.{Stay}
use Rattle.abs_kernel.specs.Answered.{registers_of, answered}

-- the small letter of an ASCII capital; every other byte as it is
abbrev pub small_of : (byte : ℕ) → ℕ
small_of byte = if nat_le 0x41 byte && nat_le byte 0x5A then byte + 0x20 else byte

-- tolower(c) answers c's low byte, a capital as its small letter
abbrev pub tolower : KernelState → Stay
tolower s = answered s (small_of ((registers_of s).r4 % 2 ^ 8))
