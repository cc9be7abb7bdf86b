-- toupper (PSX-SPX, Kernel (BIOS), String functions: toupper).
use Rattle.std.specs.Prelude.{ℕ, ◌-◌, ◌%◌, ◌^◌, ◌&&◌, nat_le, if◌then◌else◌}
use Rattle.psx_base.specs.KernelState.{KernelState}
use Rattle.abs_kernel.specs.Stay.{Stay}
use Rattle.abs_kernel.specs.Answered.{registers_of, answered}

-- the capital of an ASCII small letter; every other byte as it is
abbrev pub capital_of : (byte : ℕ) → ℕ
capital_of byte = if nat_le 0x61 byte && nat_le byte 0x7A then byte - 0x20 else byte

-- toupper(c) answers c's low byte, a small letter as its capital
abbrev pub toupper : KernelState → Stay
toupper s = answered s (capital_of ((registers_of s).r4 % 2 ^ 8))
