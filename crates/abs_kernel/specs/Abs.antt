-- abs and labs (PSX-SPX, Kernel (BIOS), Number/String/Character conversion: abs, labs).
use Rattle.std.specs.Prelude.{ℕ, ◌-◌, ◌%◌, ◌^◌, nat_lt, if◌then◌else◌}
use Rattle.psx_base.specs.KernelState.{KernelState}
use Rattle.abs_kernel.specs.Stay.{Stay}
use Rattle.abs_kernel.specs.Answered.{registers_of, answered}

-- a word with the other sign, modulo 2 ^ 32
abbrev pub negated : (word : ℕ) → ℕ
negated w = (2 ^ 32 - w) % 2 ^ 32

-- a word without its sign; 80000000h stays as it is
abbrev pub magnitude_of : (word : ℕ) → ℕ
magnitude_of w = if nat_lt w (2 ^ 31) then w else negated w

-- abs(a) answers a without its sign
abbrev pub abs : KernelState → Stay
abs s = answered s (magnitude_of (registers_of s).r4)
