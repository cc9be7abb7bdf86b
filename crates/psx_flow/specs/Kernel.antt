-- Where the kernel's words stand (its memory map: vector, gates, tables and code lie below its data).
use Rattle.std.specs.Prelude.{ℕ, Bool, nat_lt}

-- the physical addresses that no store may touch
abbrev pub kernel_words : ℕ → Bool
kernel_words p = nat_lt p 0xB000
