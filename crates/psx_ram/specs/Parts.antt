-- The three memories of the board as one (PSX-SPX, Memory Map).
use Rattle.std.specs.Prelude.{ℕ, List, replicate}
use Rattle.psx_base.specs.Memory.{Memory, no_bytes, put_bytes}

-- main memory, scratchpad and ROM, each by its bytes
unfoldable pub of_parts : List ℕ → List ℕ → List ℕ → Memory
of_parts main scratchpad rom = put_bytes (put_bytes (put_bytes no_bytes 0 main) 0x1F800000 scratchpad) 0x1FC00000 rom

-- so many bytes 0
unfoldable pub zeros : ℕ → List ℕ
zeros n = replicate n 0

-- the memory as the board begins with it: the ROM at its place, and every other byte 0
unfoldable pub reset_memory : List ℕ → Memory
reset_memory rom = of_parts (zeros 0x200000) (zeros 0x400) rom
