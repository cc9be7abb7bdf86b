-- Where a program is placed in memory, and where its stack begins.
use Rattle.std.specs.Prelude.{ℕ, ◌+◌, ◌%◌, ◌^◌, nat_eq, List, [], ◌∷◌, replicate, if◌then◌else◌}
use Rattle.psx_base.specs.Addresses.{place}
use Rattle.psx_base.specs.Memory.{Memory, put_byte}
use Rattle.psx_exe.specs.declared.exe.Exe.{Exe}

-- a memory after bytes were written one after the other from a virtual address on, modulo 2 ^ 32, each at its physical address
unfoldable pub written_from : Memory → ℕ → List ℕ → Memory
written_from m at [] = m
written_from m at (x ∷ xs) = written_from (put_byte m (place at) x) ((at + 1) % 2 ^ 32) xs

-- a memory after a program was placed in it: the text, and then zeros in the fill
unfoldable pub placed : Memory → Exe → Memory
placed m e = written_from (written_from m e.dest e.text) e.fill_start (replicate e.fill_size 0)

-- where the stack begins: the header's base and offset, or the system's own place where the base is 0
abbrev pub stack_top : Exe → ℕ
stack_top e = if nat_eq e.sp_base 0 then 0x801FFF00 else (e.sp_base + e.sp_offset) % 2 ^ 32
