-- What an address of the processor reaches (PSX-SPX, Memory Map; the gates are those of Kernel (BIOS), with two of this project's own).
use Rattle.std.specs.Prelude.{ℕ, ◌/◌, ◌%◌, ◌^◌, Bool, ◌&&◌, ◌||◌, nat_eq, nat_le, nat_lt, Option, Some, None, if◌then◌else◌}
use Rattle.psx_base.specs.declared.address.Segment.{Segment}
use Rattle.psx_base.specs.declared.address.Segment.TheVariants.{Low, Cached, Uncached}
use Rattle.psx_base.specs.declared.address.Gate.{Gate}
use Rattle.psx_base.specs.declared.address.Gate.TheVariants.{A, B, C, Done, Back}

-- the top three bits
abbrev pub top : ℕ → ℕ
top a = a / 2 ^ 29

-- the low 29 bits
abbrev pub low : ℕ → ℕ
low a = a % 2 ^ 29

-- the segment of an address, by its top three bits
abbrev pub segment_of : ℕ → Option Segment
segment_of a = if nat_eq (top a) 0 then Some Low else (if nat_eq (top a) 4 then Some Cached else (if nat_eq (top a) 5 then Some Uncached else None))

-- whether an address has a physical one
abbrev pub is_mirrored : ℕ → Bool
is_mirrored a = nat_eq (top a) 0 || (nat_eq (top a) 4 || nat_eq (top a) 5)

-- the physical address, where there is one
abbrev pub physical_of : ℕ → Option ℕ
physical_of a = if is_mirrored a then Some (low a) else None

-- the physical address, or 2 ^ 29, where no memory and no port stands
abbrev pub place : ℕ → ℕ
place a = if is_mirrored a then low a else 2 ^ 29

-- user memory, by physical address: main memory behind the kernel's 64 KB, and the scratchpad
abbrev pub user_main : ℕ → Bool
user_main p = nat_le 0x10000 p && nat_lt p 0x200000

abbrev pub scratchpad : ℕ → Bool
scratchpad p = nat_le 0x1F800000 p && nat_lt p 0x1F800400

-- user memory, by virtual address: the scratchpad isn't there in the uncached segment
unfoldable pub user : ℕ → Bool
user a = (is_mirrored a && user_main (low a)) || ((nat_eq (top a) 0 || nat_eq (top a) 4) && scratchpad (low a))

-- the gate at a physical address
abbrev pub gate_at : ℕ → Option Gate
gate_at p =
    if nat_eq p 0xA0 then Some A else (if nat_eq p 0xB0 then Some B else (if nat_eq p 0xC0 then Some C else (if nat_eq p 0xD0 then Some Done else (if nat_eq p 0xE0 then Some Back else None))))

-- the gate at an address
abbrev pub gate_of : ℕ → Option Gate
gate_of a = gate_at (place a)
