-- What the command `asm` sends: the PS-EXE of the bytes that an assembly text places.
use Rattle.std.specs.Prelude.{ℕ, ◌+◌, ◌-◌, ◌*◌, ◌/◌, ◌%◌, ◌≤◌, All, min, max, List, [], ◌∷◌, replicate, slice_set, Option, Some, None}
use Rattle.psx_exe.specs.declared.exe.Exe.{Exe}
use Rattle.psx_exe.specs.Writing.{written}
use Rattle.psx_asm.specs.Assembly.{Placed}

-- the window: user memory in the cached segment
abbrev pub window_from : ℕ
window_from = 0x80010000

abbrev pub window_to : ℕ
window_to = 0x801FFFFF

-- addresses of the window
abbrev pub AreInWindow : List (ℕ × ℕ) → Type 0
AreInWindow bytes = All (λ p. (window_from ≤ p.0) × (p.0 ≤ window_to)) bytes

-- the lowest address at which a byte is placed, and the highest
abbrev pub lowest : ℕ → List (ℕ × ℕ) → ℕ
lowest least [] = least
lowest least (p ∷ ps) = lowest (min least p.0) ps

abbrev pub highest : ℕ → List (ℕ × ℕ) → ℕ
highest most [] = most
highest most (p ∷ ps) = highest (max most p.0) ps

-- bytes put into a text that stands from an address on, each at its own
abbrev pub put : ℕ → List ℕ → List (ℕ × ℕ) → List ℕ
put dest text [] = text
put dest text (p ∷ ps) = put dest (slice_set text (p.0 - dest) p.1) ps

-- a program without gp, fill and stack of its own
abbrev pub program : (pc dest : ℕ) → List ℕ → Exe
program pc dest text = record { pc = pc; gp = 0; dest = dest; fill_start = 0; fill_size = 0; sp_base = 0; sp_offset = 0; text = text }

-- the multiple of 2,048 at or below an address, and the one above it
abbrev pub down : ℕ → ℕ
down at = at - at % 2048

abbrev pub up : ℕ → ℕ
up at = (at / 2048 + 1) * 2048

-- the pc: the label `start`, or the lowest address
abbrev pub pc_of : Option ℕ → ℕ → ℕ
pc_of (Some start) low = start
pc_of None low = low

-- the program of bytes whose lowest and highest addresses are these: zeros in the gaps
abbrev pub spanned : Option ℕ → List (ℕ × ℕ) → (low high : ℕ) → Exe
spanned start bytes low high = program (pc_of start low) (down low) (put (down low) (replicate (up high - down low) 0) bytes)

-- the program of bytes; without any it is empty
abbrev pub program_with : Option ℕ → List (ℕ × ℕ) → Exe
program_with start [] = program window_from window_from []
program_with start (p ∷ ps) = spanned start (p ∷ ps) (lowest window_to (p ∷ ps)) (highest window_from (p ∷ ps))

-- the program of what a text gives
abbrev pub program_of : Placed → Exe
program_of placed = program_with placed.start placed.bytes

-- the file that is sent
abbrev pub assembling : Placed → List ℕ
assembling placed = written (program_of placed)
