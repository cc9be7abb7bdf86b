-- What the ROM's bytes are, for the proofs of what its words do.
use Rattle.std.specs.Prelude.{◌≡◌, ℕ, ◌+◌, ◌*◌, ◌%◌, ◌^◌, ◌<◌, true, length, slice_index, All}
use Rattle.psx_base.specs.Memory.{Memory, byte, word}
use Rattle.kern_layout.specs.Opening.{Opens}
use Rattle.kern_layout.specs.Stands.{HoldsRom, is_fixed}
use Rattle.kern_stay.specs.Words.{Stand}
use Rattle.kern_image.specs.Words.{word_of}
use Rattle.kern_image.specs.Rom.{all_pieces, kernel_word, rom, rom_word}
use Rattle.kern_image.specs.declared.boot.TheConstants.{BOOT}

abbrev pub BytesFit : Type 0
BytesFit = All (λ (b : ℕ). b < 2 ^ 8) rom

-- each word is that of the definition, and fits
abbrev pub WordsRead : Type 0
WordsRead = (o : ℕ) → o % 4 ≡ 0 → o < 0x80000 → word_of rom o ≡ rom_word o

abbrev pub WordsFit : Type 0
WordsFit = (o : ℕ) → rom_word o < 2 ^ 32

-- the boot code stands at 0, and the kernel's 64 KB at 10000h
abbrev pub BootReads : Type 0
BootReads = (k : ℕ) → k < length BOOT → word_of rom (4 * k) ≡ slice_index BOOT k

abbrev pub BlockReads : Type 0
BlockReads = (a : ℕ) → a % 4 ≡ 0 → a < 0x10000 → word_of rom (0x10000 + a) ≡ kernel_word a

abbrev pub BlockOpens : Type 0
BlockOpens = Opens kernel_word

-- memory that holds the ROM has the block's words there, and memory that has them holds it
abbrev pub FixedReads : Type 0
FixedReads = (m : Memory) (a : ℕ) → HoldsRom m rom → a % 4 ≡ 0 → is_fixed a ≡ true → word m a ≡ kernel_word a

abbrev pub FixedHolds : Type 0
FixedHolds = (m : Memory) → ((a : ℕ) → byte m a < 2 ^ 8) → ((a : ℕ) → a % 4 ≡ 0 → is_fixed a ≡ true → word m a ≡ kernel_word a) → HoldsRom m rom

-- in memory that holds the ROM the words of the code stand where they are placed
abbrev pub PiecesStand : Type 0
PiecesStand = (m : Memory) → HoldsRom m rom → Stand (word m) all_pieces
