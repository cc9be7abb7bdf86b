-- The header of a PS-EXE: numbers of four bytes, the lowest byte first (PSX-SPX, EXE header).
use Rattle.std.specs.Prelude.{ℕ, List, drop}
use Rattle.byteorder.specs.Endian.{little_number}
use Rattle.psx_exe.specs.declared.header.Header.{Header}

-- the number in the four bytes at a place
abbrev pub word_at : List ℕ → ℕ → ℕ
word_at bytes place = little_number 4 (drop place bytes)

-- the header's numbers, each at its place
unfoldable pub header_of : List ℕ → Header
header_of bytes = record {
  pc = word_at bytes 0x10;
  gp = word_at bytes 0x14;
  dest = word_at bytes 0x18;
  size = word_at bytes 0x1C;
  fill_start = word_at bytes 0x28;
  fill_size = word_at bytes 0x2C;
  sp_base = word_at bytes 0x30;
  sp_offset = word_at bytes 0x34;
}
