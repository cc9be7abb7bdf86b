-- The file that is made of a program: every byte of the header that has no name is 0.
use Rattle.std.specs.Prelude.{ℕ, ◌-◌, ◌^◌, ◌<◌, List, [], ◌∷◌, ◌++◌, length, replicate}
use Rattle.byteorder.specs.Endian.{little_bytes}
use Rattle.psx_exe.specs.Faults.{mark, header_size}
use Rattle.psx_exe.specs.declared.exe.Exe.{Exe}
use Rattle.psx_exe.specs.declared.header.Header.{Header}

-- a number in four bytes, the lowest first
abbrev pub number : ℕ → List ℕ
number n = little_bytes 4 n

-- two numbers without a name
abbrev pub gap : List ℕ
gap = 0 ∷ 0 ∷ 0 ∷ 0 ∷ 0 ∷ 0 ∷ 0 ∷ 0 ∷ []

-- the bytes of the header from its mark to its last number
abbrev pub named_bytes : Header → List ℕ
named_bytes h =
    mark ++ gap ++ number h.pc ++ number h.gp ++ number h.dest ++ number h.size ++ gap ++ number h.fill_start ++ number h.fill_size ++ number h.sp_base ++ number h.sp_offset

-- the zeros behind them, up to the text
unfoldable pub padding : List ℕ
padding = replicate (header_size - 0x38) 0

-- the header's numbers of a program
abbrev pub header_for : Exe → Header
header_for e = record {
  pc = e.pc;
  gp = e.gp;
  dest = e.dest;
  size = length e.text;
  fill_start = e.fill_start;
  fill_size = e.fill_size;
  sp_base = e.sp_base;
  sp_offset = e.sp_offset;
}

-- each number of a header fits its four bytes
pub record IsSmall (h : Header) : Type 0 where
  pub pc : h.pc < 2 ^ 32
  pub gp : h.gp < 2 ^ 32
  pub dest : h.dest < 2 ^ 32
  pub size : h.size < 2 ^ 32
  pub fill_start : h.fill_start < 2 ^ 32
  pub fill_size : h.fill_size < 2 ^ 32
  pub sp_base : h.sp_base < 2 ^ 32
  pub sp_offset : h.sp_offset < 2 ^ 32

-- the file of a program
unfoldable pub written : Exe → List ℕ
written e = named_bytes (header_for e) ++ padding ++ e.text
