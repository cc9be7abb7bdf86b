-- The program that a file is, or its first fault.
use Rattle.std.specs.Prelude.{◌≡◌, ℕ, List, take, drop, Some, None, Result, Ok, Err}
use Rattle.psx_exe.specs.Header.{header_of}
use Rattle.psx_exe.specs.Faults.{first_fault, header_size}
use Rattle.psx_exe.specs.declared.exe.Exe.{Exe}
use Rattle.psx_exe.specs.declared.header.Header.{Header}
use Rattle.psx_exe.specs.declared.fault.ExeError.{ExeError}

-- the program of a header and a text
abbrev pub program_of : Header → List ℕ → Exe
program_of h text = record {
  pc = h.pc;
  gp = h.gp;
  dest = h.dest;
  fill_start = h.fill_start;
  fill_size = h.fill_size;
  sp_base = h.sp_base;
  sp_offset = h.sp_offset;
  text = text;
}

-- the bytes behind the header, as many as the header says
abbrev pub text_of : List ℕ → List ℕ
text_of bytes = take (header_of bytes).size (drop header_size bytes)

-- the first fault, or the program
unfoldable pub read_of : List ℕ → Result Exe ExeError
read_of bytes = elim (first_fault bytes) [ Some fault ↦ Err fault | None ↦ Ok (program_of (header_of bytes) (text_of bytes)) ]

-- a program that some file is read as
pub record IsReadable (e : Exe) : Type 0 where
  pub bytes : List ℕ
  pub read : read_of bytes ≡ Ok e
