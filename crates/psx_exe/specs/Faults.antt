-- What makes a file no program, in the order in which it is looked for (PSX-SPX, EXE header; the limits and the ranges are this project's own).
use Rattle.std.specs.Prelude.{ℕ, ◌+◌, ◌%◌, ◌&&◌, nat_eq, nat_lt, List, [], ◌∷◌, length, Option, Some, None, if◌then◌else◌}
use Rattle.std.specs.List.{starts_with}
use Rattle.psx_base.specs.Addresses.{user}
use Rattle.psx_base.specs.FirstBad.{first_bad_of}
use Rattle.psx_exe.specs.Header.{header_of}
use Rattle.psx_exe.specs.declared.header.Header.{Header}
use Rattle.psx_exe.specs.declared.fault.ExeError.{ExeError}
use Rattle.psx_exe.specs.declared.fault.ExeError.TheVariants.{TooLong, Short, NoMark, TextRange, Truncated, FillRange, BadPc}

-- the most bytes that a file may have
abbrev pub longest : ℕ
longest = 0x800000

-- the bytes of the header, behind which the text stands
abbrev pub header_size : ℕ
header_size = 0x800

-- the mark at a file's start: PS-X EXE
abbrev pub mark : List ℕ
mark = 0x50 ∷ 0x53 ∷ 0x2d ∷ 0x58 ∷ 0x20 ∷ 0x45 ∷ 0x58 ∷ 0x45 ∷ []

-- more bytes than the limit
abbrev pub too_long : ℕ → Option ExeError
too_long len = if nat_lt longest len then Some (TooLong longest) else None

-- fewer bytes than a header has
abbrev pub short : ℕ → Option ExeError
short len = if nat_lt len header_size then Some Short else None

-- other first bytes than the mark
abbrev pub no_mark : List ℕ → Option ExeError
no_mark bytes = if starts_with nat_eq bytes mark then None else Some NoMark

-- the first address of the text that isn't user memory
abbrev pub text_range : Header → Option ExeError
text_range h = elim (first_bad_of h.dest h.size) [ Some at ↦ Some (TextRange at) | None ↦ None ]

-- fewer bytes than header and text need
abbrev pub truncated : Header → ℕ → Option ExeError
truncated h len = if nat_lt len (header_size + h.size) then Some (Truncated (header_size + h.size)) else None

-- the first address of the fill that isn't user memory
abbrev pub fill_range : Header → Option ExeError
fill_range h = elim (first_bad_of h.fill_start h.fill_size) [ Some at ↦ Some (FillRange at) | None ↦ None ]

-- a start that is no instruction's address in user memory
abbrev pub bad_pc : Header → Option ExeError
bad_pc h = if nat_eq (h.pc % 4) 0 && user h.pc then None else Some (BadPc h.pc)

-- the first fault of a list of those that were looked for
abbrev pub first_of : List (Option ExeError) → Option ExeError
first_of [] = None
first_of (Some fault ∷ later) = Some fault
first_of (None ∷ later) = first_of later

-- the first fault of a header in a file of so many bytes
abbrev pub header_fault : Header → ℕ → Option ExeError
header_fault h len = first_of (text_range h ∷ truncated h len ∷ fill_range h ∷ bad_pc h ∷ [])

-- the first fault of a file
unfoldable pub first_fault : List ℕ → Option ExeError
first_fault bytes =
    first_of (too_long (length bytes) ∷ short (length bytes) ∷ no_mark bytes ∷ header_fault (header_of bytes) (length bytes) ∷ [])
