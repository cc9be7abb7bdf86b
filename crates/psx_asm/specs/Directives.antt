-- Statements that begin with a directive.
use Rattle.std.specs.Prelude.{ℕ, ◌-◌, ◌^◌, Bool, true, false, ◌==◌, List, [], ◌∷◌, ◌++◌, length, take, drop, codes, bytes_eq, Option, Some, None, option_map, if◌then◌else◌}
use Rattle.psx_asm.specs.declared.shape.Width.{Width}
use Rattle.psx_asm.specs.declared.shape.Width.TheVariants.{Byte, Half, Word}
use Rattle.psx_asm.specs.declared.shape.Directive.{Directive}
use Rattle.psx_asm.specs.declared.shape.Directive.TheVariants as does
use Rattle.psx_asm.specs.Piece.{Piece, Name, Quoted}
use Rattle.psx_asm.specs.Numbers.{low_word}
use Rattle.psx_asm.specs.Operands.{Known, ◌>>=◌, number, number_below, values, ends}
use Rattle.psx_asm.specs.Statement.{Statement, Values, Text, Space, Align, Org, Equ}

-- the directives that are there
abbrev pub directive_of : List ℕ → Option Directive
directive_of w =
    if bytes_eq w (codes ".word") then Some (does.Values Word) else
    if bytes_eq w (codes ".half") then Some (does.Values Half) else
    if bytes_eq w (codes ".byte") then Some (does.Values Byte) else
    if bytes_eq w (codes ".ascii") then Some does.Ascii else
    if bytes_eq w (codes ".asciiz") then Some does.AsciiZero else
    if bytes_eq w (codes ".space") then Some does.Space else
    if bytes_eq w (codes ".align") then Some does.Align else
    if bytes_eq w (codes ".org") then Some does.Org else
    if bytes_eq w (codes ".equ") then Some does.Equ else
    None

-- the byte that an escape stands for: \n, \t, \0, \\ and \"
abbrev pub meaning : ℕ → ℕ
meaning c = if c == 110 then 10 else if c == 116 then 9 else if c == 48 then 0 else c

-- the bytes that are written so, of which the first may stand behind a backslash
abbrev pub meant : Bool → List ℕ → List ℕ
meant escaped [] = []
meant true (c ∷ cs) = meaning c ∷ meant false cs
meant false (c ∷ cs) = if c == 92 then meant true cs else c ∷ meant false cs

-- the bytes of a text between its quotes
abbrev pub text_bytes : List ℕ → List ℕ
text_bytes w = meant false (take (length w - 2) (drop 1 w))

-- a text
abbrev pub text : List Piece → Option (List ℕ × List Piece)
text (Quoted w ∷ ps) = Some (text_bytes w, ps)
text _ = None

-- a name
abbrev pub name : List Piece → Option (List ℕ × List Piece)
name (Name w ∷ ps) = Some (w, ps)
name _ = None

-- values, of which there is one at least
abbrev pub some_values : Width → List Piece → Option Statement
some_values width [] = None
some_values width (p ∷ ps) = option_map (Values width) (values (p ∷ ps))

-- a text
unfoldable pub of_text : List Piece → Option Statement
of_text ps = do
  t ← text ps
  ends t.1 (Some (Text t.0))

-- a text, and a byte 0 behind it
unfoldable pub of_text_zero : List Piece → Option Statement
of_text_zero ps = do
  t ← text ps
  ends t.1 (Some (Text (t.0 ++ 0 ∷ [])))

-- so many zeros
unfoldable pub of_space : Known → List Piece → Option Statement
of_space known ps = do
  n ← number_below (2 ^ 32) known ps
  ends n.1 (Some (Space n.0))

-- a power of two, 2 ^ 12 at most
unfoldable pub of_align : Known → List Piece → Option Statement
of_align known ps = do
  n ← number_below 13 known ps
  ends n.1 (Some (Align (2 ^ n.0 - 1)))

-- an address, modulo 2 ^ 32
unfoldable pub of_org : Known → List Piece → Option Statement
of_org known ps = do
  n ← number known ps
  ends n.1 (Some (Org (low_word n.0)))

-- a name and a number
unfoldable pub of_equ : Known → List Piece → Option Statement
of_equ known ps = do
  w ← name ps
  n ← number known w.1
  ends n.1 (Some (Equ w.0 n.0))

-- the statement of a directive's operands, where they are of its kinds and in its ranges
abbrev pub by_directive : Known → List Piece → Directive → Option Statement
by_directive known ps (does.Values width) = some_values width ps
by_directive known ps does.Ascii = of_text ps
by_directive known ps does.AsciiZero = of_text_zero ps
by_directive known ps does.Space = of_space known ps
by_directive known ps does.Align = of_align known ps
by_directive known ps does.Org = of_org known ps
by_directive known ps does.Equ = of_equ known ps
