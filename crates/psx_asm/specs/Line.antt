-- Lines: a label and a statement, which names they give, and where each line stands.
use Rattle.std.specs.Prelude.{ℕ, ◌+◌, ◌-◌, ◌*◌, ◌%◌, ◌^◌, Bool, false, ◌||◌, ◌==◌, List, [], ◌∷◌, length, bytes_eq, is_some, Option, Some, None, Result, Ok, Err, if◌then◌else◌}
use Rattle.psx_asm.specs.declared.shape.Width.{Width}
use Rattle.psx_asm.specs.declared.shape.Width.TheVariants.{Byte, Half, Word}
use Rattle.psx_asm.specs.declared.shape.Shape.{Shape}
use Rattle.psx_asm.specs.declared.shape.Directive.{Directive}
use Rattle.psx_asm.specs.declared.symbol.Symbol.{Symbol}
use Rattle.psx_asm.specs.declared.symbol.Symbol.TheVariants as symbols
use Rattle.psx_asm.specs.declared.fault.AsmFault.{AsmFault}
use Rattle.psx_asm.specs.declared.fault.AsmFault.TheVariants.{BadToken, UnknownWord, BadOperand, Twice}
use Rattle.psx_asm.specs.Piece.{Piece, Name, Directive as Dotted, Mark}
use Rattle.psx_asm.specs.Operands.{Known}
use Rattle.psx_asm.specs.Shapes.{shape_of}
use Rattle.psx_asm.specs.Statement.{Statement, Empty, Alone, Pair, Branches, Jumps, Address, Values, Text, Space, Align, Org, Equ, by_shape}
use Rattle.psx_asm.specs.Directives.{directive_of, by_directive}

-- a line without a fault of the first round
pub record Line : Type 0 where
  pub label : Option (List ℕ)
  pub statement : Statement

infixl 10 ◌>>=◌
abbrev pub ◌>>=◌ : {A B E : Type 0} → Result A E → (A → Result B E) → Result B E
(Ok x) >>= f = f x
(Err e) >>= f = Err e

-- a statement, where its operands are right
abbrev pub with_operands : Option Statement → Result Statement AsmFault
with_operands (Some s) = Ok s
with_operands None = Err BadOperand

-- by the operands that a mnemonic takes
abbrev pub by_mnemonic : Known → List ℕ → List Piece → Option Shape → Result Statement AsmFault
by_mnemonic known w ps (Some shape) = with_operands (by_shape known w ps shape)
by_mnemonic known w ps None = Err UnknownWord

-- by what a directive does
abbrev pub by_dotted : Known → List Piece → Option Directive → Result Statement AsmFault
by_dotted known ps (Some directive) = with_operands (by_directive known ps directive)
by_dotted known ps None = Err UnknownWord

-- the statement of these pieces
abbrev pub statement_of : Known → List Piece → Result Statement AsmFault
statement_of known [] = Ok Empty
statement_of known (Name w ∷ ps) = by_mnemonic known w ps (shape_of w)
statement_of known (Dotted w ∷ ps) = by_dotted known ps (directive_of w)
statement_of known _ = Err UnknownWord

-- a line's label and the pieces of its statement
abbrev pub split_label : List Piece → Option (List ℕ) × List Piece
split_label (Name w ∷ Mark c ∷ ps) = if c == 58 then (Some w, ps) else (None, Name w ∷ Mark c ∷ ps)
split_label ps = (None, ps)

-- a line of these pieces
abbrev pub line_of : Known → List Piece → Result Line AsmFault
line_of known ps = do
  s ← statement_of known (split_label ps).1
  Ok (record { label = (split_label ps).0; statement = s })

-- a line whose tokens were found
abbrev pub read_line : Known → Option (List Piece) → Result Line AsmFault
read_line known (Some ps) = line_of known ps
read_line known None = Err BadToken

-- whether a line's label is this name
abbrev pub is_label : Option (List ℕ) → List ℕ → Bool
is_label (Some label) w = bytes_eq label w
is_label None w = false

-- a line with a label that the text gave before
abbrev pub checked_label : Known → Line → Option (List ℕ) → Result Line AsmFault
checked_label known line (Some w) = if is_some (known w) then Err (Twice w) else Ok line
checked_label known line None = Ok line

-- a line with a name of `.equ` that the text gave before, or that is the line's label
abbrev pub checked_name : Known → Line → Statement → Result Line AsmFault
checked_name known line (Equ w n) = if is_some (known w) || is_label line.label w then Err (Twice w) else Ok line
checked_name known line _ = Ok line

-- a line, or its fault of the first round, by what is known of each name before it
abbrev pub line_after : Known → Option (List Piece) → Result Line AsmFault
line_after known reading = do
  line ← read_line known reading
  labelled ← checked_label known line line.label
  checked_name known labelled labelled.statement

-- how many bytes a value takes
abbrev pub width_of : Width → ℕ
width_of Byte = 1
width_of Half = 2
width_of Word = 4

-- the zeros up to a multiple of one more than a number
abbrev pub padding : ℕ → ℕ → ℕ
padding last at = (last + 1 - at % (last + 1)) % (last + 1)

-- how many bytes a statement places at an address
abbrev pub size : ℕ → Statement → ℕ
size at Empty = 0
size at (Alone ins) = 4
size at (Pair first second) = 8
size at (Branches ins v) = 4
size at (Jumps ins v) = 4
size at (Address t v) = 8
size at (Values width vs) = width_of width * length vs
size at (Text bytes) = length bytes
size at (Space n) = n
size at (Align last) = padding last at
size at (Org n) = 0
size at (Equ w n) = 0

-- the address behind a statement at an address
abbrev pub after : ℕ → Statement → ℕ
after at (Org n) = n
after at s = (at + size at s) % 2 ^ 32

-- the address behind lines that begin at an address: the last `.org`, and the sizes behind it, modulo 2 ^ 32
abbrev pub address_from : ℕ → List Line → ℕ
address_from at [] = at
address_from at (l ∷ ls) = address_from (after at l.statement) ls

-- where a text's first line stands
abbrev pub first_address : ℕ
first_address = 0x80010000

-- the address behind a text's first lines
abbrev pub address : List Line → ℕ
address before = address_from first_address before

-- the name that a statement gives
abbrev pub named : Statement → List ℕ → Option Symbol
named (Equ name n) w = if bytes_eq name w then Some (symbols.Number n) else None
named _ w = None

-- what a line at an address says of a name
abbrev pub given : ℕ → Line → List ℕ → Option Symbol
given at line w = if is_label line.label w then Some (symbols.Address at) else named line.statement w

-- what is said first, or else what is said later
abbrev pub or_later : Option Symbol → Option Symbol → Option Symbol
or_later (Some symbol) later = Some symbol
or_later None later = later

-- what lines that begin at an address say of a name: the first of them that says something
abbrev pub known_from : ℕ → List Line → Known
known_from at [] w = None
known_from at (l ∷ ls) w = or_later (given at l w) (known_from (after at l.statement) ls w)

-- what a text's first lines say of a name
abbrev pub known : List Line → Known
known before = known_from first_address before
