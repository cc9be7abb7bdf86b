-- What the code's values are in the words of the definition.
use Rattle.std.specs.Prelude.{ℕ, List, map, Option, Some, None}
use Rattle.std.specs.Borrow.{Bor}
use Rattle.psx_asm.specs.declared.piece.Piece as lexed
use Rattle.psx_asm.specs.declared.piece.Piece.TheVariants as pieces
use Rattle.psx_asm.specs.declared.statement.Value as values
use Rattle.psx_asm.specs.declared.statement.Statement as code
use Rattle.psx_asm.specs.declared.statement.Statement.TheVariants as statements
use Rattle.psx_asm.specs.Statement.{Statement, Empty, Alone, Pair, Branches, Jumps, Address, Values, Text, Space, Align, Org, Equ}
use Rattle.psx_asm.specs.declared.statement.Value.TheVariants as variants
use Rattle.psx_asm.specs.Piece.{Piece, Name, Directive, Number, Quoted, Mark}
use Rattle.psx_asm.specs.Operands.{Value, Plain, Sum}

-- a piece
abbrev pub shown_piece : lexed.Piece → Piece
shown_piece (pieces.Name text) = Name text.now
shown_piece (pieces.Directive text) = Directive text.now
shown_piece (pieces.Number n) = Number n
shown_piece (pieces.Quoted text) = Quoted text.now
shown_piece (pieces.Mark byte) = Mark byte

-- pieces in order
abbrev pub shown : List lexed.Piece → List Piece
shown ps = map shown_piece ps

-- a value
abbrev pub shown_value : values.Value → Value
shown_value (variants.Number n) = Plain n
shown_value (variants.Sum name plus) = Sum name.now plus

-- values in order
abbrev pub shown_values : List values.Value → List Value
shown_values vs = map shown_value vs

-- a statement
abbrev pub shown_statement : code.Statement → Statement
shown_statement statements.Empty = Empty
shown_statement (statements.Alone c) = Alone c.ins
shown_statement (statements.Pair first second) = Pair first.ins second.ins
shown_statement (statements.Branch c v) = Branches c.ins (shown_value v)
shown_statement (statements.Jump c v) = Jumps c.ins (shown_value v)
shown_statement (statements.Address t v) = Address t.reg (shown_value v)
shown_statement (statements.Values width vs) = Values width (shown_values vs.items)
shown_statement (statements.Text bytes) = Text bytes.items
shown_statement (statements.Space n) = Space n
shown_statement (statements.Align last) = Align last
shown_statement (statements.Org at) = Org at
shown_statement (statements.Equ name n) = Equ name.now n

-- a label
abbrev pub shown_label : Option (Bor (List ℕ)) → Option (List ℕ)
shown_label (Some label) = Some label.now
shown_label None = None
