-- The pieces of a line: its tokens, each with its text. The language is this project's own, in the manner of R3000A assemblers.
use Rattle.std.specs.Prelude.{◌≡◌, ℕ, ◌-◌, ℤ, List, take, drop, map, slice_index, Option, Some, None, Ok, Err}
use Rattle.psx_lex.specs.declared.token.Kind.{Kind}
use Rattle.psx_lex.specs.declared.token.Kind.TheVariants as kinds
use Rattle.psx_lex.specs.declared.token.Token.{Token}
use Rattle.psx_lex.specs.declared.token.LexError.TheVariants.{BadToken}
use Rattle.psx_lex.specs.Line.{IsTokensOf}

-- a token with its text
pub data Piece : Type 0 where
  -- a register, a mnemonic or another name
  Name : (text : List ℕ) → Piece
  -- a dot and a name
  Directive : (text : List ℕ) → Piece
  Number : (value : ℤ) → Piece
  -- bytes with their double quotes
  Quoted : (text : List ℕ) → Piece
  -- a colon, a parenthesis or a plus sign
  Mark : (byte : ℕ) → Piece

abbrev pub piece_of : Kind → List ℕ → Piece
piece_of kinds.Name text = Name text
piece_of kinds.Directive text = Directive text
piece_of (kinds.Number value) text = Number value
piece_of kinds.Text text = Quoted text
piece_of kinds.Mark text = Mark (slice_index text 0)

-- a token's piece in its line
abbrev pub piece : List ℕ → Token → Piece
piece line t = piece_of t.kind (take (t.to - t.from) (drop t.from line))

-- the pieces of a line's tokens
abbrev pub pieces : List ℕ → List Token → List Piece
pieces line tokens = map (piece line) tokens

-- a line is read as these pieces, or as none where it has a byte that begins no token
abbrev pub IsReadAs : List ℕ → Option (List Piece) → Type 0
IsReadAs line (Some ps) = (tokens : List Token) × IsTokensOf line (Ok tokens) × (ps ≡ pieces line tokens)
IsReadAs line None = (at : ℕ) × IsTokensOf line (Err (BadToken at))
