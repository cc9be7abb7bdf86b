-- Operands, read from a line's pieces from left to right: an operand, and the pieces behind it.
use Rattle.std.specs.Prelude.{ℕ, ◌+◌, ◌-◌, ◌*◌, ℤ, pos, Bool, ◌&&◌, ◌==◌, nat_lt, nat_le, List, [], ◌∷◌, length, slice_index, Option, Some, None, if◌then◌else◌}
use Rattle.psx_ins.specs.declared.reg.Reg.{Reg}
use Rattle.psx_ins.specs.Forms.{reg}
use Rattle.psx_asm.specs.declared.symbol.Symbol.{Symbol}
use Rattle.psx_asm.specs.declared.symbol.Symbol.TheVariants as symbols
use Rattle.psx_asm.specs.Piece.{Piece, Name, Number, Mark}
use Rattle.psx_asm.specs.Numbers.{below, signed_16}

-- what a text knows of each name at a line
abbrev pub Known : Type 0
Known = List ℕ → Option Symbol

infixl 10 ◌>>=◌
abbrev pub ◌>>=◌ : {A B : Type 0} → Option A → (A → Option B) → Option B
(Some x) >>= f = f x
None >>= f = None

-- a decimal digit of a word
abbrev pub is_digit : ℕ → Bool
is_digit c = nat_le 48 c && nat_le c 57

abbrev pub one_digit : List ℕ → Option Reg
one_digit w = if is_digit (slice_index w 1) then Some (reg (slice_index w 1 - 48)) else None

-- the number of two digits, of which the first isn't 0
abbrev pub two_digits : List ℕ → ℕ
two_digits w = 10 * (slice_index w 1 - 48) + (slice_index w 2 - 48)

abbrev pub are_digits : List ℕ → Bool
are_digits w = nat_le 49 (slice_index w 1) && (nat_le (slice_index w 1) 51 && is_digit (slice_index w 2))

abbrev pub both_digits : List ℕ → Option Reg
both_digits w = if are_digits w && nat_lt (two_digits w) 32 then Some (reg (two_digits w)) else None

-- r0 to r31
abbrev pub register_of : List ℕ → Option Reg
register_of w =
    if slice_index w 0 == 114
    then (if length w == 2 then one_digit w else if length w == 3 then both_digits w else None)
    else None

-- a value and the pieces behind it
abbrev pub with : {A : Type 0} → Option A → List Piece → Option (A × List Piece)
with (Some x) ps = Some (x, ps)
with None ps = None

-- a register
abbrev pub register : List Piece → Option (Reg × List Piece)
register (Name w ∷ ps) = with (register_of w) ps
register _ = None

-- the number of an `.equ`
abbrev pub number_of : Option Symbol → Option ℤ
number_of (Some (symbols.Number n)) = Some n
number_of (Some (symbols.Address at)) = None
number_of None = None

-- a number, or the name of an earlier `.equ`
abbrev pub number : Known → List Piece → Option (ℤ × List Piece)
number known (Number n ∷ ps) = Some (n, ps)
number known (Name w ∷ ps) = with (number_of (known w)) ps
number known _ = None

-- a number below a limit
abbrev pub number_below : ℕ → Known → List Piece → Option (ℕ × List Piece)
number_below limit known ps = do
  n ← number known ps
  with (below limit n.0) n.1

-- a number of 16 bits with a sign
abbrev pub signed_number : Known → List Piece → Option (ℕ × List Piece)
signed_number known ps = do
  n ← number known ps
  with (signed_16 n.0) n.1

-- a mark
abbrev pub mark : ℕ → List Piece → Option (List Piece)
mark byte (Mark c ∷ ps) = if c == byte then Some ps else None
mark byte _ = None

-- a register in parentheses
abbrev pub base : List Piece → Option (Reg × List Piece)
base ps = do
  opened ← mark 40 ps
  s ← register opened
  closed ← mark 41 s.1
  Some (s.0, closed)

-- a value whose labels aren't known yet
pub data Value : Type 0 where
  Plain : (value : ℤ) → Value
  Sum : (name : List ℕ) (plus : ℤ) → Value

-- a plus sign and a number
abbrev pub plus : List Piece → Option (ℤ × List Piece)
plus (Mark c ∷ Number n ∷ ps) = if c == 43 then Some (n, ps) else None
plus _ = None

-- a name, and the number that is added to it where one is
abbrev pub sum_from : List ℕ → List Piece → Option (ℤ × List Piece) → Option (Value × List Piece)
sum_from name ps (Some n) = Some (Sum name n.0, n.1)
sum_from name ps None = Some (Sum name (pos 0), ps)

-- a number, a name, or a name and a number
abbrev pub value : List Piece → Option (Value × List Piece)
value (Number n ∷ ps) = Some (Plain n, ps)
value (Name w ∷ ps) = sum_from w ps (plus ps)
value _ = None

-- a value before others
abbrev pub before : Value → Option (List Value) → Option (List Value)
before v (Some vs) = Some (v ∷ vs)
before v None = None

-- values up to the line's end
abbrev pub values : List Piece → Option (List Value)
values [] = Some []
values (Number n ∷ ps) = before (Plain n) (values ps)
values (Name w ∷ Mark c ∷ Number n ∷ ps) = if c == 43 then before (Sum w n) (values ps) else None
values (Name w ∷ ps) = before (Sum w (pos 0)) (values ps)
values _ = None

-- something, where no pieces are left
abbrev pub ends : {A : Type 0} → List Piece → Option A → Option A
ends [] x = x
ends (p ∷ ps) x = None
