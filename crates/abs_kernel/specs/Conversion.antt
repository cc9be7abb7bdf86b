-- A conversion of printf: what stands behind a `%`, and the text of a number (PSX-SPX, Kernel (BIOS), TTY Console (std_io): printf).
use Rattle.std.specs.Prelude.{ℕ, ◌+◌, ◌-◌, ◌*◌, ◌^◌, Bool, true, false, not, ◌&&◌, ◌||◌, nat_eq, nat_le, min, Option, Some, None, is_none, List, [], ◌∷◌, ◌++◌, length, map, replicate, if◌then◌else◌, unwrap_or}
use Rattle.abs_kernel.specs.Numeral.{numeral}

-- how far it is read: a flag may come, or a width, a precision or an `l` was read
pub data Reading : Type 0 where
  Flags : Reading
  Width : Reading
  Precision : Reading
  Lengths : Reading

pub record Conversion : Type 0 where
  pub reading : Reading
  pub left : Bool
  pub zeros : Bool
  pub width : ℕ
  pub precision : Option ℕ

-- behind the `%`
abbrev pub opened : Conversion
opened = record { reading = Flags; left = false; zeros = false; width = 0; precision = None }

-- ---- a byte that belongs to it

abbrev pub is_digit : (byte : ℕ) → Bool
is_digit byte = nat_le 0x30 byte && nat_le byte 0x39

-- a decimal number with one digit more
abbrev pub longer : (number byte : ℕ) → ℕ
longer number byte = 10 * number + (byte - 0x30)

-- an `l`
abbrev pub with_length : Conversion → (byte : ℕ) → Option Conversion
with_length c byte = if nat_eq byte 0x6C then Some (record c { reading = Lengths }) else None

-- a digit of the precision
abbrev pub with_precision : Conversion → (byte : ℕ) → Option Conversion
with_precision c byte = if is_digit byte then Some (record c { precision = Some (longer (unwrap_or c.precision 0) byte) }) else with_length c byte

-- the point before a precision; no digits are the precision 0
abbrev pub with_point : Conversion → (byte : ℕ) → Option Conversion
with_point c byte = if nat_eq byte 0x2E then Some (record c { reading = Precision; precision = Some 0 }) else with_length c byte

-- a digit of the width
abbrev pub with_width : Conversion → (byte : ℕ) → Option Conversion
with_width c byte = if is_digit byte then Some (record c { reading = Width; width = longer c.width byte }) else with_point c byte

-- a flag
abbrev pub with_flag : Conversion → (byte : ℕ) → Option Conversion
with_flag c byte = if nat_eq byte 0x2D then Some (record c { left = true }) else if nat_eq byte 0x30 then Some (record c { zeros = true }) else with_width c byte

-- the conversion with a byte more, where the byte doesn't end it
abbrev pub with_next : Reading → Conversion → (byte : ℕ) → Option Conversion
with_next Flags = with_flag
with_next Width = with_width
with_next Precision = with_precision
with_next Lengths = with_length

-- ---- the byte that ends it

-- a number with a sign or without, in a base, whose digits above 9 begin with a letter; a byte; a text; or that byte alone
pub data Kind : Type 0 where
  Number : (with_sign : Bool) (base letter : ℕ) → Kind
  Byte : Kind
  Text : Kind
  Alone : Kind

-- d, i, u, o, x, X, c, s and the others
abbrev pub kind_of : (byte : ℕ) → Kind
kind_of byte =
    if nat_eq byte 0x64 || nat_eq byte 0x69 then Number true 10 0x61
    else if nat_eq byte 0x75 then Number false 10 0x61
    else if nat_eq byte 0x6F then Number false 8 0x61
    else if nat_eq byte 0x78 then Number false 16 0x61
    else if nat_eq byte 0x58 then Number false 16 0x41
    else if nat_eq byte 0x63 then Byte
    else if nat_eq byte 0x73 then Text
    else Alone

-- ---- texts

-- a width and a precision above 255 are 255
abbrev pub limited : ℕ → ℕ
limited n = min n 255

abbrev pub spaces : (n : ℕ) → List ℕ
spaces n = replicate n 0x20

-- a text within its width, on the right, or with `-` on the left
abbrev pub padded : Conversion → List ℕ → List ℕ
padded c text = let room = spaces (limited c.width - length text) in if c.left then text ++ room else room ++ text

abbrev pub byte_of_digit : (letter digit : ℕ) → ℕ
byte_of_digit letter digit = if nat_le 10 digit then letter + (digit - 10) else 0x30 + digit

-- the digits of a number without a zero before them, so that 0 has none
abbrev pub significant : (base value : ℕ) → List ℕ
significant base value = if nat_eq value 0 then [] else numeral base value

-- digits with zeros before them, where there are fewer than n
abbrev pub at_least : (n : ℕ) → List ℕ → List ℕ
at_least n digits = replicate (n - length digits) 0x30 ++ digits

-- The text of a number: its sign and its digits, at least one, or as many as the precision says. The flag `0` fills the width with zeros behind the sign, where neither `-` nor a precision is there.
abbrev pub number_text : Conversion → (with_sign : Bool) (base letter value : ℕ) → List ℕ
number_text c with_sign base letter value =
    let negative = with_sign && nat_le (2 ^ 31) value in
    let sign = if negative then 0x2D ∷ [] else [] in
    let digits = map (byte_of_digit letter) (significant base (if negative then 2 ^ 32 - value else value)) in
    let filled = if c.zeros && (not c.left && is_none c.precision) then limited c.width - length sign else 0 in
    padded c (sign ++ at_least filled (at_least (limited (unwrap_or c.precision 1)) digits))

-- what stands for the text at 0
abbrev pub null_text : List ℕ
null_text = 0x28 ∷ 0x6E ∷ 0x75 ∷ 0x6C ∷ 0x6C ∷ 0x29 ∷ []
