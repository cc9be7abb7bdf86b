-- The line of an entry. The format is this project's own.
use Rattle.std.specs.Prelude.{ℕ, ◌/◌, ◌%◌, List, [], ◌∷◌, ◌++◌, decimal, codes}
use Rattle.std.specs.List.{flat_map}
use Rattle.psx_text.specs.Digits.{hex_digit}
use Rattle.psx_sched.specs.declared.schedule.What.{What}
use Rattle.psx_sched.specs.declared.schedule.What.TheVariants.{Byte, Line}
use Rattle.psx_sched.specs.declared.schedule.Entry.{Entry}

-- a byte in two hexadecimal digits
abbrev pub two_digits : ℕ → List ℕ
two_digits b = hex_digit (b / 16) ∷ hex_digit (b % 16) ∷ []

-- what reaches the board, behind a space: a byte in two digits, or the number of a line in decimal
abbrev pub what_text : What → List ℕ
what_text (Byte b) = codes " byte " ++ two_digits b
what_text (Line n) = codes " line " ++ decimal n

-- the line of an entry: its count in decimal without leading zeros, what reaches the board, and a line feed
abbrev pub line : Entry → List ℕ
line e = decimal e.count ++ what_text e.what ++ codes "\n"

-- the lines of entries, in order
abbrev pub lines_of : List Entry → List ℕ
lines_of entries = flat_map line entries
