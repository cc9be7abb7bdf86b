-- The forms of the tokens of an assembly language. The language is this project's own, in the manner of R3000A assemblers.
use Rattle.std.specs.Prelude.{◌≡◌, ◌≢◌, ℕ, ◌≤◌, ℤ, pos, negsuc, neg_ℤ, ◌≤ℤ◌, Bool, ◌||◌, ◌==◌, ◌⊎◌, List, [], ◌∷◌, ◌++◌, length, take, codes, All, IsTrue, if◌then◌else◌}
use Rattle.std.specs.Char.{is_ascii_alphabetic, is_ascii_alphanumeric}
use Rattle.std.specs.List.{flat_map, list_all}
use Rattle.std.specs.Str.Parse.{IsNumeral, digits_value}
use Rattle.psx_lex.specs.declared.token.Kind.{Kind}
use Rattle.psx_lex.specs.declared.token.Kind.TheVariants.{Name, Directive, Number, Text, Mark}

-- a letter or '_'
abbrev pub is_name_start : ℕ → Bool
is_name_start c = is_ascii_alphabetic c || c == 95

-- a letter, a digit or '_'
abbrev pub is_name_byte : ℕ → Bool
is_name_byte c = is_ascii_alphanumeric c || c == 95

-- a name of any length
abbrev pub IsName : List ℕ → Type 0
IsName [] = ⊥
IsName (c ∷ cs) = IsTrue (is_name_start c) × IsTrue (list_all is_name_byte cs)

-- decimal digits, with or without leading zeros
abbrev pub IsDecimal : List ℕ → ℕ → Type 0
IsDecimal word n = IsNumeral 10 word × (n ≡ digits_value 10 word)

-- 0x and hexadecimal digits of either case, with or without leading zeros
abbrev pub IsHexadecimal : List ℕ → ℕ → Type 0
IsHexadecimal word n = (digits : List ℕ) × (word ≡ codes "0x" ++ digits) × IsNumeral 16 digits × (n ≡ digits_value 16 digits)

-- a byte from 20h to 7Eh, other than the quote and the backslash, in single quotes
abbrev pub IsQuoted : List ℕ → ℕ → Type 0
IsQuoted word n = (word ≡ 39 ∷ n ∷ 39 ∷ []) × (32 ≤ n) × (n ≤ 126) × (n ≢ 39) × (n ≢ 92)

-- a number without a sign, of any size
abbrev pub IsMagnitude : List ℕ → ℕ → Type 0
IsMagnitude word n = IsDecimal word n ⊎ (IsHexadecimal word n ⊎ IsQuoted word n)

-- a magnitude behind a minus sign
abbrev pub IsNegative : List ℕ → ℤ → Type 0
IsNegative word value = (magnitude : List ℕ) × (n : ℕ) × (word ≡ codes "-" ++ magnitude) × IsMagnitude magnitude n × (value ≡ neg_ℤ (pos n))

-- a number of any size
abbrev pub IsNumber : List ℕ → ℤ → Type 0
IsNumber word value = ((n : ℕ) × IsMagnitude word n × (value ≡ pos n)) ⊎ IsNegative word value

-- how a text writes a byte: \n, \t, \0, \\ and \", and any other as itself
abbrev pub written : ℕ → List ℕ
written b = if b == 10 then codes "\\n" else if b == 9 then codes "\\t" else if b == 0 then codes "\\0" else if b == 92 then codes "\\\\" else if b == 34 then codes "\\\"" else b ∷ []

-- a byte that a text can write
abbrev pub IsWritable : ℕ → Type 0
IsWritable b = (32 ≤ b) ⊎ ((b ≡ 10) ⊎ ((b ≡ 9) ⊎ (b ≡ 0)))

-- bytes in double quotes
abbrev pub IsTextOf : List ℕ → List ℕ → Type 0
IsTextOf word bytes = All IsWritable bytes × (word ≡ codes "\"" ++ flat_map written bytes ++ codes "\"")

-- a colon, a parenthesis or a plus sign
abbrev pub is_mark : ℕ → Bool
is_mark c = (c == 58 || c == 40) || (c == 41 || c == 43)

-- what stands behind a backslash in a text
abbrev pub is_escape : ℕ → Bool
is_escape c = (c == 110 || c == 116) || (c == 48 || (c == 92 || c == 34))

-- the form that a token of a kind has, of any length and size
abbrev pub IsLexeme : Kind → List ℕ → Type 0
IsLexeme Name word = IsName word
IsLexeme Directive word = (name : List ℕ) × (word ≡ codes "." ++ name) × IsName name
IsLexeme (Number value) word = IsNumber word value
IsLexeme Text word = (bytes : List ℕ) × IsTextOf word bytes
IsLexeme Mark word = (c : ℕ) × (word ≡ c ∷ []) × IsTrue (is_mark c)

-- a name has at most 63 bytes, and a number stands in its range
abbrev pub Fits : Kind → ℕ → Type 0
Fits Name len = len ≤ 63
Fits Directive len = len ≤ 64
Fits (Number value) len = (negsuc 2147483647 ≤ℤ value) × (value ≤ℤ pos 4294967295)
Fits Text len = Unit {0}
Fits Mark len = Unit {0}

-- a text begins with a lexeme of a kind, and with no longer one: a name or a number goes on as long as its bytes do
pub record IsLongest (text : List ℕ) (kind : Kind) (len : ℕ) : Type 0 where
  pub within : len ≤ length text
  pub form : IsLexeme kind (take len text)
  pub longest : (other : Kind) (more : ℕ) → more ≤ length text → IsLexeme other (take more text) → more ≤ len

-- a text begins with a token
pub record BeginsToken (text : List ℕ) (kind : Kind) (len : ℕ) : Type 0 where
  pub lexeme : IsLongest text kind len
  pub fits : Fits kind len

-- a text begins with no token
abbrev pub BeginsNone : List ℕ → Type 0
BeginsNone text = (kind : Kind) (len : ℕ) → ¬ BeginsToken text kind len
