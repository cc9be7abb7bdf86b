-- What the words of the command line ask for.
use Rattle.std.specs.Prelude.{ℕ, List, [], ◌∷◌, map, Option, Some, None, if◌then◌else◌, codes}
use Rattle.std.specs.Borrow.{Bor}
use Rattle.std.specs.Str.{bytes_eq}
use Rattle.psx_calls.specs.declared.numbers.Numbers.{Numbers}
use Rattle.psx_calls.specs.declared.numbers.Numbers.TheVariants.{Hexadecimal, Decimal}

-- the bytes of each word
abbrev pub words_of : List (Bor (List ℕ)) → List (List ℕ)
words_of words = map (λ (w : Bor (List ℕ)). w.now) words

abbrev pub numbers_by : List ℕ → Option Numbers
numbers_by word = if bytes_eq word (codes "hex") then Some Hexadecimal else (if bytes_eq word (codes "dec") then Some Decimal else None)

-- no word asks for hexadecimal numbers
abbrev pub numbers_asked : List (List ℕ) → Option Numbers
numbers_asked [] = Some Hexadecimal
numbers_asked (word ∷ []) = numbers_by word
numbers_asked _ = None
