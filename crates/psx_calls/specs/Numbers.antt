-- How the numbers of calls are written.
use Rattle.std.specs.Prelude.{ℕ, List, decimal}
use Rattle.psx_text.specs.Digits.{hex8}
use Rattle.psx_calls.specs.declared.numbers.Numbers.{Numbers}
use Rattle.psx_calls.specs.declared.numbers.Numbers.TheVariants.{Hexadecimal, Decimal}

abbrev pub number_text : Numbers → ℕ → List ℕ
number_text Hexadecimal n = hex8 n
number_text Decimal n = decimal n
