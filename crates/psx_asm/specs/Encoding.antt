-- The bytes of a statement at an address, once each name is known.
use Rattle.std.specs.Prelude.{ℕ, ◌+◌, ◌-◌, ◌*◌, ◌/◌, ◌%◌, ◌^◌, ℤ, pos, ◌+ℤ◌, nat_le, ◌&&◌, ◌==◌, List, [], ◌∷◌, ◌++◌, replicate, is_some, Option, Some, None, Result, Ok, Err, if◌then◌else◌}
use Rattle.psx_ins.specs.declared.reg.Reg.{Reg}
use Rattle.psx_ins.specs.declared.ins.Ins.{Ins}
use Rattle.psx_ins.specs.declared.ins.Ins.TheVariants.{LUI, ORI}
use Rattle.psx_ins.specs.Words.{word}
use Rattle.psx_asm.specs.declared.shape.Width.{Width}
use Rattle.psx_asm.specs.declared.shape.Width.TheVariants.{Byte, Half, Word}
use Rattle.psx_asm.specs.declared.symbol.Symbol.{Symbol}
use Rattle.psx_asm.specs.declared.symbol.Symbol.TheVariants as symbols
use Rattle.psx_asm.specs.declared.fault.AsmFault.{AsmFault}
use Rattle.psx_asm.specs.declared.fault.AsmFault.TheVariants.{NoLabel, Range}
use Rattle.psx_asm.specs.Numbers.{low_word, either_sign}
use Rattle.psx_asm.specs.Operands.{Known, Value, Plain, Sum}
use Rattle.psx_asm.specs.Instructions.{branch_to, jump_to}
use Rattle.psx_asm.specs.Statement.{Statement, Empty, Alone, Pair, Branches, Jumps, Address, Values, Text, Space, Align, Org, Equ}
use Rattle.psx_asm.specs.Line.{◌>>=◌, width_of, padding}

-- the number that a name stands for, or that there is no such name
abbrev pub number_for : List ℕ → Option Symbol → Result ℤ AsmFault
number_for w (Some (symbols.Number n)) = Ok n
number_for w (Some (symbols.Address at)) = Ok (pos at)
number_for w None = Err (NoLabel w)

-- the number that a value stands for
abbrev pub resolved : Known → Value → Result ℤ AsmFault
resolved known (Plain n) = Ok n
resolved known (Sum w plus) = do
  n ← number_for w (known w)
  Ok (n +ℤ plus)

-- the low 32 bits of the number that a value stands for
abbrev pub resolved_word : Known → Value → Result ℕ AsmFault
resolved_word known v = do
  n ← resolved known v
  Ok (low_word n)

-- the first name of values that there isn't
abbrev pub missing : Known → List Value → Option (List ℕ)
missing known [] = None
missing known (Plain n ∷ vs) = missing known vs
missing known (Sum w plus ∷ vs) = if is_some (known w) then missing known vs else Some w

-- something at an address that is a multiple
abbrev pub aligned : {A : Type 0} → ℕ → ℕ → Result A AsmFault → Result A AsmFault
aligned multiple at x = if at % multiple == 0 then x else Err (Range at)

-- a number in so many bytes, the lowest first
abbrev pub bytes_of : Width → ℕ → List ℕ
bytes_of Byte n = n % 2 ^ 8 ∷ []
bytes_of Half n = n % 2 ^ 8 ∷ n / 2 ^ 8 % 2 ^ 8 ∷ []
bytes_of Word n = n % 2 ^ 8 ∷ n / 2 ^ 8 % 2 ^ 8 ∷ n / 2 ^ 16 % 2 ^ 8 ∷ n / 2 ^ 24 ∷ []

-- an instruction's word
abbrev pub code_of : Ins → List ℕ
code_of ins = bytes_of Word (word ins)

-- where something stands or doesn't, by a value that has to fit
abbrev pub fitting : ℕ → Option ℕ → Result ℕ AsmFault
fitting at (Some n) = Ok n
fitting at None = Err (Range at)

-- the 16 bits of a branch from its slot to a target: words on, or words back
abbrev pub branch_bits : ℕ → ℕ → Option ℕ
branch_bits slot target =
    if target % 4 == 0
    then (if nat_le slot target
    then (if nat_le (target - slot) (4 * 32767) then Some ((target - slot) / 4) else None)
    else (if nat_le (slot - target) (4 * 32768) then Some (2 ^ 16 - (slot - target) / 4) else None))
    else None

-- the 26 bits of a jump to a target in the 256 MB of its slot
abbrev pub jump_bits : ℕ → ℕ → Option ℕ
jump_bits slot target = if target % 4 == 0 && target / 2 ^ 28 == slot % 2 ^ 32 / 2 ^ 28 then Some (target % 2 ^ 28 / 4) else None

-- the two instructions by which a register gets 32 bits
abbrev pub address_code : Reg → ℕ → List ℕ
address_code t w = code_of (LUI t (w / 2 ^ 16)) ++ code_of (ORI t t (w % 2 ^ 16))

-- the bits of a value of a list
abbrev pub element : Width → ℤ → Option ℕ
element Byte n = either_sign (2 ^ 8) n
element Half n = either_sign (2 ^ 16) n
element Word n = Some (low_word n)

-- the bits of a value of a list, once its name is known
abbrev pub value_bits : Known → Width → Value → Result ℕ AsmFault
value_bits known width v = do
  n ← resolved known v
  fitting (low_word n) (element width n)

-- the bytes of a list's values, or the first value that doesn't fit
abbrev pub elements : Known → Width → List Value → Result (List ℕ) AsmFault
elements known width [] = Ok []
elements known width (v ∷ vs) = do
  bits ← value_bits known width v
  more ← elements known width vs
  Ok (bytes_of width bits ++ more)

-- a branch at an address
unfoldable pub of_branch : Known → ℕ → Ins → Value → Result (List ℕ) AsmFault
of_branch known at ins v = do
  target ← resolved_word known v
  aligned 4 at (do
    bits ← fitting target (branch_bits (at + 4) target)
    Ok (code_of (branch_to ins bits)))

-- a jump at an address
unfoldable pub of_jump : Known → ℕ → Ins → Value → Result (List ℕ) AsmFault
of_jump known at ins v = do
  target ← resolved_word known v
  aligned 4 at (do
    bits ← fitting target (jump_bits (at + 4) target)
    Ok (code_of (jump_to ins bits)))

-- the instructions at an address by which a register gets a value
unfoldable pub of_address : Known → ℕ → Reg → Value → Result (List ℕ) AsmFault
of_address known at t v = do
  w ← resolved_word known v
  aligned 4 at (Ok (address_code t w))

-- values at an address, or the first name that there isn't
abbrev pub of_named : Known → ℕ → Width → List Value → Option (List ℕ) → Result (List ℕ) AsmFault
of_named known at width vs (Some w) = Err (NoLabel w)
of_named known at width vs None = aligned (width_of width) at (elements known width vs)

-- values at an address
abbrev pub of_values : Known → ℕ → Width → List Value → Result (List ℕ) AsmFault
of_values known at width vs = of_named known at width vs (missing known vs)

-- the bytes of a statement at an address, or its first fault but for the window's
abbrev pub encoded : Known → ℕ → Statement → Result (List ℕ) AsmFault
encoded known at Empty = Ok []
encoded known at (Alone ins) = aligned 4 at (Ok (code_of ins))
encoded known at (Pair first second) = aligned 4 at (Ok (code_of first ++ code_of second))
encoded known at (Branches ins v) = of_branch known at ins v
encoded known at (Jumps ins v) = of_jump known at ins v
encoded known at (Address t v) = of_address known at t v
encoded known at (Values width vs) = of_values known at width vs
encoded known at (Text bytes) = Ok bytes
encoded known at (Space n) = Ok (replicate n 0)
encoded known at (Align last) = Ok (replicate (padding last at) 0)
encoded known at (Org n) = Ok []
encoded known at (Equ w n) = Ok []
