-- What strtol, atoi and abs come to on numbers (PSX-SPX, Kernel (BIOS), Number/String/Character conversion).
use Rattle.std.specs.Prelude.{◌≡◌, ℕ, ◌+◌, ◌-◌, ◌%◌, ◌^◌, ◌<◌, ◌≤◌, ◌⊎◌, Bool, false, nat_lt, List, [], ◌∷◌, if◌then◌else◌}
use Rattle.psx_base.specs.KernelState.{KernelState}
use Rattle.abs_kernel.specs.Stay.{Stay}
use Rattle.abs_kernel.specs.Answered.{registers_of}
use Rattle.abs_kernel.specs.Played.{Returned, played}
use Rattle.abs_kernel.specs.Numeral.{numeral}
use Rattle.abs_kernel.specs.Strtol.{strtol, atoi}
use Rattle.kern_text.specs.TokenLaws.{TextAt}

-- the byte that a digit is written as: 0 to 9, then small letters or capitals
abbrev pub digit_byte : (capitals : Bool) → (digit : ℕ) → ℕ
digit_byte capitals digit = if nat_lt digit 10 then 0x30 + digit else (if capitals then 0x37 + digit else 0x57 + digit)

-- digits as they are written, with small letters or capitals
abbrev pub written : (capitals : Bool) → (digits : List ℕ) → List ℕ
written capitals [] = []
written capitals (d ∷ ds) = digit_byte capitals d ∷ written capitals ds

-- it returns with this answer
abbrev pub AnswersBy : Stay → (value : ℕ) → Type 0
AnswersBy stay value = (t : KernelState) × ((played stay []).end ≡ Returned t) × ((registers_of t).r2 ≡ value)

-- a text as it is, or behind a minus sign
abbrev pub with_sign : (minus : Bool) → (text : List ℕ) → List ℕ
with_sign minus text = if minus then 0x2D ∷ text else text

-- the word that stands for a number then
abbrev pub signed_word : (minus : Bool) → (n : ℕ) → ℕ
signed_word minus n = if minus then (2 ^ 32 - n) % 2 ^ 32 else n

-- strtol of the numeral of a word answers the word, in each base; behind a minus sign 2 ^ 32 less the word
abbrev pub StrtolReadsNumerals : Type 0
StrtolReadsNumerals = (s : KernelState) (minus capitals : Bool) (base n : ℕ) → let r = registers_of s in
    2 ≤ base → base ≤ 36 → n < 2 ^ 32 → r.r5 ≡ 0 → r.r6 ≡ base → TextAt s.memory r.r4 (with_sign minus (written capitals (numeral base n))) → AnswersBy (strtol s) (signed_word minus n)

-- and so in base 16 or by the prefix alone, where the hexadecimal numeral stands behind 0x or 0X
abbrev pub StrtolReadsPrefixed : Type 0
StrtolReadsPrefixed = (s : KernelState) (minus capitals : Bool) (x n : ℕ) → let r = registers_of s in
    (r.r6 ≡ 0) ⊎ (r.r6 ≡ 16) → (x ≡ 0x58) ⊎ (x ≡ 0x78) → n < 2 ^ 32 → r.r5 ≡ 0 → TextAt s.memory r.r4 (with_sign minus (0x30 ∷ x ∷ written capitals (numeral 16 n))) → AnswersBy (strtol s) (signed_word minus n)

-- and atoi that of a decimal one
abbrev pub AtoiReadsDecimals : Type 0
AtoiReadsDecimals = (s : KernelState) (minus : Bool) (n : ℕ) → n < 2 ^ 32 → TextAt s.memory (registers_of s).r4 (with_sign minus (written false (numeral 10 n))) → AnswersBy (atoi s) (signed_word minus n)
