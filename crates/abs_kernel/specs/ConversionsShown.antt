-- Conversions of printf evaluated: what is shown of a number by the bytes behind `%` (PSX-SPX, Kernel (BIOS), TTY Console (std_io): printf).
use Rattle.std.specs.Prelude.{◌≡◌, ℕ, ◌-◌, ◌%◌, ◌^◌, Option, Some, None, List, [], ◌∷◌, ◌++◌, replicate}
use Rattle.abs_kernel.specs.Conversion.{Conversion, opened, with_next, Kind, Number, Byte, Text, Alone, kind_of, padded, number_text}

abbrev pub shown_as : Kind → Conversion → (byte value : ℕ) → List ℕ
shown_as (Number with_sign base letter) c byte value = number_text c with_sign base letter value
shown_as Byte c byte value = padded c (value % 2 ^ 8 ∷ [])
shown_as Text c byte value = []
shown_as Alone c byte value = byte ∷ []

-- the bytes up to the one that ends the conversion
abbrev pub shown_from : List ℕ → Option Conversion → Conversion → (byte value : ℕ) → List ℕ
shown_from [] (Some d) c byte value = []
shown_from (b ∷ bytes) (Some d) c byte value = shown_from bytes (with_next d.reading d b) d b value
shown_from _ None c byte value = shown_as (kind_of byte) c byte value

abbrev pub shown : (bytes : List ℕ) (value : ℕ) → List ℕ
shown bytes value = shown_from bytes (Some opened) opened 0 value

-- each kind, with widths and precisions: %-5d of 42, %05d of 100000000h - 7, %x of 0xBEEF, %X of 0xBEEF, %.3d of 7, %5c of 65, %o of 8
abbrev pub KindsShown : Type 0
KindsShown =
    (shown (0x2D ∷ 0x35 ∷ 0x64 ∷ []) (42) ≡ 0x34 ∷ 0x32 ∷ 0x20 ∷ 0x20 ∷ 0x20 ∷ []) ×
    (shown (0x30 ∷ 0x35 ∷ 0x64 ∷ []) (2 ^ 32 - 7) ≡ 0x2D ∷ 0x30 ∷ 0x30 ∷ 0x30 ∷ 0x37 ∷ []) ×
    (shown (0x78 ∷ []) (0xBEEF) ≡ 0x62 ∷ 0x65 ∷ 0x65 ∷ 0x66 ∷ []) ×
    (shown (0x58 ∷ []) (0xBEEF) ≡ 0x42 ∷ 0x45 ∷ 0x45 ∷ 0x46 ∷ []) ×
    (shown (0x2E ∷ 0x33 ∷ 0x64 ∷ []) (7) ≡ 0x30 ∷ 0x30 ∷ 0x37 ∷ []) ×
    (shown (0x35 ∷ 0x63 ∷ []) (65) ≡ 0x20 ∷ 0x20 ∷ 0x20 ∷ 0x20 ∷ 0x41 ∷ []) ×
    (shown (0x6F ∷ []) (8) ≡ 0x31 ∷ 0x30 ∷ [])

-- the ends of the numbers, and 0: %d of 80000000h, %u of 100000000h - 1, %i of 100000000h - 1, %.0d of 0, %.d of 0, %3.0d of 0
abbrev pub NumbersShown : Type 0
NumbersShown =
    (shown (0x64 ∷ []) (2 ^ 31) ≡ 0x2D ∷ 0x32 ∷ 0x31 ∷ 0x34 ∷ 0x37 ∷ 0x34 ∷ 0x38 ∷ 0x33 ∷ 0x36 ∷ 0x34 ∷ 0x38 ∷ []) ×
    (shown (0x75 ∷ []) (2 ^ 32 - 1) ≡ 0x34 ∷ 0x32 ∷ 0x39 ∷ 0x34 ∷ 0x39 ∷ 0x36 ∷ 0x37 ∷ 0x32 ∷ 0x39 ∷ 0x35 ∷ []) ×
    (shown (0x69 ∷ []) (2 ^ 32 - 1) ≡ 0x2D ∷ 0x31 ∷ []) ×
    (shown (0x2E ∷ 0x30 ∷ 0x64 ∷ []) (0) ≡ []) ×
    (shown (0x2E ∷ 0x64 ∷ []) (0) ≡ []) ×
    (shown (0x33 ∷ 0x2E ∷ 0x30 ∷ 0x64 ∷ []) (0) ≡ 0x20 ∷ 0x20 ∷ 0x20 ∷ [])

-- - before 0, and a precision before 0: %0-5d of 100000000h - 42, %05.3d of 100000000h - 42, %lld of 0, %03c of 65
abbrev pub FlagsShown : Type 0
FlagsShown =
    (shown (0x30 ∷ 0x2D ∷ 0x35 ∷ 0x64 ∷ []) (2 ^ 32 - 42) ≡ 0x2D ∷ 0x34 ∷ 0x32 ∷ 0x20 ∷ 0x20 ∷ []) ×
    (shown (0x30 ∷ 0x35 ∷ 0x2E ∷ 0x33 ∷ 0x64 ∷ []) (2 ^ 32 - 42) ≡ 0x20 ∷ 0x2D ∷ 0x30 ∷ 0x34 ∷ 0x32 ∷ []) ×
    (shown (0x6C ∷ 0x6C ∷ 0x64 ∷ []) (0) ≡ 0x30 ∷ []) ×
    (shown (0x30 ∷ 0x33 ∷ 0x63 ∷ []) (65) ≡ 0x20 ∷ 0x20 ∷ 0x41 ∷ [])

-- another byte, which is written alone: %5- of 1, %+ of 1, %.- of 1, %5% of 1
abbrev pub OthersShown : Type 0
OthersShown =
    (shown (0x35 ∷ 0x2D ∷ []) (1) ≡ 0x2D ∷ []) ×
    (shown (0x2B ∷ []) (1) ≡ 0x2B ∷ []) ×
    (shown (0x2E ∷ 0x2D ∷ []) (1) ≡ 0x2D ∷ []) ×
    (shown (0x35 ∷ 0x25 ∷ []) (1) ≡ 0x25 ∷ [])

-- a width and a precision of many digits are whole numbers before they are 255
abbrev pub ManyDigits : Type 0
ManyDigits =
    (shown (0x34 ∷ 0x32 ∷ 0x39 ∷ 0x34 ∷ 0x39 ∷ 0x36 ∷ 0x37 ∷ 0x32 ∷ 0x39 ∷ 0x37 ∷ 0x63 ∷ []) 0x41 ≡ replicate 254 0x20 ++ 0x41 ∷ []) ×
    (shown (0x2E ∷ 0x34 ∷ 0x32 ∷ 0x39 ∷ 0x34 ∷ 0x39 ∷ 0x36 ∷ 0x37 ∷ 0x32 ∷ 0x39 ∷ 0x37 ∷ 0x64 ∷ []) 7 ≡ replicate 254 0x30 ++ 0x37 ∷ [])
