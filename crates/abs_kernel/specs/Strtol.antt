-- strtoul, strtol, atoi and atol (PSX-SPX, Kernel (BIOS), Number/String/Character conversion: strtoul, strtol, atoi, atol).
-- A number is blanks, a sign, in some bases a prefix, and digits. Each byte is read once, up to the one that decides. A pointer 0 to the text answers 0 and touches nothing.
use Rattle.std.specs.Prelude.{ℕ, zero, suc, ◌-◌, ◌%◌, ◌^◌, Bool, false, ◌||◌, ◌&&◌, nat_eq, nat_le, nat_lt, List, [], ◌∷◌, ◌++◌, length, if◌then◌else◌}
use Rattle.psx_base.specs.KernelState.{KernelState}
use Rattle.abs_kernel.specs.Stay.{Stay}
use Rattle.abs_kernel.specs.Answered.{registers_of, answered}
use Rattle.abs_kernel.specs.UserBytes.{reads_byte, bad_pointer, following, longest}
use Rattle.abs_kernel.specs.UserWords.{writes_word}
use Rattle.abs_kernel.specs.Abs.{negated}
use Rattle.abs_kernel.specs.Numeral.{value_of}

-- a space, or one of 09h to 0Dh
abbrev pub is_blank : (byte : ℕ) → Bool
is_blank b = nat_eq b 0x20 || (nat_le 0x09 b && nat_le b 0x0D)

-- Blanks are passed over. What follows gets the address of the byte behind them, and that byte.
abbrev pub passes_blanks : (n : ℕ) → KernelState → (at : ℕ) → (next : (at byte : ℕ) → Stay) → Stay
passes_blanks zero s at next = bad_pointer s at
passes_blanks (suc n) s at next = reads_byte s at (λ b. if is_blank b then passes_blanks n s (following at) next else next at b)

-- A sign is taken. What follows gets whether it is a minus, and the byte behind it.
abbrev pub takes_sign : KernelState → (next : (minus : Bool) → (at byte : ℕ) → Stay) → (at byte : ℕ) → Stay
takes_sign s next at b = if nat_eq b 0x2B || nat_eq b 0x2D then reads_byte s (following at) (next (nat_eq b 0x2D) (following at)) else next false at b

-- what a byte is as a digit: 0 to 9, then letters of either case; every other byte is no digit of any base
abbrev pub digit_of : (byte : ℕ) → ℕ
digit_of b =
    if nat_le 0x30 b && nat_le b 0x39 then b - 0x30
    else (if nat_le 0x41 b && nat_le b 0x5A then b - 0x37
    else (if nat_le 0x61 b && nat_le b 0x7A then b - 0x57 else 36))

-- Behind a first 0: x or X and a hexadecimal digit make the base 16, from that digit on. Else the 0 is itself a digit of a base.
abbrev pub takes_x : KernelState → (base : ℕ) → (next : (base : ℕ) → (digits : List ℕ) → (at byte : ℕ) → Stay) → (at : ℕ) → Stay
takes_x s base next at = reads_byte s at (λ x.
    if nat_eq x 0x58 || nat_eq x 0x78 then reads_byte s (following at) (λ h. if nat_lt (digit_of h) 16 then next 16 [] (following at) h else next base (0 ∷ []) at x)
    else next base (0 ∷ []) at x)

-- A prefix is taken in base 16, and in base 0, which by it becomes 16, 8 or 10. What follows gets the base, the digits that were taken, and the byte behind them.
abbrev pub takes_prefix : KernelState → (base : ℕ) → (next : (base : ℕ) → (digits : List ℕ) → (at byte : ℕ) → Stay) → (at byte : ℕ) → Stay
takes_prefix s base next at b =
    if nat_eq b 0x30 && (nat_eq base 0 || nat_eq base 16) then takes_x s (if nat_eq base 0 then 8 else 16) next (following at)
    else next (if nat_eq base 0 then 10 else base) [] at b

-- Digits below the base are taken, fewer than n. What follows gets them and the address behind them.
abbrev pub takes_digits : (n : ℕ) → KernelState → (base : ℕ) → (next : (digits : List ℕ) → (at : ℕ) → Stay) → (at byte : ℕ) → Stay
takes_digits zero s base next at b = bad_pointer s at
takes_digits (suc n) s base next at b =
    if nat_lt (digit_of b) base then reads_byte s (following at) (takes_digits n s base (λ ds. next (digit_of b ∷ ds)) (following at)) else next [] at

-- the word that digits stand for behind a sign
abbrev pub word_of : (minus : Bool) → (base : ℕ) → (digits : List ℕ) → ℕ
word_of minus base ds = let w = value_of base ds % 2 ^ 32 in if minus then negated w else w

-- the answer; where end isn't 0, the address of the rest of the text is last written there
abbrev pub tells_rest : KernelState → (end rest value : ℕ) → Stay
tells_rest s end rest value = if nat_eq end 0 then answered s value else writes_word s end rest (λ t. answered t value)

-- behind the digits; where there are none, the rest is the whole text
abbrev pub ends_number : KernelState → (start end : ℕ) → (minus : Bool) → (base : ℕ) → (digits : List ℕ) → (at : ℕ) → Stay
ends_number s start end minus base ds at = tells_rest s end (if nat_eq (length ds) 0 then start else at) (word_of minus base ds)

-- the number that a text begins with, in a base or in the one that its prefix says
abbrev pub reads_number : KernelState → (start end base : ℕ) → Stay
reads_number s start end base = passes_blanks longest s start (takes_sign s (λ minus. takes_prefix s base (λ base before. takes_digits longest s base (λ ds. ends_number s start end minus base (before ++ ds)))))

-- the bases that there are, 0 for one by prefix
abbrev pub is_base : ℕ → Bool
is_base base = nat_eq base 0 || (nat_le 2 base && nat_le base 36)

-- strtol(s, end, base) answers the number that s begins with, modulo 2 ^ 32; in another base no byte of s is read, and the answer is 0 with s as the rest
abbrev pub strtol : KernelState → Stay
strtol s = let r = registers_of s in if nat_eq r.r4 0 then answered s 0 else (if is_base r.r6 then reads_number s r.r4 r.r5 r.r6 else tells_rest s r.r5 r.r4 0)

-- atoi(s) answers the same as strtol(s, 0, 10)
abbrev pub atoi : KernelState → Stay
atoi s = let r = registers_of s in if nat_eq r.r4 0 then answered s 0 else reads_number s r.r4 0 10
