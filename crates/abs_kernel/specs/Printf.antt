-- printf (PSX-SPX, Kernel (BIOS), TTY Console (std_io): printf).
use Rattle.std.specs.Prelude.{ℕ, zero, suc, ◌+◌, ◌-◌, ◌*◌, ◌%◌, ◌^◌, nat_eq, nat_lt, Option, Some, None, List, [], ◌∷◌, length, take, if◌then◌else◌}
use Rattle.psx_base.specs.Registers.{Registers}
use Rattle.psx_base.specs.KernelState.{KernelState}
use Rattle.abs_kernel.specs.Stay.{Stay, Write}
use Rattle.abs_kernel.specs.Answered.{registers_of, answered}
use Rattle.abs_kernel.specs.UserBytes.{reads_byte, bad_pointer, following, longest}
use Rattle.abs_kernel.specs.UserWords.{reads_word}
use Rattle.abs_kernel.specs.Conversion.{Conversion, opened, with_next, Kind, Number, Byte, Text, Alone, kind_of, limited, spaces, padded, number_text, null_text}

-- bytes are written one by one
abbrev pub writes : List ℕ → Stay → Stay
writes [] next = next
writes (b ∷ bytes) next = Write b (writes bytes next)

-- n bytes of a text are written one by one
abbrev pub writes_from : (n : ℕ) → KernelState → (at : ℕ) → Stay → Stay
writes_from zero s at next = next
writes_from (suc n) s at next = reads_byte s at (λ b. Write (b % 2 ^ 8) (writes_from n s (following at) next))

-- how many bytes a text has before its zero, or n where there is none among its first n
abbrev pub measures : (n : ℕ) → KernelState → (at size : ℕ) → (ℕ → Stay) → Stay
measures zero s at size next = next size
measures (suc n) s at size next = reads_byte s at (λ b. if nat_eq b 0 then next size else measures n s (following at) (size + 1) next)

-- r5, r6 and r7
abbrev pub argument_register : Registers → (taken : ℕ) → ℕ
argument_register r zero = r.r5
argument_register r (suc zero) = r.r6
argument_register r _ = r.r7

-- the arguments behind the format: r5 to r7, then the words at sp + 16 and on
abbrev pub argument : KernelState → (taken : ℕ) → (ℕ → Stay) → Stay
argument s taken next = let r = registers_of s in if nat_lt taken 3 then next (argument_register r taken) else reads_word s ((r.r29 + 4 * (taken + 1)) % 2 ^ 32) (λ value. next (value % 2 ^ 32))

-- what goes on by how many bytes are written
abbrev pub writes_padded : Conversion → List ℕ → (count : ℕ) → (ℕ → Stay) → Stay
writes_padded c text count next = let bytes = padded c text in writes bytes (next (count + length bytes))

-- at most so many bytes of a text
abbrev pub most_of : Option ℕ → ℕ
most_of None = longest
most_of (Some precision) = limited precision

-- a text is measured before the spaces on its left are written
abbrev pub writes_text : Conversion → KernelState → (at count : ℕ) → (ℕ → Stay) → Stay
writes_text c s at count next =
    if nat_eq at 0 then writes_padded c (take (most_of c.precision) null_text) count next
    else measures (most_of c.precision) s at 0 (λ size.
    let room = limited c.width - size in
    let on = next (count + (room + size)) in
    if c.left then writes_from size s at (writes (spaces room) on) else writes (spaces room) (writes_from size s at on))

-- a conversion ends with a byte; what is left goes on by how many arguments are taken and how many bytes are written
abbrev pub converts : Kind → Conversion → KernelState → (byte taken count : ℕ) → (ℕ → ℕ → Stay) → Stay
converts (Number with_sign base letter) c s byte taken count next =
    argument s taken (λ value. let text = number_text c with_sign base letter value in writes text (next (taken + 1) (count + length text)))
converts Byte c s byte taken count next = argument s taken (λ value. writes_padded c (value % 2 ^ 8 ∷ []) count (next (taken + 1)))
converts Text c s byte taken count next = argument s taken (λ value. writes_text c s value count (next (taken + 1)))
converts Alone c s byte taken count next = Write (byte % 2 ^ 8) (next taken (count + 1))

-- a byte of the format that isn't its zero: outside of a conversion, and within one, which it goes on with or ends
abbrev pub takes_within : Option Conversion → Conversion → KernelState → (byte taken count : ℕ) → (ℕ → ℕ → Option Conversion → Stay) → Stay
takes_within (Some d) c s byte taken count next = next taken count (Some d)
takes_within None c s byte taken count next = converts (kind_of byte) c s byte taken count (λ t n. next t n None)

abbrev pub takes_format_byte : Option Conversion → KernelState → (byte taken count : ℕ) → (ℕ → ℕ → Option Conversion → Stay) → Stay
takes_format_byte None s byte taken count next = if nat_eq byte 0x25 then next taken count (Some opened) else Write (byte % 2 ^ 8) (next taken (count + 1) None)
takes_format_byte (Some c) s byte taken count next = takes_within (with_next c.reading c byte) c s byte taken count next

-- the format from a byte on, which has fewer than n; its zero ends it, also within a conversion
abbrev pub print_format : (n : ℕ) → KernelState → (at taken count : ℕ) → Option Conversion → Stay
print_format zero s at taken count c = bad_pointer s at
print_format (suc n) s at taken count c =
    reads_byte s at (λ b. if nat_eq b 0 then answered s (count % 2 ^ 32) else takes_format_byte c s b taken count (λ t m d. print_format n s (following at) t m d))

-- printf(format, ..) writes the format with its arguments, and answers how many bytes were written; a format 0 writes nothing
abbrev pub printf : KernelState → Stay
printf s = let r = registers_of s in if nat_eq r.r4 0 then answered s 0 else print_format longest s r.r4 0 0 None
