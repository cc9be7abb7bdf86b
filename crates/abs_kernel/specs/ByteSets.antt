-- Sets of bytes, each given as a text (PSX-SPX, Kernel (BIOS), String functions: strpbrk, strspn, strcspn, strtok).
use Rattle.std.specs.Prelude.{ℕ, zero, suc, Bool, true, false, nat_eq, if◌then◌else◌}
use Rattle.psx_base.specs.KernelState.{KernelState}
use Rattle.abs_kernel.specs.Stay.{Stay}
use Rattle.abs_kernel.specs.UserBytes.{reads_byte, bad_pointer, following, longest}

-- Whether b is in the set at an address, which is read up to b or to its zero. It has fewer than n bytes.
abbrev pub in_set : (n : ℕ) → KernelState → (at b : ℕ) → (found absent : Stay) → Stay
in_set zero s at b found absent = bad_pointer s at
in_set (suc n) s at b found absent = reads_byte s at (λ v. if nat_eq v b then found else (if nat_eq v 0 then absent else in_set n s (following at) b found absent))

-- From an address on the bytes that are in a set, or those that aren't, are passed over. What follows gets the address of the byte behind them, and whether that is the text's zero.
abbrev pub skips : (inside : Bool) → (n : ℕ) → KernelState → (set at : ℕ) → (Bool → ℕ → Stay) → Stay
skips inside zero s set at next = bad_pointer s at
skips inside (suc n) s set at next = reads_byte s at (λ b.
    let more = skips inside n s set (following at) next in
    let over = next false at in
    if nat_eq b 0 then next true at else in_set longest s set b (if inside then more else over) (if inside then over else more))
