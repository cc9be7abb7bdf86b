-- memmove (PSX-SPX, Kernel (BIOS), Memory functions: memmove). A pointer 0 answers 0 and touches nothing; the count is signed.
use Rattle.std.specs.Prelude.{ℕ, zero, suc, ◌+◌, ◌%◌, ◌^◌, ◌||◌, nat_eq, List, [], ◌∷◌, if◌then◌else◌}
use Rattle.psx_base.specs.Addresses.{place}
use Rattle.psx_base.specs.Memory.{Memory, byte, put_bytes}
use Rattle.psx_base.specs.KernelState.{KernelState}
use Rattle.abs_kernel.specs.Stay.{Stay}
use Rattle.abs_kernel.specs.Answered.{registers_of, answered}
use Rattle.abs_kernel.specs.UserBytes.{tests_bytes, count_of}

-- n bytes, from a physical address on
abbrev pub bytes_at : (n : ℕ) → Memory → (at : ℕ) → List ℕ
bytes_at zero m at = []
bytes_at (suc n) m at = byte m at % 2 ^ 8 ∷ bytes_at n m (at + 1)

-- n bytes as they are now are put elsewhere
abbrev pub moved : (n : ℕ) → Memory → (to from : ℕ) → Memory
moved n m to from = put_bytes m to (bytes_at n m from)

-- memmove(d, s, n) tests all of s, then all of d. Only then the bytes that s has are put at d, at once. It answers d.
abbrev pub memmove : KernelState → Stay
memmove s =
    let r = registers_of s in
    let n : ℕ = count_of r.r6 in
    if nat_eq r.r4 0 || nat_eq r.r5 0 then answered s 0 else tests_bytes n s r.r5 (tests_bytes n s r.r4 (answered (record s { memory = moved n s.memory (place r.r4) (place r.r5) }) r.r4))
