-- What memmove and memcmp do, in other words than their definitions: byte by byte, by the program's own addresses.
use Rattle.std.specs.Prelude.{◌≡◌, ℕ, ◌+◌, ◌<◌}
use Rattle.psx_base.specs.Addresses.{place}
use Rattle.psx_base.specs.Memory.{byte}
use Rattle.psx_base.specs.KernelState.{KernelState}
use Rattle.kern_layout.specs.Fits.{InBytes}
use Rattle.abs_kernel.specs.Answered.{registers_of}
use Rattle.abs_kernel.specs.UserBytes.{count_of}
use Rattle.abs_kernel.specs.StayLaws.{EachReturn}
use Rattle.abs_kernel.specs.Memmove.{memmove}
use Rattle.abs_kernel.specs.Memcmp.{memcmp}

-- n bytes from an address on are those that a state has from another one on
abbrev pub SameBytes : (n : ℕ) → (t s : KernelState) → (at from : ℕ) → Type 0
SameBytes n t s at from = (i : ℕ) → i < n → byte t.memory (place (at + i)) ≡ byte s.memory (place (from + i))

-- Where memmove of two pointers that aren't 0 returns, the destination has the bytes that the source had before, also where they overlap.
abbrev pub MemmoveMoves : Type 0
MemmoveMoves =
    (s : KernelState) → InBytes s.memory → let r = registers_of s in (r.r4 ≡ 0 → ⊥) → (r.r5 ≡ 0 → ⊥)
    → EachReturn (λ t. SameBytes (count_of r.r6) t s r.r4 r.r5) (memmove s)

-- Where memcmp of two pointers that aren't 0 returns, its answer is 0 exactly where the bytes are the same.
abbrev pub MemcmpTells : Type 0
MemcmpTells =
    (s : KernelState) → InBytes s.memory → let r = registers_of s in (r.r4 ≡ 0 → ⊥) → (r.r5 ≡ 0 → ⊥)
    → EachReturn (λ t. ((registers_of t).r2 ≡ 0 → SameBytes (count_of r.r6) s s r.r4 r.r5) × (SameBytes (count_of r.r6) s s r.r4 r.r5 → (registers_of t).r2 ≡ 0)) (memcmp s)
