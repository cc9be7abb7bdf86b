-- strstr (PSX-SPX, Kernel (BIOS), String functions: strstr). A pointer 0 answers 0 and touches nothing.
use Rattle.std.specs.Prelude.{ℕ, zero, suc, ◌||◌, nat_eq, if◌then◌else◌}
use Rattle.psx_base.specs.KernelState.{KernelState}
use Rattle.abs_kernel.specs.Stay.{Stay}
use Rattle.abs_kernel.specs.Answered.{registers_of, answered}
use Rattle.abs_kernel.specs.UserBytes.{reads_byte, bad_pointer, following, longest}

-- Whether the text at t stands at an address: each of its bytes is read before the other. Its zero matches, the other's zero answers 0, and a difference goes on elsewhere.
abbrev pub stands : (n : ℕ) → KernelState → (at t : ℕ) → (match other : Stay) → Stay
stands zero s at t match other = bad_pointer s t
stands (suc n) s at t match other = reads_byte s t (λ b. if nat_eq b 0 then match else reads_byte s at (λ c.
    if nat_eq c 0 then answered s 0 else (if nat_eq c b then stands n s (following at) (following t) match other else other)))

-- the first address from `at` on where it stands; there are fewer than n
abbrev pub find_text : (n : ℕ) → KernelState → (at t : ℕ) → Stay
find_text zero s at t = bad_pointer s at
find_text (suc n) s at t = stands longest s at t (answered s at) (find_text n s (following at) t)

-- strstr(s, t) answers the address of the first place in s where t stands, or 0
abbrev pub strstr : KernelState → Stay
strstr s = let r = registers_of s in if nat_eq r.r4 0 || nat_eq r.r5 0 then answered s 0 else find_text longest s r.r4 r.r5
