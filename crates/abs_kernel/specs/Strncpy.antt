-- strncpy (PSX-SPX, Kernel (BIOS), String functions: strncpy). A pointer 0, either of the two, answers 0 and touches nothing; the count is signed.
use Rattle.std.specs.Prelude.{ℕ, ◌||◌, nat_eq, if◌then◌else◌}
use Rattle.psx_base.specs.KernelState.{KernelState}
use Rattle.abs_kernel.specs.Stay.{Stay}
use Rattle.abs_kernel.specs.Answered.{registers_of, answered}
use Rattle.abs_kernel.specs.UserBytes.{count_of}
use Rattle.abs_kernel.specs.Memset.{fill}
use Rattle.abs_kernel.specs.Strcpy.{copy_text}

-- zeros are written for the bytes that didn't come, and d is the answer
abbrev pub pads : (d left : ℕ) → KernelState → (to : ℕ) → Stay
pads d left s to = fill left s to 0 (λ t. answered t d)

-- strncpy(d, s, n) writes n bytes, those of s before its zero and then zeros, and answers d
abbrev pub strncpy : KernelState → Stay
strncpy s = let r = registers_of s in if nat_eq r.r4 0 || nat_eq r.r5 0 then answered s 0 else copy_text (count_of r.r6) s r.r4 r.r5 (pads r.r4)
