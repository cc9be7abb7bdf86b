-- strpbrk (PSX-SPX, Kernel (BIOS), String functions: strpbrk). A pointer 0 answers 0 and touches nothing.
use Rattle.std.specs.Prelude.{false, ◌||◌, nat_eq, if◌then◌else◌}
use Rattle.psx_base.specs.KernelState.{KernelState}
use Rattle.abs_kernel.specs.Stay.{Stay}
use Rattle.abs_kernel.specs.Answered.{registers_of, answered}
use Rattle.abs_kernel.specs.UserBytes.{longest}
use Rattle.abs_kernel.specs.ByteSets.{skips}

-- strpbrk(s, set) answers the address of the first byte of s that is in set, or 0
abbrev pub strpbrk : KernelState → Stay
strpbrk s = let r = registers_of s in
    if nat_eq r.r4 0 || nat_eq r.r5 0 then answered s 0 else skips false longest s r.r5 r.r4 (λ ended at. answered s (if ended then 0 else at))
