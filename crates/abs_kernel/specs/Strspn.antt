-- strspn (PSX-SPX, Kernel (BIOS), String functions: strspn). A pointer 0 answers 0 and touches nothing.
use Rattle.std.specs.Prelude.{◌-◌, true, ◌||◌, nat_eq, if◌then◌else◌}
use Rattle.psx_base.specs.KernelState.{KernelState}
use Rattle.abs_kernel.specs.Stay.{Stay}
use Rattle.abs_kernel.specs.Answered.{registers_of, answered}
use Rattle.abs_kernel.specs.UserBytes.{longest}
use Rattle.abs_kernel.specs.ByteSets.{skips}

-- strspn(s, set) answers how many bytes that are in set s begins with
abbrev pub strspn : KernelState → Stay
strspn s = let r = registers_of s in if nat_eq r.r4 0 || nat_eq r.r5 0 then answered s 0 else skips true longest s r.r5 r.r4 (λ ended at. answered s (at - r.r4))
