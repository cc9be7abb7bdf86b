-- strncat (PSX-SPX, Kernel (BIOS), String functions: strncat). A pointer 0, either of the two, answers 0 and touches nothing; the count is signed.
use Rattle.std.specs.Prelude.{◌||◌, nat_eq, if◌then◌else◌}
use Rattle.psx_base.specs.KernelState.{KernelState}
use Rattle.abs_kernel.specs.Stay.{Stay}
use Rattle.abs_kernel.specs.Answered.{registers_of, answered}
use Rattle.abs_kernel.specs.UserBytes.{count_of, longest}
use Rattle.abs_kernel.specs.Strcpy.{copy_text, closes}
use Rattle.abs_kernel.specs.Strcat.{find_end}

-- strncat(d, s, n) copies at most n bytes of s before its zero to where d's zero is, writes a zero behind them, and answers d
abbrev pub strncat : KernelState → Stay
strncat s = let r = registers_of s in if nat_eq r.r4 0 || nat_eq r.r5 0 then answered s 0 else find_end longest s r.r4 (λ at. copy_text (count_of r.r6) s at r.r5 (closes r.r4))
