-- SysDeqIntRP (PSX-SPX, Kernel (BIOS), BIOS Interrupt/Exception Handling: SysDeqIntRP). The element's own words aren't touched.
use Rattle.std.specs.Prelude.{◌-◌, ◌^◌, if◌then◌else◌}
use Rattle.psx_base.specs.KernelState.{KernelState}
use Rattle.kern_layout.specs.Reads.{chain}
use Rattle.kern_layout.specs.Stores.{with_chain}
use Rattle.abs_kernel.specs.Stay.{Stay}
use Rattle.abs_kernel.specs.Answered.{registers_of, answered}
use Rattle.abs_kernel.specs.Chains.{has, without}

-- SysDeqIntRP(p, e) takes the first element of chain p that is e out, and answers 0, or -1 where there is none. Behind the four chains each one counts as empty.
abbrev pub sys_deq_int_rp : KernelState → Stay
sys_deq_int_rp s = let r = registers_of s in let c = chain s r.r4 in if has r.r5 c then answered (with_chain s r.r4 (without r.r5 c)) 0 else answered s (2 ^ 32 - 1)
