-- DeliverEvent (PSX-SPX, Kernel (BIOS), Event Functions: DeliverEvent). The caller goes on behind its call, with 0 in r2, when the delivery is done.
use Rattle.psx_base.specs.Context.{taken}
use Rattle.psx_base.specs.KernelState.{KernelState}
use Rattle.abs_kernel.specs.Stay.{Stay}
use Rattle.abs_kernel.specs.Answered.{registers_of, with_answer}
use Rattle.abs_kernel.specs.Returning.{delivers}

-- DeliverEvent(class, spec)
abbrev pub deliver_event : KernelState → Stay
deliver_event s = let r = registers_of s in delivers s (record s.running { context = with_answer (taken s.running.context r.r31) 0 }) r.r4 r.r5 r.r31
