-- disable_timer_irq (PSX-SPX, Kernel (BIOS), Timer Functions: disable_timer_irq).
use Rattle.std.specs.Prelude.{bit_and}
use Rattle.psx_base.specs.KernelState.{KernelState}
use Rattle.abs_kernel.specs.Stay.{Stay}
use Rattle.abs_kernel.specs.Counters.{masks}
use Rattle.abs_kernel.specs.Tasks.{without_line}

-- disable_timer_irq(t) masks the counter's line, and VBLANK's for 3
abbrev pub disable_timer_irq : KernelState → Stay
disable_timer_irq s = masks (λ mask line. bit_and mask (without_line line)) s
