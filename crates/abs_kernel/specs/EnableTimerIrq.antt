-- enable_timer_irq (PSX-SPX, Kernel (BIOS), Timer Functions: enable_timer_irq).
use Rattle.std.specs.Prelude.{◌^◌, bit_or}
use Rattle.psx_base.specs.KernelState.{KernelState}
use Rattle.abs_kernel.specs.Stay.{Stay}
use Rattle.abs_kernel.specs.Counters.{masks}

-- enable_timer_irq(t) lets the counter's line through, and VBLANK's for 3
abbrev pub enable_timer_irq : KernelState → Stay
enable_timer_irq s = masks (λ mask line. bit_or mask (2 ^ line)) s
