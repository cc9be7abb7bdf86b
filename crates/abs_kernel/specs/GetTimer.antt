-- get_timer (PSX-SPX, Kernel (BIOS), Timer Functions: get_timer).
use Rattle.psx_base.specs.Ports.{value_port}
use Rattle.psx_base.specs.KernelState.{KernelState}
use Rattle.abs_kernel.specs.Stay.{Stay, Ask}
use Rattle.abs_kernel.specs.Answered.{answered}
use Rattle.abs_kernel.specs.Counters.{of_counter}

-- get_timer(t) answers the counter's value, the whole word that the port reads
abbrev pub get_timer : KernelState → Stay
get_timer s = of_counter s (λ t. Ask (value_port t) (λ value. answered s value))
