-- restart_timer (PSX-SPX, Kernel (BIOS), Timer Functions: restart_timer).
use Rattle.psx_base.specs.Ports.{value_port}
use Rattle.psx_base.specs.KernelState.{KernelState}
use Rattle.abs_kernel.specs.Stay.{Stay, Tell}
use Rattle.abs_kernel.specs.Answered.{answered}
use Rattle.abs_kernel.specs.Counters.{of_counter}

-- restart_timer(t) lets the counter begin at 0 again, and answers 1
abbrev pub restart_timer : KernelState → Stay
restart_timer s = of_counter s (λ t. Tell (value_port t) 0 (answered s 1))
