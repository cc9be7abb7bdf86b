-- getchar (PSX-SPX, Kernel (BIOS), TTY Console (std_io): getchar).
use Rattle.psx_base.specs.KernelState.{KernelState}
use Rattle.abs_kernel.specs.Stay.{Stay}
use Rattle.abs_kernel.specs.Answered.{answered, waits}
use Rattle.abs_kernel.specs.ConsoleBytes.{takes_byte}

-- getchar() waits for a byte and answers it
abbrev pub getchar : KernelState → Stay
getchar s = takes_byte (waits s) (λ b. answered s b)
