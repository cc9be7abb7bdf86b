-- GetLastError (PSX-SPX, Kernel (BIOS), File Functions: GetLastError).
use Rattle.psx_base.specs.KernelState.{KernelState}
use Rattle.abs_kernel.specs.Stay.{Stay}
use Rattle.abs_kernel.specs.Answered.{answered}

-- GetLastError() answers the error of the last call on files that refused, 0 at first
abbrev pub get_last_error : KernelState → Stay
get_last_error s = answered s s.errno
