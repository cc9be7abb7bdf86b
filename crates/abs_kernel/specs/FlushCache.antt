-- FlushCache (PSX-SPX, Kernel (BIOS), function summary: FlushCache). No instruction cache is modelled: what is written is fetched from then on.
use Rattle.psx_base.specs.KernelState.{KernelState}
use Rattle.abs_kernel.specs.Stay.{Stay}
use Rattle.abs_kernel.specs.Answered.{answered}

-- FlushCache() does nothing, and answers 0
abbrev pub flush_cache : KernelState → Stay
flush_cache s = answered s 0
