-- EnableEvent (PSX-SPX, Kernel (BIOS), Event Functions: EnableEvent). An event that is ready is so no more.
use Rattle.psx_base.specs.KernelState.{KernelState}
use Rattle.kern_layout.specs.declared.places.TheConstants.{EVENT_BUSY}
use Rattle.abs_kernel.specs.Stay.{Stay}
use Rattle.abs_kernel.specs.Events.{gets_status}

-- EnableEvent(h) makes the event busy
abbrev pub enable_event : KernelState → Stay
enable_event s = gets_status EVENT_BUSY s
