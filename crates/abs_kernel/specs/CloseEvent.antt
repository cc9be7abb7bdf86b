-- CloseEvent (PSX-SPX, Kernel (BIOS), Event Functions: CloseEvent).
use Rattle.psx_base.specs.KernelState.{KernelState}
use Rattle.kern_layout.specs.declared.places.TheConstants.{EVENT_FREE}
use Rattle.abs_kernel.specs.Stay.{Stay}
use Rattle.abs_kernel.specs.Events.{gets_status}

-- CloseEvent(h) frees the event's slot
abbrev pub close_event : KernelState → Stay
close_event s = gets_status EVENT_FREE s
