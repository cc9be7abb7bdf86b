-- DisableEvent (PSX-SPX, Kernel (BIOS), Event Functions: DisableEvent). An event that is ready is so no more.
use Rattle.psx_base.specs.KernelState.{KernelState}
use Rattle.kern_layout.specs.declared.places.TheConstants.{EVENT_DISABLED}
use Rattle.abs_kernel.specs.Stay.{Stay}
use Rattle.abs_kernel.specs.Events.{gets_status}

-- DisableEvent(h) disables the event
abbrev pub disable_event : KernelState → Stay
disable_event s = gets_status EVENT_DISABLED s
