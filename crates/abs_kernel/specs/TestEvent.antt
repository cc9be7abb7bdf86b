-- TestEvent (PSX-SPX, Kernel (BIOS), Event Functions: TestEvent).
use Rattle.std.specs.Prelude.{if◌then◌else◌}
use Rattle.psx_base.specs.KernelState.{KernelState}
use Rattle.kern_layout.specs.declared.places.TheConstants.{EVENT_BUSY, EVENT_READY}
use Rattle.abs_kernel.specs.Stay.{Stay}
use Rattle.abs_kernel.specs.Answered.{registers_of, answered}
use Rattle.abs_kernel.specs.Events.{event_number, has_status, with_status}

-- TestEvent(h) answers 1 where the event is ready, and makes it busy; else 0, and for a bad handle
abbrev pub test_event : KernelState → Stay
test_event s = let i = event_number (registers_of s).r4 in if has_status s i EVENT_READY then answered (with_status s i EVENT_BUSY) 1 else answered s 0
