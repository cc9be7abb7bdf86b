-- WaitEvent (PSX-SPX, Kernel (BIOS), Event Functions: WaitEvent).
use Rattle.std.specs.Prelude.{if◌then◌else◌}
use Rattle.psx_base.specs.KernelState.{KernelState}
use Rattle.kern_layout.specs.declared.places.TheConstants.{EVENT_BUSY}
use Rattle.abs_kernel.specs.Stay.{Stay}
use Rattle.abs_kernel.specs.Answered.{registers_of, waits}
use Rattle.abs_kernel.specs.Events.{event_number, has_status}
use Rattle.abs_kernel.specs.TestEvent.{test_event}

-- WaitEvent(h) waits while the event is busy. Else it is as TestEvent.
abbrev pub wait_event : KernelState → Stay
wait_event s = if has_status s (event_number (registers_of s).r4) EVENT_BUSY then waits s else test_event s
