-- UnDeliverEvent (PSX-SPX, Kernel (BIOS), Event Functions: UnDeliverEvent). It takes back what a delivery has marked.
use Rattle.std.specs.Prelude.{ℕ, ◌&&◌, nat_eq, map, if◌then◌else◌}
use Rattle.psx_base.specs.KernelState.{Event, KernelState}
use Rattle.kern_layout.specs.declared.places.TheConstants.{EVENT_BUSY, EVENT_READY}
use Rattle.abs_kernel.specs.Stay.{Stay}
use Rattle.abs_kernel.specs.Answered.{registers_of, answered}
use Rattle.abs_kernel.specs.Events.{marked}

-- a ready event of this class and spec becomes busy, where its mode is that of marking
abbrev pub undelivered : (class spec : ℕ) → Event → Event
undelivered class spec e = if nat_eq e.class class && (nat_eq e.status EVENT_READY && (nat_eq e.spec spec && nat_eq e.mode marked)) then record e { status = EVENT_BUSY } else e

-- UnDeliverEvent(class, spec) does so with each event
abbrev pub undeliver_event : KernelState → Stay
undeliver_event s = let r = registers_of s in answered (record s { events = map (undelivered r.r4 r.r5) s.events }) 0
