-- OpenEvent (PSX-SPX, Kernel (BIOS), Event Functions: OpenEvent). The event isn't enabled yet.
use Rattle.std.specs.Prelude.{ℕ, zero, suc, ◌-◌, ◌^◌, length, if◌then◌else◌}
use Rattle.psx_base.specs.KernelState.{KernelState}
use Rattle.kern_layout.specs.Stores.{with_event}
use Rattle.kern_layout.specs.declared.places.TheConstants.{EVENT_FREE, EVENT_DISABLED}
use Rattle.abs_kernel.specs.Stay.{Stay}
use Rattle.abs_kernel.specs.Answered.{registers_of, answered}
use Rattle.abs_kernel.specs.Events.{event_handle, has_status}

-- slot i becomes that of the event that the arguments say, disabled
abbrev pub with_opened : KernelState → (i : ℕ) → KernelState
with_opened s i = let r = registers_of s in with_event s i record { status = EVENT_DISABLED; class = r.r4; spec = r.r5; mode = r.r6; function = r.r7 }

-- the slots from i on, of which there are k: the first that is free
abbrev pub opens_from : (k : ℕ) → KernelState → (i : ℕ) → Stay
opens_from zero s i = answered s (2 ^ 32 - 1)
opens_from (suc k) s i = if has_status s i EVENT_FREE then answered (with_opened s i) (event_handle i) else opens_from k s (suc i)

-- OpenEvent(class, spec, mode, function) answers the event's handle, or -1 where no slot is free
abbrev pub open_event : KernelState → Stay
open_event s = opens_from (length s.events) s 0
