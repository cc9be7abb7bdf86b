-- Events by their handles (PSX-SPX, Kernel (BIOS), Event Functions): event i has the handle F1000000h + i.
use Rattle.std.specs.Prelude.{ℕ, ◌+◌, ◌-◌, ◌%◌, ◌^◌, Bool, nat_eq, if◌then◌else◌}
use Rattle.psx_base.specs.KernelState.{KernelState}
use Rattle.kern_layout.specs.Reads.{event}
use Rattle.kern_layout.specs.Stores.{with_event}
use Rattle.kern_layout.specs.declared.places.TheConstants.{EVENT_FREE}
use Rattle.abs_kernel.specs.Stay.{Stay}
use Rattle.abs_kernel.specs.Answered.{registers_of, answered}

-- an event's handle, and the number that a handle names
abbrev pub event_handle : (number : ℕ) → ℕ
event_handle number = 0xF1000000 + number

abbrev pub event_number : (handle : ℕ) → ℕ
event_number handle = (handle + 2 ^ 32 - 0xF1000000) % 2 ^ 32

-- the mode of an event that a delivery makes ready
abbrev pub marked : ℕ
marked = 0x2000

-- whether event i has a status; a number behind the table counts as a free event
abbrev pub has_status : KernelState → (i status : ℕ) → Bool
has_status s i status = nat_eq (event s i).status status

-- event i gets another status
abbrev pub with_status : KernelState → (i status : ℕ) → KernelState
with_status s i status = with_event s i record (event s i) { status = status }

-- The event that the handle in r4 names gets a status, where it isn't free. A bad handle names none, so it changes nothing. The answer is 1 always.
abbrev pub gets_status : (status : ℕ) → KernelState → Stay
gets_status status s = let i = event_number (registers_of s).r4 in if has_status s i EVENT_FREE then answered s 1 else answered (with_status s i status) 1
