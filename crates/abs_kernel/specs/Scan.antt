-- The delivery of an event: a scan over the events that are busy with its class and spec (PSX-SPX, Kernel (BIOS), Event Functions: DeliverEvent).
use Rattle.std.specs.Prelude.{ℕ, zero, suc, Bool, ◌&&◌, not, nat_eq, if◌then◌else◌}
use Rattle.psx_base.specs.KernelState.{Event, KernelState}
use Rattle.kern_layout.specs.Reads.{event}
use Rattle.kern_layout.specs.declared.places.TheConstants.{EVENT_BUSY, EVENT_READY}
use Rattle.kern_layout.specs.Stores.{with_event}
use Rattle.abs_kernel.specs.Stay.{Stay}
use Rattle.abs_kernel.specs.Events.{marked}

-- the mode of an event whose function a delivery calls
abbrev pub calling : ℕ
calling = 0x1000

-- the event is busy with this class and spec
abbrev pub matches : (class spec : ℕ) → Event → Bool
matches class spec e = nat_eq e.status EVENT_BUSY && (nat_eq e.class class && nat_eq e.spec spec)

-- it is to become ready
abbrev pub is_marked : (class spec : ℕ) → Event → Bool
is_marked class spec e = matches class spec e && nat_eq e.mode marked

-- its function is to be called
abbrev pub is_called : (class spec : ℕ) → Event → Bool
is_called class spec e = matches class spec e && (nat_eq e.mode calling && not (nat_eq e.function 0))

abbrev pub made_ready : Event → Event
made_ready e = record e { status = EVENT_READY }

-- event i is made ready
abbrev pub with_ready : KernelState → (i : ℕ) → KernelState
with_ready s i = with_event s i (made_ready (event s i))

-- Of the n events from number i on each is looked at as it then is. What follows is given: `done` where all were looked at, and `called` with the function at the first that is to be called, and with the number behind it.
abbrev pub scan : (n : ℕ) → (class spec i : ℕ) → KernelState → (done : KernelState → Stay) → (called : KernelState → (function from : ℕ) → Stay) → Stay
scan zero class spec i s done called = done s
scan (suc n) class spec i s done called =
    let e = event s i in
    if is_marked class spec e then scan n class spec (suc i) (with_ready s i) done called
    else (if is_called class spec e then called s e.function (suc i) else scan n class spec (suc i) s done called)
