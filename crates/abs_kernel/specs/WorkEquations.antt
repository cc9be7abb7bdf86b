-- Tasks, frames and returns evaluated, on states in which thread 0 of four runs and there are 16 events.
use Rattle.std.specs.Prelude.{◌≡◌, ℕ, true, false, [], ◌∷◌, Some, None, replicate, slice_set}
use Rattle.psx_base.specs.declared.stop.Stop.TheVariants.{Deep, BadReturn}
use Rattle.psx_base.specs.Memory.{Memory, no_bytes, word}
use Rattle.psx_base.specs.Registers.{no_registers}
use Rattle.psx_base.specs.KernelState.{ThreadContext, Used, Event, Element, Second, Line, Scan, KernelState}
use Rattle.kern_layout.specs.Stores.{with_event}
use Rattle.kern_layout.specs.declared.places.TheConstants.{EVENT_DISABLED, EVENT_BUSY}
use Rattle.abs_kernel.specs.Stay.{Return, Halt, Tell, Touch}
use Rattle.abs_kernel.specs.Callback.{stack_below}
use Rattle.abs_kernel.specs.Events.{marked}
use Rattle.abs_kernel.specs.Scan.{calling, made_ready}
use Rattle.abs_kernel.specs.TakingUp.{resumed}
use Rattle.abs_kernel.specs.Tasks.{work}
use Rattle.abs_kernel.specs.Returning.{comes_back, return_from_exception, delivers}
use Rattle.abs_kernel.specs.Equations.{state, at, caller}

-- a context that is kept: it goes on at 80010010h, with a stack that is no multiple of 8
abbrev pub kept : ThreadContext
kept = record { context = at 0x80010010 (record no_registers { r2 = 7; r26 = 0x80010010; r28 = 0x80018000; r29 = 0x801FFF06 }); interrupts = true }

-- the state of a caller, with no event
abbrev pub none_there : KernelState
none_there = state (at 0xB0 (caller 7)) true

-- a busy event of class F0000010h and spec 4000h
abbrev pub busy : (mode function : ℕ) → Event
busy mode function = record { status = EVENT_BUSY; class = 0xF0000010; spec = 0x4000; mode = mode; function = function }

-- the context is taken up
abbrev pub goes_on_as_kept : KernelState → KernelState
goes_on_as_kept s = record s { running = kept }

-- a busy event becomes ready; a disabled one doesn't
abbrev pub two_there : KernelState
two_there = with_event (with_event none_there 5 (record (busy marked 0) { status = EVENT_DISABLED })) 3 (busy marked 0)

abbrev pub MakesReady : Type 0
MakesReady = delivers two_there kept 0xF0000010 0x4000 0x80010008 ≡ Return (goes_on_as_kept (with_event two_there 3 (made_ready (busy marked 0))))

-- none of another class or spec does
abbrev pub PassesOver : Type 0
PassesOver = (delivers two_there kept 0xF0000011 0x4000 0x80010008 ≡ Return (goes_on_as_kept two_there)) × (delivers two_there kept 0xF0000010 0x4001 0x80010008 ≡ Return (goes_on_as_kept two_there))

-- a function is called in a frame of its own, with the stack 32 bytes lower and rounded; the scan will go on behind its event
abbrev pub one_calls : KernelState
one_calls = with_event none_there 3 (busy calling 0x80012000)

abbrev pub in_function : ThreadContext
in_function = record { context = at 0x80012000 (record no_registers { r26 = 0x80012000; r28 = 0x80018000; r29 = 0x801FFEE0; r31 = 0xE0 }); interrupts = false }

abbrev pub after_call : KernelState
after_call = record one_calls { frames = record { context = kept; tasks = Scan 0xF0000010 0x4000 4 ∷ [] } ∷ []; running = in_function }

abbrev pub CallsFunction : Type 0
CallsFunction = delivers one_calls kept 0xF0000010 0x4000 0x80010008 ≡ Return after_call

-- its return goes on with the scan, and takes up the context
abbrev pub ComesBack : Type 0
ComesBack = comes_back after_call ≡ Return (goes_on_as_kept one_calls)

-- ReturnFromException drops the scan, here one that would find another event
abbrev pub another_busy : KernelState
another_busy = with_event after_call 5 (busy marked 0)

abbrev pub DropsTasks : Type 0
DropsTasks =
    (comes_back another_busy ≡ Return (record (with_event another_busy 5 (made_ready (busy marked 0))) { frames = []; running = kept }))
    × (return_from_exception another_busy ≡ Return (record another_busy { frames = []; running = kept }))

-- a function 0 isn't called
abbrev pub FunctionZero : Type 0
FunctionZero = let s = with_event none_there 3 (busy calling 0) in delivers s kept 0xF0000010 0x4000 0x80010008 ≡ Return (goes_on_as_kept s)

-- the ninth frame stops, with the address that the entry gives
abbrev pub NinthFrame : Type 0
NinthFrame = let s = record one_calls { frames = replicate 8 (record { context = kept; tasks = [] }) } in delivers s kept 0xF0000010 0x4000 0x80010008 ≡ Halt (Deep 0x80010008) no_bytes

abbrev pub NoFrame : Type 0
NoFrame = (comes_back none_there ≡ Halt (BadReturn 0x80010008) no_bytes) × (return_from_exception none_there ≡ Halt (BadReturn 0x80010008) no_bytes)

-- a stack below address 0
abbrev pub StackWraps : Type 0
StackWraps = stack_below 8 ≡ 0xFFFFFFE8

-- memory in which an element at 80011000h has two functions, or none
abbrev pub HasElement : Memory → (second first : ℕ) → Type 0
HasElement m second first = (word m 0x11004 ≡ second) × (word m 0x11008 ≡ first)

abbrev pub in_memory : Memory → KernelState
in_memory m = record none_there { memory = m }

-- A first function that isn't there is passed over, and so is a second one that isn't there, or where the first has answered 0.
abbrev pub PassesElements : Type 0
PassesElements =
    (m : Memory) → HasElement m 0 0
    → (work (in_memory m) kept (Element 0x80011000 ∷ []) 5 0x80010008 ≡ Touch 4 (Return (goes_on_as_kept (in_memory m))))
    × (work (in_memory m) kept (Second 0x80011000 ∷ []) 0 0x80010008 ≡ Return (goes_on_as_kept (in_memory m)))
    × (work (in_memory m) kept (Second 0x80011000 ∷ []) 5 0x80010008 ≡ Touch 4 (Return (goes_on_as_kept (in_memory m))))

-- The first is called with 0, and the second, with the first's answer, when that has returned; the tasks behind are kept.
abbrev pub in_second : ThreadContext
in_second = record { context = at 0x80013000 (record no_registers { r4 = 5; r26 = 0x80013000; r28 = 0x80018000; r29 = 0x801FFEE0; r31 = 0xE0 }); interrupts = false }

abbrev pub CallsElement : Type 0
CallsElement =
    (m : Memory) → HasElement m 0x80013000 0x80012000
    → (work (in_memory m) kept (Element 0x80011000 ∷ Line 0 ∷ []) 5 0x80010008 ≡ Touch 4 (Return (record (in_memory m) { frames = record { context = kept; tasks = Second 0x80011000 ∷ Line 0 ∷ [] } ∷ []; running = in_function })))
    × (work (in_memory m) kept (Second 0x80011000 ∷ Line 0 ∷ []) 5 0x80010008 ≡ Touch 4 (Return (record (in_memory m) { frames = record { context = kept; tasks = Line 0 ∷ [] } ∷ []; running = in_second })))

-- a line is taken back, and its event becomes ready: VBLANK's, and counter 0's
abbrev pub of_line : (class : ℕ) → Event
of_line class = record (busy marked 0) { class = class; spec = 2 }

abbrev pub HandlesLines : Type 0
HandlesLines =
    let s = with_event (with_event none_there 5 (of_line 0xF2000000)) 3 (of_line 0xF2000003) in
    (work s kept (Line 0 ∷ []) 0 0x80010008 ≡ Tell 0x1F801070 0xFFFFFFFE (Return (goes_on_as_kept (with_event s 3 (made_ready (of_line 0xF2000003))))))
    × (work s kept (Line 4 ∷ []) 0 0x80010008 ≡ Tell 0x1F801070 0xFFFFFFEF (Return (goes_on_as_kept (with_event s 5 (made_ready (of_line 0xF2000000))))))

-- a thread that a callback has named is taken up where no frame is left, and not before
abbrev pub other : ThreadContext
other = record { context = at 0x80014000 (record no_registers { r26 = 0x80014000 }); interrupts = false }

abbrev pub one_named : KernelState
one_named = record none_there { threads = slice_set none_there.threads 1 (Used other); next = Some 1 }

abbrev pub TakesUpNamed : Type 0
TakesUpNamed =
    let s = record one_named { frames = record { context = kept; tasks = [] } ∷ [] } in
    (resumed one_named kept ≡ Return (record one_named { threads = slice_set one_named.threads 0 (Used kept); current = 1; running = other; next = None })) × (resumed s kept ≡ Return (goes_on_as_kept s))
