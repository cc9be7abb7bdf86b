-- Interrupts evaluated, on states in which thread 0 of four runs and there are 16 events, by what I_STAT and I_MASK answer.
use Rattle.std.specs.Prelude.{◌≡◌, ℕ, true, false, [], ◌∷◌, Some, List}
use Rattle.psx_base.specs.Memory.{Memory}
use Rattle.psx_base.specs.Registers.{Registers, no_registers}
use Rattle.psx_base.specs.KernelState.{ThreadContext, Element, Second, Line, Scan, KernelState}
use Rattle.kern_layout.specs.Stores.{with_event}
use Rattle.abs_kernel.specs.Scan.{calling, made_ready}
use Rattle.abs_kernel.specs.Interrupt.{interrupt_tasks}
use Rattle.abs_kernel.specs.KernelStep.{stay_of}
use Rattle.abs_kernel.specs.Played.{Access, Asked, Told, Returned, played}
use Rattle.abs_kernel.specs.Equations.{state, at}
use Rattle.abs_kernel.specs.WorkEquations.{of_line, HasElement}

-- a program at 80010000h, whose stack is no multiple of 8
abbrev pub computing : Registers
computing = record no_registers { r2 = 5; r26 = 9; r27 = 9; r28 = 0x80018000; r29 = 0x801FFF06; hi = 3; lo = 4 }

abbrev pub before : KernelState
before = state (at 0x80010000 computing) true

-- as it goes on behind the interrupt, and what it is read by
abbrev pub behind : ThreadContext
behind = record { context = at 0x80010000 (record computing { r26 = 0x80010000; r27 = 0 }); interrupts = true }

abbrev pub goes_on_behind : KernelState → KernelState
goes_on_behind s = record s { running = behind }

abbrev pub lines_read : (stat mask : ℕ) → List Access → List Access
lines_read stat mask more = Asked 0x1F801070 stat ∷ Asked 0x1F801074 mask ∷ more

-- no line: pending lines that aren't enabled, enabled ones that aren't pending, and line 1, which isn't handled
abbrev pub NoLine : Type 0
NoLine = played (stay_of before 0) (0x13 ∷ 0x6E ∷ []) ≡ record { accesses = lines_read 0x13 0x6E []; end = Returned (goes_on_behind before) }

-- in a delay slot, with a load pending: the program goes on at the branch, with the load's value
abbrev pub in_slot : KernelState
in_slot = record before { running = record before.running { context = record (at 0x80010004 computing) { next = 0x80010100; in_slot = true; pending = Some (2, 7) } } }

abbrev pub AtBranch : Type 0
AtBranch =
    played (stay_of in_slot 0) (0 ∷ 0 ∷ []) ≡ record {
      accesses = lines_read 0 0 [];
      end = Returned (record in_slot { running = record { context = at 0x80010000 (record computing { r2 = 7; r26 = 0x80010000; r27 = 0 }); interrupts = true } });
    }

-- at a gate before its word runs: the call will be made
abbrev pub at_gate : KernelState
at_gate = state (at 0xA0 (record computing { r9 = 0x3C })) true

abbrev pub AtGate : Type 0
AtGate =
    played (stay_of at_gate 0) (0 ∷ 0 ∷ []) ≡ record {
      accesses = lines_read 0 0 [];
      end = Returned (record at_gate { running = record { context = at 0xA0 (record computing { r9 = 0x3C; r26 = 0xA0; r27 = 0 }); interrupts = true } });
    }

-- the lines are taken back in order, and the event of each becomes ready
abbrev pub four_wait : KernelState
four_wait = with_event (with_event (with_event (with_event before 0 (of_line 0xF2000002)) 1 (of_line 0xF2000001)) 2 (of_line 0xF2000000)) 3 (of_line 0xF2000003)

abbrev pub four_ready : KernelState
four_ready =
    with_event (with_event (with_event (with_event before 0 (made_ready (of_line 0xF2000002))) 1 (made_ready (of_line 0xF2000001))) 2 (made_ready (of_line 0xF2000000))) 3 (made_ready (of_line 0xF2000003))

abbrev pub FourLines : Type 0
FourLines =
    played (stay_of four_wait 0) (0x7FF ∷ 0x7FF ∷ []) ≡ record {
      accesses = lines_read 0x7FF 0x7FF (Told 0x1F801070 0xFFFFFFFE ∷ Told 0x1F801070 0xFFFFFFEF ∷ Told 0x1F801070 0xFFFFFFDF ∷ Told 0x1F801070 0xFFFFFFBF ∷ []);
      end = Returned (goes_on_behind four_ready);
    }

-- an event's function is called in a frame, with what is left of the scan and the later lines
abbrev pub one_calls : KernelState
one_calls = with_event before 3 (record (of_line 0xF2000003) { mode = calling; function = 0x80012000 })

abbrev pub in_function : ThreadContext
in_function = record { context = at 0x80012000 (record no_registers { r26 = 0x80012000; r28 = 0x80018000; r29 = 0x801FFEE0; r31 = 0xE0 }); interrupts = false }

abbrev pub CallsFunction : Type 0
CallsFunction =
    played (stay_of one_calls 0) (0x11 ∷ 0x51 ∷ []) ≡ record {
      accesses = lines_read 0x11 0x51 (Told 0x1F801070 0xFFFFFFFE ∷ []);
      end = Returned (record one_calls { frames = record { context = behind; tasks = Scan 0xF2000003 2 4 ∷ Line 4 ∷ [] } ∷ []; running = in_function });
    }

-- the elements of the chains come first, each chain from its head; a function is called in a frame with what is left
abbrev pub with_chains : Memory → KernelState
with_chains m = record before { memory = m; chains = (0x80011000 ∷ []) ∷ [] ∷ (0x80011030 ∷ 0x80011020 ∷ []) ∷ (0x80011010 ∷ []) ∷ [] }

abbrev pub TasksInOrder : Type 0
TasksInOrder = (m : Memory) → interrupt_tasks (with_chains m) 0x41 0x41 ≡ Element 0x80011000 ∷ Element 0x80011030 ∷ Element 0x80011020 ∷ Element 0x80011010 ∷ Line 0 ∷ Line 6 ∷ []

abbrev pub CallsElement : Type 0
CallsElement =
    (m : Memory) → HasElement m 0x80013000 0x80012000
    → played (stay_of (with_chains m) 0) (0x41 ∷ 0x41 ∷ []) ≡ record {
      accesses = lines_read 0x41 0x41 [];
      end = Returned (record (with_chains m) {
        frames = record { context = behind; tasks = Second 0x80011000 ∷ Element 0x80011030 ∷ Element 0x80011020 ∷ Element 0x80011010 ∷ Line 0 ∷ Line 6 ∷ [] } ∷ [];
        running = in_function;
      });
    }
