-- A delivery of two stays evaluated: event 3 has a function that returns at once, as it is gate E0h itself, and event 5 becomes ready behind it.
use Rattle.std.specs.Prelude.{◌≡◌, true, false, [], ◌∷◌, length, Some}
use Rattle.psx_base.specs.declared.stop.Table.TheVariants.{B}
use Rattle.psx_base.specs.Registers.{Registers, no_registers}
use Rattle.psx_base.specs.Items.{ByB}
use Rattle.psx_base.specs.KernelState.{ThreadContext, Scan, KernelState}
use Rattle.kern_layout.specs.Stores.{with_event}
use Rattle.abs_kernel.specs.declared.calls.CallId.TheVariants.{B07}
use Rattle.abs_kernel.specs.CallTable.{served_call}
use Rattle.abs_kernel.specs.Cause.{entrance_of}
use Rattle.abs_kernel.specs.Events.{marked}
use Rattle.abs_kernel.specs.Scan.{calling, made_ready}
use Rattle.abs_kernel.specs.Callback.{RETURN}
use Rattle.abs_kernel.specs.StayLaws.{settled_registers}
use Rattle.abs_kernel.specs.ThreadLaws.{Stays, Moves}
use Rattle.abs_kernel.specs.Equations.{state, at, caller}
use Rattle.abs_kernel.specs.WorkEquations.{busy}
use Rattle.kern_event.specs.DeliveryLaws.{CallbackRun, Follow}

-- the caller of DeliverEvent, and how it goes on behind the call
abbrev pub delivering : Registers
delivering = record (caller 7) { r4 = 0xF0000010; r5 = 0x4000 }

abbrev pub behind_call : ThreadContext
behind_call = record { context = at 0x80010008 (record delivering { r26 = 0x80010008 }); interrupts = true }

-- the state before the call, in the function, and behind the delivery
abbrev pub before_call : KernelState
before_call = with_event (with_event (state (at 0xB0 delivering) true) 3 (busy calling RETURN)) 5 (busy marked 0)

abbrev pub in_function : KernelState
in_function = record before_call {
  frames = record { context = behind_call; tasks = Scan 0xF0000010 0x4000 4 ∷ [] } ∷ [];
  running = record { context = at RETURN (record no_registers { r26 = RETURN; r29 = 0xFFFFFFE0; r31 = RETURN }); interrupts = false };
}

abbrev pub behind_delivery : KernelState
behind_delivery = record (with_event before_call 5 (made_ready (busy marked 0))) { running = behind_call }

abbrev pub function_run : CallbackRun
function_run = record { moves = []; returns = in_function; code = 8; answers = []; after = behind_delivery }

-- it is a run of which the law of DeliverEvent speaks
pub record DeliversInTwoStays : Type 0 where
  pub gate : entrance_of before_call.running.context 8 ≡ ByB
  pub number : served_call B (settled_registers before_call).r9 ≡ Some B07
  pub calls : Moves (Stays 8 []) before_call in_function
  pub returns : Follow (length before_call.frames) (function_run ∷ []) in_function behind_delivery
  pub frames : length behind_delivery.frames ≡ length before_call.frames
