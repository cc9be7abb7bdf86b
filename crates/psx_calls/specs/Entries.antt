-- What the entry and the return of a stay tell (abs_kernel's definitions of the stays; PSX-SPX, Kernel (BIOS)).
use Rattle.std.specs.Prelude.{ℕ, ◌%◌, Bool, true, false, ◌&&◌, ◌||◌, not, nat_eq, nat_le, List, Option, None, take, drop, slice_index}
use Rattle.std.specs.List.{list_all}
use Rattle.psx_base.specs.declared.stop.Table.TheVariants.{A as TableA, B as TableB, C as TableC}
use Rattle.psx_trace.specs.declared.item.Entered.{Entered}
use Rattle.psx_trace.specs.declared.item.Entered.TheVariants.{A, B, C, Sys, Interrupt, Back}
use Rattle.psx_trace.specs.contracts.item.EnteredPartialEq.TheImpl as entrances
use Rattle.abs_kernel.specs.declared.calls.CallId.{CallId}
use Rattle.abs_kernel.specs.CallTable.{served_call}
use Rattle.psx_calls.specs.declared.entries.Entry.{Entry}
use Rattle.psx_calls.specs.declared.entries.TheConstants.{DELIVER_EVENT, CHANGE_THREAD, RETURN_FROM_EXCEPTION, ENTER_CRITICAL, DELIVERIES, FUNCTION_RETURN}

-- the call that a table has at a number; other entrances have none
abbrev pub call_at : Entered → (number : ℕ) → Option CallId
call_at A number = served_call TableA number
call_at B number = served_call TableB number
call_at C number = served_call TableC number
call_at _ number = None

abbrev pub call_of : Entry → Option CallId
call_of entry = call_at entry.gate entry.number

abbrev pub is_gate_of_calls : Entered → Bool
is_gate_of_calls A = true
is_gate_of_calls B = true
is_gate_of_calls C = true
is_gate_of_calls _ = false

-- an entry made the call of a gate and a number
abbrev pub same_call : Entry → Entered → (number : ℕ) → Bool
same_call entry gate number = entrances.ghosts.eq entry.gate gate && nat_eq entry.number number

-- a call that waits goes back to its gate
abbrev pub is_try : Entry → (pc : ℕ) → Bool
is_try entry pc = is_gate_of_calls entry.gate && nat_eq pc entry.epc

-- which stays call functions, and with which argument: an interrupt's and a delivery's with 0; behind a function's return also its answer, which is the number of that entry
abbrev pub calls_by : Entered → (number argument : ℕ) → Bool
calls_by B number argument = nat_eq number DELIVER_EVENT && nat_eq argument 0
calls_by Sys number argument = nat_le DELIVERIES number && nat_eq argument 0
calls_by Interrupt number argument = nat_eq argument 0
calls_by Back number argument = nat_eq argument 0 || nat_eq argument number
calls_by _ number argument = false

abbrev pub calls_with : Entry → (argument : ℕ) → Bool
calls_with entry argument = calls_by entry.gate entry.number argument

abbrev pub all_zero : List ℕ → Bool
all_zero words = list_all (λ w. nat_eq w 0) words

-- A function begins with interrupts off, the gate of its return in r31, and 0 in r1 to r3 and r5 to r25; r4 is its argument. The words are r1 to r31.
abbrev pub begins_function : Entry → (sr : ℕ) → (words : List ℕ) → Bool
begins_function entry sr words =
    nat_eq (sr % 2) 0 && (nat_eq (slice_index words 30) FUNCTION_RETURN && (all_zero (take 3 words) && (all_zero (take 21 (drop 4 words)) && calls_with entry (slice_index words 3))))

-- the return of a function, and ReturnFromException, leave a frame
abbrev pub leaves_by : Entered → (number : ℕ) → Bool
leaves_by Back number = true
leaves_by B number = nat_eq number RETURN_FROM_EXCEPTION
leaves_by _ number = false

abbrev pub leaves_frame : Entry → Bool
leaves_frame entry = leaves_by entry.gate entry.number

-- the calls of table B behind which another context may go on: ReturnFromException, and ChangeThread where no frame is there
abbrev pub may_take_up : (number frames : ℕ) → Bool
may_take_up number frames = nat_eq number RETURN_FROM_EXCEPTION || (nat_eq number CHANGE_THREAD && nat_eq frames 0)

-- a return that begins no function is an answer to the caller behind every other call, and behind the SYSCALL that enters a critical section
abbrev pub answered_by : Entered → (number frames : ℕ) → Bool
answered_by A number frames = true
answered_by B number frames = not (may_take_up number frames)
answered_by C number frames = true
answered_by Sys number frames = nat_eq number ENTER_CRITICAL
answered_by _ number frames = false

abbrev pub is_answered : Entry → (frames : ℕ) → Bool
is_answered entry frames = answered_by entry.gate entry.number frames
