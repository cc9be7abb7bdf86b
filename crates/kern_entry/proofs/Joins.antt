-- From LEAVE and WORK on the words return.
use Rattle.std.proofs.Common.{◌≡◌, ℕ, ◌+◌, ◌%◌, ◌^◌, [], None, false, refl, ap, ◌∙◌, arith}
use Rattle.psx_base.specs.Context.{Context, settled, taken}
use Rattle.psx_base.specs.Memory.{Memory}
use Rattle.psx_base.specs.Registers.{Registers}
use Rattle.psx_base.specs.KernelState.{ThreadContext}
use Rattle.psx_cpu.specs.Processor.{Cop0}
use Rattle.psx_flow.specs.Run.{Run}
use Rattle.psx_flow.specs.Kernel.{kernel_words}
use Rattle.psx_flow.specs.Reaches.{Keeps}
use Rattle.psx_base.specs.declared.stop.Stop.TheVariants.{Exit, BadPointer, BadThread, BadReturn, Deep}
use Rattle.abs_kernel.specs.Stay.{Stay, Return, Halt}
use Rattle.abs_kernel.specs.Exits.{exits}
use Rattle.kern_stay.specs.Doors.{called_with}
use Rattle.kern_entry.specs.declared.places.TheConstants.{EXIT}
use Rattle.kern_entry.specs.Within.{Aim}
use Rattle.kern_entry.specs.Made.{Made}
use Rattle.abs_kernel.specs.Answered.{with_answer}
use Rattle.kern_entry.specs.EntryLaws.{KeepsRest, HoldsContext, LeaveReturns, WaitReturns, BadPointerStops, BadThreadStops, BadReturnStops, DeepStops, OwnCalls}
use Rattle.kern_entry.proofs.WorkArea.{AreaHolds}
use Rattle.kern_entry.proofs.Placed.{all_placed}
use Rattle.kern_entry.proofs.Returning.{back_to}
use Rattle.kern_entry.proofs.Stages.{leave_shown, resume_shown, bad_pointer_shown, bad_thread_shown, bad_return_shown, deep_shown, exit_shown}

-- a context with nothing pending, taken up at an address
taken_back : (x : Context) (at : ℕ) → x.pending ≡ None → taken x at ≡ back_to x.regs at
taken_back x at e = ap (λ o. record { regs = record (settled x.regs o) { r26 = at; r27 = 0 }; pending = None; pc = at; next = (at + 4) % 2 ^ 32; in_slot = false }) e

-- a run that begins so far on
abbrev begun : Registers → Cop0 → Memory → Run
begun regs z m = record { regs = regs; cop0 = z; bytes = m; seen = []; passed = 0; steps = 130 }

holds : (regs : Registers) (z : Cop0) (m : Memory) (t : ThreadContext) → HoldsContext m t → AreaHolds t.context.regs t.context.pc t.interrupts m [] 130 (begun regs z m)
holds regs z m t h = record { area = h.area; spared = λ a o. refl; ports = refl; within = omega arith }

keeps : (regs : Registers) (z : Cop0) (m : Memory) → z.sr % 2 ≡ 0 → Keeps kernel_words m (begun regs z m)
keeps regs z m off = record { bytes = λ x e. refl; masked = off }

pub leave_returns : LeaveReturns
leave_returns regs z m t s off h is =
    let x : Context = t.context in
    leave_shown m (all_placed m h.words) (Return s) (Made m (Return s)) (λ k q y. y) x.regs x.pc t.interrupts [] (begun regs z m) (keeps regs z m off) (holds regs z m t h) (record {
      state = s;
      follows = tt;
      is = refl;
      context = ap (λ y. y.context) is ∙ ap (λ y. with_answer y regs.r2) (taken_back x x.regs.r31 h.settled);
      interrupts = ap (λ y. y.interrupts) is;
    }) 72 (omega arith)

pub wait_returns : WaitReturns
wait_returns regs z m t s off h is =
    let x : Context = t.context in
    let h0 = holds regs z m t h in
    resume_shown m (all_placed m h.words) (Return s) (Made m (Return s)) (λ k q y. y) x.regs x.pc t.interrupts [] (begun regs z m) (keeps regs z m off) (record { area = h0.area; spared = h0.spared; ports = h0.ports; within = omega arith }) (record {
      state = s;
      follows = tt;
      is = refl;
      context = ap (λ y. y.context) is ∙ taken_back x x.pc h.settled;
      interrupts = ap (λ y. y.interrupts) is;
    }) 72 (omega arith)

pub bad_pointer_stops : BadPointerStops
bad_pointer_stops regs z m u t off h =
    let x : Context = t.context in
    let stay : Stay = Halt (BadPointer regs.r8 x.regs.r31) u in
    bad_pointer_shown m (all_placed m h.words) stay (Made m stay) (λ k q y. y) x.regs x.pc t.interrupts [] regs.r8 (begun regs z m) (keeps regs z m off) (holds regs z m t h) refl
    (record { stop = BadPointer regs.r8 x.regs.r31; memory = u; follows = ((tt, refl), refl); is = refl; stops = λ a b c. refl }) 72 (omega arith)

pub bad_thread_stops : BadThreadStops
bad_thread_stops regs z m u t off h =
    let x : Context = t.context in
    let stay : Stay = Halt (BadThread regs.r8 x.regs.r31) u in
    bad_thread_shown m (all_placed m h.words) stay (Made m stay) (λ k q y. y) x.regs x.pc t.interrupts [] regs.r8 (begun regs z m) (keeps regs z m off) (holds regs z m t h) refl
    (record { stop = BadThread regs.r8 x.regs.r31; memory = u; follows = ((tt, refl), refl); is = refl; stops = λ a b c. refl }) 72 (omega arith)

pub bad_return_stops : BadReturnStops
bad_return_stops regs z m u t off h =
    let x : Context = t.context in
    let stay : Stay = Halt (BadReturn x.regs.r31) u in
    bad_return_shown m (all_placed m h.words) stay (Made m stay) (λ k q y. y) x.regs x.pc t.interrupts [] (begun regs z m) (keeps regs z m off) (holds regs z m t h)
    (record { stop = BadReturn x.regs.r31; memory = u; follows = (tt, refl); is = refl; stops = λ a b c. refl }) 72 (omega arith)

pub deep_stops : DeepStops
deep_stops regs z m u off h =
    let stay : Stay = Halt (Deep regs.r31) u in
    deep_shown m (all_placed m h) stay (Made m stay) (λ k q y. y) [] regs.r31 (begun regs z m) (keeps regs z m off) (λ a o. refl) refl (omega arith) refl
    (record { stop = Deep regs.r31; memory = u; follows = (tt, refl); is = refl; stops = λ a b c. refl }) 72 (omega arith)

-- exit
abbrev starts : Registers → Cop0 → Memory → Run
starts regs z m = record { regs = regs; cop0 = z; bytes = m; seen = []; passed = 0; steps = 0 }

starts_hold : (regs : Registers) (z : Cop0) (m : Memory) (t : ThreadContext) (most : ℕ) → HoldsContext m t → AreaHolds t.context.regs t.context.pc t.interrupts m [] most (starts regs z m)
starts_hold regs z m t most h = record { area = h.area; spared = λ a o. refl; ports = refl; within = omega arith }

pub exit_called : OwnCalls EXIT exits
exit_called s regs z m off h =
    let x : Context = s.running.context in
    let stay : Stay = exits s in
    let Z : Aim = λ k q. KeepsRest s stay × Made m stay k q in
    let d : Registers = called_with x.regs regs in
    exit_shown m (all_placed m h.words) stay Z (λ k q y. (refl, y)) x.regs x.pc s.running.interrupts [] x.regs.r4 (starts d z m) (record { bytes = λ a e. refl; masked = off }) (starts_hold d z m s.running 130 h) refl
    (record { stop = Exit x.regs.r4; memory = s.memory; follows = (tt, refl); is = refl; stops = λ a b c. refl }) 202 (omega arith)
