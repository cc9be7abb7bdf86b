-- From each listing of an interrupt on the words finish: to WORK, to the call of a function or the taking up of a context, and back to the program.
use Rattle.std.proofs.Common.{◌≡◌, ℕ, suc, ◌+◌, ◌%◌, inl, inr, List, [], ◌++◌, length, Bool, true, false, refl, sym, subst, arith}
use Rattle.std.specs.Prelude.{nat_eq, nat_lt, if◌then◌else◌}
use Rattle.psx_base.specs.Memory.{Memory}
use Rattle.psx_base.specs.Registers.{Registers}
use Rattle.psx_base.specs.Context.{IsAtRest}
use Rattle.psx_base.specs.declared.stop.Stop.TheVariants.{Deep}
use Rattle.psx_base.specs.KernelState.{ThreadContext, Task, Frame, KernelState}
use Rattle.psx_cpu.specs.Processor.{Cop0}
use Rattle.psx_flow.specs.Kernel.{kernel_words}
use Rattle.psx_flow.specs.Meets.{Goal, Meets, calls}
use Rattle.psx_flow.specs.Plain.{kernel_core}
use Rattle.psx_flow.specs.Reaches.{IsPlaced, ArePlaced, Keeps}
use Rattle.psx_flow.specs.Run.{Run, state_at}
use Rattle.psx_flow.specs.Tree.{Tree}
use Rattle.kern_layout.specs.Stands.{HoldsRom}
use Rattle.kern_layout.specs.Valid.{Valid}
use Rattle.abs_kernel.specs.Stay.{Stay, Return, Halt, Ask, Tell, Write, Touch}
use Rattle.abs_kernel.specs.Callback.{callback, pushed, calls_back}
use Rattle.abs_kernel.specs.Answered.{registers_of}
use Rattle.abs_kernel.specs.Interrupt.{handles_interrupt}
use Rattle.kern_stay.specs.declared.places.TheConstants.{WORK, PUSH, TAKE_UP}
use Rattle.kern_stay.specs.Shared.{tested_there}
use Rattle.kern_stay.specs.Follows.{after}
use Rattle.kern_stay.specs.Doors.{BeginsWork, AtWorkBegun, AtCall, Behind, GoesOnWithin, Arrives, called_with, begun, most_push_steps, most_begun_steps, most_interrupt_steps}
use Rattle.kern_entry.specs.declared.places.TheConstants.{INTERRUPTS}
use Rattle.kern_entry.specs.Holding.{HoldsEntry}
use Rattle.kern_entry.specs.Within.{Aim}
use Rattle.kern_entry.proofs.Placed.{all_placed}
use Rattle.kern_entry.proofs.TasksServe.{work_serves, interrupt_serves, begun_work_serves}
use Rattle.kern_entry.proofs.FramesServe.{push_serves, take_up_serves}
use Rattle.kern_entry.proofs.Walk.{walk_placed}
use Rattle.kern_entry.proofs.WalkSteps.{Backs}
use Rattle.kern_image.proofs.StaysMade.{split}
use Rattle.kern_image.proofs.StaysStage.{after_ends}
use Rattle.kern_image.proofs.StaysDoors.{at_core, IsValid, entry_kept, rom_kept}
use Rattle.kern_image.proofs.StaysThrough.{both_placed}
use Rattle.kern_image.proofs.StaysWork.{at_call}
use Rattle.kern_image.proofs.FinishSteps.{IsEnd, end_finishes, Finishing, finishing_least, finishing_back}

-- what is left may be that behind what is touched first
behind_finishing : (P : Stay → Type 0) (G : Type 0) (stay : Stay) → IsValid stay → ((x : Stay) → IsValid x → P x → G) → Behind P stay → G
behind_finishing P G (Touch bytes next) v f (inl h) = f (Touch bytes next) v h
behind_finishing P G (Touch bytes next) v f (inr h) = behind_finishing P G next v f h
behind_finishing P G (Return state) v f h = f (Return state) v h
behind_finishing P G (Halt stop memory) v f h = f (Halt stop memory) v h
behind_finishing P G (Ask port next) v f h = f (Ask port next) v h
behind_finishing P G (Tell port value next) v f h = f (Tell port value next) v h
behind_finishing P G (Write byte next) v f h = f (Write byte next) v h

-- the aim of a walk, with the steps behind it
abbrev FinishingBehind : (rest : ℕ) → ℕ → Aim
FinishingBehind rest j k q = Finishing (rest + j) k q

backs : (rest : ℕ) → Backs (FinishingBehind rest)
backs rest = record { back = λ j k q f. let e : suc (rest + j) ≡ rest + suc j = omega arith in subst (λ i. Finishing i k q) e (finishing_back (rest + j) k q f) }

module _ (rom : List ℕ) (m : Memory) (words : HoldsEntry m) (code : HoldsRom m rom) where
  -- at a further door the words finish in so many steps
  abbrev pub Onward : (Stay → (to : ℕ) → Goal) → (rest : ℕ) → Type 0
  Onward further rest = (x : Stay) → IsValid x → (to : ℕ) (e : Run) → Keeps kernel_words m e → further x to e → Finishing rest (kernel_core (state_at e to)) e.seen

  -- a listing that goes on to further doors
  stage : (further : Stay → (to : ℕ) → Goal) (rest flat : ℕ) → Onward further rest → (stay : Stay) → IsValid stay → (T : Tree) (at : ℕ) → IsPlaced kernel_words m at T → (regs : Registers) (z : Cop0) → z.sr % 2 ≡ 0
      → (own : List (ℕ × Tree)) → ArePlaced kernel_words m own → Meets kernel_words (calls kernel_words (own ++ tested_there)) T at (λ _. ⊥) (λ to e. GoesOnWithin further stay flat to e) (begun regs z m)
      → Finishing (rest + flat) (kernel_core (state_at (begun regs z m) at)) []
  stage further rest flat onward stay valid T at placed regs z off own there h =
      walk_placed kernel_words m (FinishingBehind rest) (backs rest) flat (own ++ tested_there) (both_placed m own tested_there there (all_placed m words).tested) T at (λ _. ⊥) (λ to e. GoesOnWithin further stay flat to e) flat (begun regs z m) (omega arith) placed (record { bytes = λ x e. refl; masked = off }) (record {
        low = λ e x. absurd x;
        low_jump = λ to e g. g.goes.0;
        here = λ e ke x. absurd x;
        jump = λ to e ke g j less. finishing_least rest (rest + j) (kernel_core (state_at e to)) e.seen e.seen (omega arith)
            (behind_finishing (λ x. further x to e) (Finishing rest (kernel_core (state_at e to)) e.seen) (after stay g.told) (after_ends Valid (λ stop memory. Unit {0}) stay g.told valid) (λ x v f. onward x v to e ke f) g.goes.2);
      }) h flat (omega arith)

-- ---- the doors

calls_end : (s : KernelState) (c : ThreadContext) (left : List Task) (f a ra : ℕ) → IsEnd (calls_back s c left f a ra)
calls_end s c left f a ra = go (nat_lt (length s.frames) 8)
  where
    kept : Frame
    kept = record { context = c; tasks = left }

    go : (b : Bool) → IsEnd (if b then Return (record (pushed s kept) { running = callback c.context f a }) else Halt (Deep ra) s.memory)
    go true = tt
    go false = tt

at_end : (x : Stay) (to : ℕ) (e : Run) → AtCall x to e → IsEnd x
at_end x to e h =
    split (nat_eq to PUSH) _ _ (IsEnd x) (λ is y. subst IsEnd (sym y.is) (calls_end y.state y.context y.tasks e.regs.r16 e.regs.r17 e.regs.r18))
    (λ no z. split (nat_eq to TAKE_UP) _ _ (IsEnd x) (λ is y. subst IsEnd (sym y.is) tt) (λ other y. absurd y) z) h

-- the steps from WORK on, where no task is under way
abbrev pub after_work : ℕ
after_work = 73 + most_push_steps + most_begun_steps

module _ (rom : List ℕ) where
  call_finishes : (m : Memory) (words : HoldsEntry m) (code : HoldsRom m rom) → Onward rom m words code AtCall (73 + most_push_steps)
  call_finishes m words code x v to e ke h = λ a b c.
      end_finishes rom x (73 + most_push_steps) (at_core rom a b c (kernel_core (state_at e to))) (at_end x to e h) (at_call rom work_serves push_serves take_up_serves m words code a b c x v to e ke h)

  work_finishes : (m : Memory) (words : HoldsEntry m) (code : HoldsRom m rom) → Onward rom m words code AtWorkBegun after_work
  work_finishes m words code x v to e ke h =
      let n : Memory = e.bytes in
      let w : HoldsEntry n = entry_kept rom 0 0 0 m n ke.bytes words in
      let k : HoldsRom n rom = rom_kept rom 0 0 0 m n ke.bytes code in
      let y = h.1.works in
      let l = begun_work_serves n w in
      let door : BeginsWork x (begun e.regs e.cop0 n) = record { works = record { state = y.state; context = y.context; tasks = y.tasks; is = y.is; working = y.working; holds = y.holds; there = y.there }; none = h.1.none } in
      subst (λ j. Finishing after_work (kernel_core (state_at e j)) e.seen) (sym h.0)
      (stage rom n w k AtCall (73 + most_push_steps) most_begun_steps (call_finishes n w k) x v l.listing WORK l.placed e.regs e.cop0 ke.masked l.own l.own_placed (l.makes x e.regs e.cop0 n door))

  -- from the listing of interrupts on
  pub interrupt_finishes : (m : Memory) → HoldsEntry m → HoldsRom m rom → (s : KernelState) (regs : Registers) (z : Cop0) → z.sr % 2 ≡ 0 → Arrives s m → IsAtRest s.running.context → IsValid (handles_interrupt s)
      → Finishing (after_work + most_interrupt_steps) (kernel_core (state_at (begun (called_with (registers_of s) regs) z m) INTERRUPTS)) []
  interrupt_finishes m words code s regs z off arrives rests valid =
      let l = interrupt_serves m words in
      stage rom m words code AtWorkBegun after_work most_interrupt_steps (work_finishes m words code) (handles_interrupt s) valid l.listing INTERRUPTS l.placed (called_with (registers_of s) regs) z off l.own l.own_placed (l.serves s regs z m arrives rests)
