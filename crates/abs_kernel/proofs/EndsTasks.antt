-- The ends of stays in which tasks are done: they change the threads, the events and the frames alone.
use Rattle.std.proofs.Common.{◌≡◌, ℕ, zero, suc, ◌-◌, List, [], ◌∷◌, ◌++◌, length, refl, sym, ap, subst}
use Rattle.std.specs.Prelude.{Option, Some, None, nat_eq, nat_lt, slice_set, if◌then◌else◌}
use Rattle.psx_base.specs.declared.stop.Stop.{Stop}
use Rattle.psx_base.specs.Addresses.{place}
use Rattle.psx_base.specs.Memory.{Memory, word}
use Rattle.psx_base.specs.Context.{IsAtRest}
use Rattle.psx_base.specs.KernelState.{ThreadContext, Task, Element, Second, Line, Scan, Frame, KernelState}
use Rattle.kern_layout.specs.declared.places.TheConstants.{FRAME_BLOCKS}
use Rattle.kern_layout.specs.Reads.{thread, event}
use Rattle.kern_layout.specs.Valid.{Valid}
use Rattle.abs_kernel.specs.Stay.{Stay, Return, Halt, Ask, Tell, Write, Touch}
use Rattle.abs_kernel.specs.Answered.{registers_of}
use Rattle.abs_kernel.specs.Changes.{AndFrames, Changed}
use Rattle.abs_kernel.specs.StayLaws.{EachEnd, EachReturn}
use Rattle.abs_kernel.specs.Switching.{keeps, context_of}
use Rattle.abs_kernel.specs.Callback.{callback, calls_back}
use Rattle.abs_kernel.specs.Scan.{is_marked, is_called, made_ready, with_ready, scan}
use Rattle.abs_kernel.specs.TakingUp.{taken_up, resumed_by, resumed}
use Rattle.abs_kernel.specs.Tasks.{first_of, second_of, reads_function, class_of_line, SPEC_OF_LINES, work}
use Rattle.abs_kernel.specs.Interrupt.{interrupted, interrupt_tasks, interrupts}
use Rattle.abs_kernel.specs.Returning.{innermost, popped, pops_by, pops, comes_back, return_from_exception, delivers}
use Rattle.abs_kernel.specs.WorkLaws.{GoesOn}
use Rattle.abs_kernel.proofs.Ending.{Returns, if_ends, at_rest}
use Rattle.abs_kernel.proofs.Worked.{back_keeps_valid, delivery_keeps_valid}
use Rattle.abs_kernel.proofs.Interrupted.{interrupted_valid, interrupt_keeps_valid}

-- what holds of a state while tasks are done before a context is taken up, and then at the ends
module _ (P : KernelState → Type 0) (Q : Stop → Memory → Type 0) (B : KernelState → Type 0)
    (ready : (t : KernelState) (i : ℕ) → B t → B (with_ready t i)) (c : ThreadContext)
    (calls : (t : KernelState) (ts : List Task) (f argument ra : ℕ) → B t → EachEnd P Q (calls_back t c ts f argument ra))
    (resumes : (t : KernelState) → B t → EachEnd P Q (resumed t c)) where
  scan_by : (n class spec i : ℕ) (s : KernelState) (done : KernelState → Stay) (called : KernelState → (function from : ℕ) → Stay)
      → ((t : KernelState) → B t → EachEnd P Q (done t)) → ((t : KernelState) (f j : ℕ) → B t → EachEnd P Q (called t f j)) → B s → EachEnd P Q (scan n class spec i s done called)
  scan_by zero class spec i s done called d c b = d s b
  scan_by (suc n) class spec i s done called d c b =
      let e = event s i in
      if_ends P Q (is_marked class spec e) _ _ (scan_by n class spec (suc i) (with_ready s i) done called d c (ready s i b))
      (if_ends P Q (is_called class spec e) _ _ (c s e.function (suc i) b) (scan_by n class spec (suc i) s done called d c b))

  function_by : (s : KernelState) (at : ℕ) (on : Stay) (called : ℕ → Stay) → EachEnd P Q on → ((f : ℕ) → EachEnd P Q (called f)) → EachEnd P Q (reads_function s at (λ f. if nat_eq f 0 then on else called f))
  function_by s at on called h g = let f = word s.memory (place at) in if_ends P Q (nat_eq f 0) on (called f) h (g f)

  pub work_by : (s : KernelState) (ts : List Task) (value ra : ℕ) → B s → EachEnd P Q (work s c ts value ra)
  work_by s [] value ra b = resumes s b
  work_by s (Element e ∷ ts) value ra b = function_by s (first_of e) _ (λ f. calls_back s c (Second e ∷ ts) f 0 ra) (work_by s ts value ra b) (λ f. calls s (Second e ∷ ts) f 0 ra b)
  work_by s (Second e ∷ ts) value ra b =
      if_ends P Q (nat_eq value 0) _ _ (work_by s ts value ra b) (function_by s (second_of e) _ (λ f. calls_back s c ts f value ra) (work_by s ts value ra b) (λ f. calls s ts f value ra b))
  work_by s (Line n ∷ ts) value ra b =
      scan_by (length s.events) (class_of_line n) SPEC_OF_LINES 0 s _ _ (λ t h. work_by t ts value ra h) (λ t f i h. calls t (Scan (class_of_line n) SPEC_OF_LINES i ∷ ts) f 0 ra h) b
  work_by s (Scan class spec from ∷ ts) value ra b =
      scan_by (length s.events - from) class spec from s _ _ (λ t h. work_by t ts value ra h) (λ t f i h. calls t (Scan class spec i ∷ ts) f 0 ra h) b

-- the innermost frame is taken away
pub pops_by_frame : (P : KernelState → Type 0) (Q : Stop → Memory → Type 0) (s : KernelState) (next : Frame → Stay) → ((stop : Stop) → Q stop s.memory) → ((f : Frame) → innermost s.frames ≡ Some f → EachEnd P Q (next f)) → EachEnd P Q (pops s next)
pops_by_frame P Q s next halts h = by (innermost s.frames) refl
  where
    by : (o : Option Frame) → innermost s.frames ≡ o → EachEnd P Q (pops_by s next o)
    by None e = halts _
    by (Some f) e = h f e

-- ---- what is changed

module _ (s : KernelState) where
  abbrev pub Framed : KernelState → Type 0
  Framed t = Changed AndFrames s t

  abbrev pub AsItIs : Stop → Memory → Type 0
  AsItIs stop memory = memory ≡ s.memory

  ready_framed : (t : KernelState) (i : ℕ) → Framed t → Framed (with_ready t i)
  ready_framed t i e = ap (λ (u : KernelState). record u { events = slice_set t.events i (made_ready (event t i)) }) e

  calls_framed : (t : KernelState) (c : ThreadContext) (ts : List Task) (f argument ra : ℕ) → Framed t → EachEnd Framed AsItIs (calls_back t c ts f argument ra)
  calls_framed t c ts f argument ra e =
      if_ends Framed AsItIs (nat_lt (length t.frames) FRAME_BLOCKS) _ _
      (ap (λ (u : KernelState). record u { frames = t.frames ++ (record { context = c; tasks = ts } ∷ []); running = callback c.context f argument }) e)
      (ap (λ (u : KernelState). u.memory) e)

  resumed_framed : (t : KernelState) (c : ThreadContext) (o : Option ℕ) (fs : List Frame) → Framed t → Framed (resumed_by t c o fs)
  resumed_framed t c None fs e = ap (λ (u : KernelState). record u { running = taken_up c }) e
  resumed_framed t c (Some n) [] e =
      ap (λ (u : KernelState). record u { threads = slice_set t.threads t.current (keeps (taken_up c) (thread t t.current)); current = n; running = context_of (thread t n); next = None }) e
  resumed_framed t c (Some n) (f ∷ fs) e = ap (λ (u : KernelState). record u { running = taken_up c }) e

  resumes_framed : (t : KernelState) (c : ThreadContext) → Framed t → EachEnd Framed AsItIs (resumed t c)
  resumes_framed t c e = resumed_framed t c t.next t.frames e

  work_framed : (t : KernelState) (c : ThreadContext) (ts : List Task) (value ra : ℕ) → Framed t → EachEnd Framed AsItIs (work t c ts value ra)
  work_framed t c ts value ra e = work_by Framed AsItIs Framed ready_framed c (λ u us f argument at b. calls_framed u c us f argument at b) (λ u b. resumes_framed u c b) t ts value ra e

  pops_framed : (next : Frame → Stay) → ((f : Frame) → EachEnd Framed AsItIs (next f)) → EachEnd Framed AsItIs (pops s next)
  pops_framed next h = pops_by_frame Framed AsItIs s next (λ stop. refl) (λ f e. h f)

-- ---- the stays

module _ (P : KernelState → Type 0) (Q : Stop → Memory → Type 0) (s : KernelState) (halts : (stop : Stop) → Q stop s.memory) (returns : Returns AndFrames P s) where
  framed_ends : (stay : Stay) → EachEnd (Framed s) (AsItIs s) stay → (Valid s → EachReturn GoesOn stay) → EachEnd P Q stay
  framed_ends (Return t) e v = subst P (sym e) (returns t.threads t.current t.next t.events t.frames t.running.context t.running.interrupts (λ valid. subst GoesOn e (v valid)))
  framed_ends (Halt stop memory) e v = subst (Q stop) (sym e) (halts stop)
  framed_ends (Ask port next) e v = λ value. framed_ends (next value) (e value) (λ valid. v valid value)
  framed_ends (Tell port value next) e v = framed_ends next e v
  framed_ends (Write byte next) e v = framed_ends next e v
  framed_ends (Touch bytes next) e v = framed_ends next e v

  pub back_ends : EachEnd P Q (comes_back s)
  back_ends = framed_ends (comes_back s) (pops_framed s _ (λ f. work_framed s (popped s) f.context f.tasks (registers_of s).r2 (registers_of s).r31 refl)) (λ v. (back_keeps_valid s v).0)

  pub from_exception_ends : EachEnd P Q (return_from_exception s)
  from_exception_ends = framed_ends (return_from_exception s) (pops_framed s _ (λ f. resumes_framed s (popped s) f.context refl)) (λ v. (back_keeps_valid s v).1)

  pub delivery_ends : (c : ThreadContext) (class spec ra : ℕ) → IsAtRest c.context → EachEnd P Q (delivers s c class spec ra)
  delivery_ends c class spec ra rests =
      framed_ends (delivers s c class spec ra) (work_framed s s c (Scan class spec 0 ∷ []) 0 ra refl) (λ v. delivery_keeps_valid s c class spec ra v rests)

  pub interrupt_ends : EachEnd P Q (interrupts s)
  interrupt_ends =
      let t : KernelState = interrupted s in
      framed_ends (interrupts s) (λ stat mask. work_framed s t t.running (interrupt_tasks t stat mask) 0 t.running.context.pc refl) (λ v. interrupt_keeps_valid t (interrupted_valid s v) (at_rest s.running.context _))
