-- Each call is served at the address that the tables have for it.
use Rattle.std.proofs.Common.{◌≡◌, ℕ, Bool, true, false, List, [], ◌∷◌, ◌++◌, Option, Some, None, refl, ap, ◌+◌, ◌%◌, ◌≤◌, subst, arith, ⊎_elim}
use Rattle.std.specs.Prelude.{unwrap_or, nat_le, if◌then◌else◌}
use Rattle.std.proofs.Math.Nat.{le-max_left, le-max_right}
use Rattle.std.proofs.lemmas.Bool.{and_parts, leb-true}
use Rattle.psx_base.specs.Memory.{Memory}
use Rattle.psx_base.specs.Context.{IsAtRest}
use Rattle.psx_base.specs.Registers.{Registers}
use Rattle.psx_base.specs.KernelState.{KernelState}
use Rattle.psx_cpu.specs.Processor.{Cop0}
use Rattle.kern_layout.specs.Stands.{HoldsRom}
use Rattle.abs_kernel.specs.declared.calls.CallId.{CallId}
use Rattle.abs_kernel.specs.declared.calls.CallId.TheVariants.{A06, A3A, B38}
use Rattle.abs_kernel.specs.Calls.{call}
use Rattle.abs_kernel.specs.CallTable.{same_call}
use Rattle.kern_stay.specs.Doors.{IsServed, Arrives, AtWork, called_with, most_steps, most_heap_steps, most_back_steps, most_interrupt_steps}
use Rattle.kern_stay.specs.Loops.{IsServedBy}
use Rattle.kern_stay.specs.Stages.{IsServedIn}
use Rattle.kern_stay.specs.Served.{EachAt, AllServed}
use Rattle.kern_entry.specs.declared.places.TheConstants.{EXIT, BACK, DELIVER, INTERRUPTS}
use Rattle.kern_entry.specs.EntryLaws.{Routine, OfCall, OfBack, OfDelivery, OfInterrupt, stay_by, place_by, kernel_at}
use Rattle.kern_entry.specs.Holding.{HoldsEntry}
use Rattle.abs_kernel.specs.Returning.{comes_back}
use Rattle.abs_kernel.specs.Sys.{sys_delivers}
use Rattle.abs_kernel.specs.Interrupt.{handles_interrupt}
use Rattle.abs_kernel.specs.Answered.{registers_of}
use Rattle.kern_entry.proofs.Joins.{exit_called}
use Rattle.kern_entry.proofs.TasksServe.{work_serves, deliver_serves, interrupt_serves}
use Rattle.kern_entry.proofs.FramesServe.{push_serves, take_up_serves, back_serves}
use denote.Enum.Bare.{same_true}
use Rattle.abs_kernel.specs.contracts.calls.CallId.{the_type}
use Rattle.kern_thread.specs.ThreadLaws.{thread_calls}
use Rattle.kern_thread.proofs.Served.{thread_serves}
use Rattle.kern_event.specs.EventLaws.{event_calls}
use Rattle.kern_event.proofs.Served.{event_serves}
use Rattle.kern_timer.specs.TimerLaws.{timer_calls}
use Rattle.kern_timer.proofs.Served.{timer_serves}
use Rattle.kern_mem.specs.MemLaws.{mem_calls}
use Rattle.kern_mem.proofs.Served.{mem_serves}
use Rattle.kern_text.specs.TextLaws.{text_calls}
use Rattle.kern_text.proofs.Served.{text_serves}
use Rattle.kern_printf.specs.PrintfLaws.{printf_calls}
use Rattle.kern_printf.proofs.Served.{printf_serves}
use Rattle.kern_heap.specs.HeapLaws.{heap_calls}
use Rattle.kern_heap.proofs.Served.{heap_serves}
use Rattle.kern_file.specs.FileLaws.{file_calls}
use Rattle.kern_file.proofs.Served.{file_serves}
use Rattle.kern_image.specs.Words.{joined}
use Rattle.kern_image.specs.Rom.{rom}
use Rattle.kern_image.specs.Tables.{routine_of}
use Rattle.kern_image.proofs.StaysBounds.{most_of, may_make, limit_by}
use Rattle.kern_image.proofs.StaysThrough.{Onward}
use Rattle.kern_image.proofs.StaysWork.{at_work}
use Rattle.kern_image.proofs.StaysDoors.{at_core, IsValid}
use Rattle.abs_run.specs.Serves.{Runs}
use Rattle.kern_image.proofs.StaysServed.{work_limit, Serving, serving_more, by_listing, by_within, by_own}
use Rattle.kern_image.proofs.StaysLoops.{by_loop}
use Rattle.kern_image.proofs.StaysStages.{by_stages}
use Rattle.kern_image.proofs.StaysHeld.{holds_entry, pieces}

-- ---- a call among others

same_is : (a b : CallId) → same_call a b ≡ true → a ≡ b
same_is a b h = same_true the_type tt a b h

-- the address that a list has for a call
abbrev find : List (CallId × ℕ) → CallId → Option ℕ
find [] id = None
find (p ∷ ps) id = if same_call p.0 id then Some p.1 else find ps id

found : (P : CallId → ℕ → Type 0) (ps : List (CallId × ℕ)) (id : CallId) (at : ℕ) → EachAt P ps → find ps id ≡ Some at → P id at
found P [] id at h e = absurd (cc)
found P (p ∷ ps) id at h e = go (same_call p.0 id) refl (λ q. found P ps id at h.1 q) e
  where
    go : (b : Bool) → same_call p.0 id ≡ b → (find ps id ≡ Some at → P id at) → (if b then Some p.1 else find ps id) ≡ Some at → P id at
    go true w later q = subst (λ i. P i at) (same_is p.0 id w) (subst (P p.0) (ap (λ o. unwrap_or o 0) q) h.0)
    go false w later q = later q

each_both : (P : CallId → ℕ → Type 0) (ps qs : List (CallId × ℕ)) → EachAt P ps → EachAt P qs → EachAt P (ps ++ qs)
each_both P [] qs h g = g
each_both P (p ∷ ps) qs h g = (h.0, each_both P ps qs h.1 g)

abbrev EachCrate : (CallId → ℕ → Type 0) → List (List (CallId × ℕ)) → Type 0
EachCrate P [] = Unit {0}
EachCrate P (ps ∷ pss) = EachAt P ps × EachCrate P pss

each_joined : (P : CallId → ℕ → Type 0) (pss : List (List (CallId × ℕ))) → EachCrate P pss → EachAt P (joined pss)
each_joined P [] h = tt
each_joined P (ps ∷ pss) h = each_both P ps (joined pss) h.0 (each_joined P pss h.1)

-- ---- all calls

-- those of the entry's crate
abbrev entry_calls : List (CallId × ℕ)
entry_calls = (A06, EXIT) ∷ (A3A, EXIT) ∷ (B38, EXIT) ∷ []

-- crate by crate
abbrev all_calls : List (List (CallId × ℕ))
all_calls = entry_calls ∷ thread_calls ∷ event_calls ∷ timer_calls ∷ mem_calls ∷ text_calls ∷ printf_calls ∷ heap_calls ∷ file_calls ∷ []

-- the tables have each call at its crate's address
placed : (id : CallId) → find (joined all_calls) id ≡ Some (routine_of id)
placed A06 = refl
placed _ = refl

module _ (m : Memory) (code : HoldsRom m rom) where
  abbrev words : HoldsEntry m
  words = holds_entry m code

  onward : Onward rom m words code AtWork work_limit
  onward = at_work rom work_serves push_serves take_up_serves m words code

  -- with its bound, and the steps behind its door
  abbrev ServingAt : CallId → ℕ → Type 0
  ServingAt id at = Serving rom m words code (limit_by (OfCall id)) (call id) at

  within : (few : ℕ) (id : CallId) (at : ℕ) → few ≤ 73 + most_of id → Serving rom m words code few (call id) at → ServingAt id at
  within few id at less s =
      let more = le-max_left (73 + most_of id) (most_steps + work_limit) in
      serving_more rom m words code few (limit_by (OfCall id)) (call id) at (omega (arith, less, more)) s

  by_entry : EachAt ServingAt entry_calls
  by_entry = let exit = within 203 A06 EXIT (omega arith) (by_own rom m words code (call A06) EXIT exit_called) in (exit, (exit, (exit, tt)))

  by_crate : (most : ℕ) (ps : List (CallId × ℕ)) → may_make most ps ≡ true → AllServed m most ps → EachAt ServingAt ps
  by_crate most [] may h = tt
  by_crate most (p ∷ ps) may h =
      let few = and_parts (nat_le most (most_of p.0)) (may_make most ps) may in
      let less : 73 + most ≤ 73 + most_of p.0 = (let q = leb-true most (most_of p.0) few.0 in omega (arith, q)) in
      let more = le-max_left (73 + most_of p.0) (most_steps + work_limit) in
      let room = le-max_right (73 + most_of p.0) (most_steps + work_limit) in
      let one = λ (s : IsServed m most (call p.0) p.1). by_listing rom m words code most (limit_by (OfCall p.0)) onward (call p.0) p.1 (omega (arith, less, more)) room s in
      let two = λ (s : IsServedBy m most (call p.0) p.1). within (73 + most) p.0 p.1 less (by_loop rom m words code most (call p.0) p.1 s) in
      let several = λ (s : IsServedIn m most (call p.0) p.1). within (73 + most) p.0 p.1 less (by_stages rom m words code most (call p.0) p.1 s) in
      (⊎_elim one (⊎_elim two several) h.0, by_crate most ps few.1 h.1)

  all_serve : EachCrate ServingAt all_calls
  all_serve =
      let w = (pieces m code).1.1.1 in
      let by_thread = by_crate most_steps thread_calls refl (thread_serves m w.0) in
      let by_event = by_crate most_steps event_calls refl (event_serves m w.1.0) in
      let by_timer = by_crate most_steps timer_calls refl (timer_serves m w.1.1.0) in
      let by_mem = by_crate most_steps mem_calls refl (mem_serves m w.1.1.1.0) in
      let by_text = by_crate most_steps text_calls refl (text_serves m w.1.1.1.1.0) in
      let by_printf = by_crate most_steps printf_calls refl (printf_serves m w.1.1.1.1.1.0) in
      let by_heap = by_crate most_heap_steps heap_calls refl (heap_serves m w.1.1.1.1.1.1.0) in
      let by_file = by_crate most_steps file_calls refl (file_serves m w.1.1.1.1.1.1.1.0) in
      (by_entry, (by_thread, (by_event, (by_timer, (by_mem, (by_text, (by_printf, (by_heap, (by_file, tt)))))))))

  pub served : (id : CallId) → ServingAt id (routine_of id)
  served id = found ServingAt (joined all_calls) id (routine_of id) (each_joined ServingAt all_calls all_serve) (placed id)

  -- what is asked of the state in which a routine is entered
  abbrev pub Asks : Routine → KernelState → Type 0
  Asks (OfCall id) u = Unit {0}
  Asks OfBack u = Unit {0}
  Asks OfDelivery u = Unit {0}
  Asks OfInterrupt u = IsAtRest u.running.context

  -- and the entry's own, which go on to the tasks
  pub routine_served : (r : Routine) (a b c : ℕ) (u : KernelState) (regs : Registers) (z : Cop0) → IsValid (stay_by r u) → Arrives u m → Asks r u → z.sr % 2 ≡ 0
      → Runs rom (stay_by r u) (limit_by r) (at_core rom a b c (kernel_at (called_with (registers_of u) regs) z m (place_by routine_of r)))
  routine_served (OfCall id) a b c u regs z v h asked off = served id a b c u regs z v h off
  routine_served OfBack a b c u regs z v h asked off = by_listing rom m words code most_back_steps (limit_by OfBack) onward comes_back BACK (omega arith) (omega arith) (back_serves m words) a b c u regs z v h off
  routine_served OfDelivery a b c u regs z v h asked off = by_listing rom m words code most_back_steps (limit_by OfDelivery) onward sys_delivers DELIVER (omega arith) (omega arith) (deliver_serves m words) a b c u regs z v h off
  routine_served OfInterrupt a b c u regs z v h asked off = by_within rom m words code most_interrupt_steps (limit_by OfInterrupt) onward handles_interrupt INTERRUPTS (omega arith) (omega arith) (interrupt_serves m words) a b c u regs z v h asked off
