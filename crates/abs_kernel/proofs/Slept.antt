-- A frame keeps its context until it has gone, and then this is taken up; and a thread that a callback has named runs in its stead.
use Rattle.std.proofs.Common.{◌≡◌, ◌≢◌, Bool, ℕ, zero, suc, ◌<◌, ◌≤◌, ◌⊎◌, inl, inr, true, false, List, [], ◌∷◌, ◌++◌, Option, Some, None, length, refl, sym, ap, ◌∙◌, subst, arith, ⊎_elim, ne_eqb, get_or-set_same}
use Rattle.std.specs.Prelude.{nat_eq, nat_lt, ◌||◌, slice_index_or, slice_set, if◌then◌else◌}
use Rattle.std.proofs.Math.Seq.{get_or-append_seam}
use Rattle.std.proofs.lemmas.Bool.{cases_lt, false≢true}
use Rattle.std.proofs.lemmas.List.{length_push, length-set, get_or_append_left, get_or_past}
use Rattle.psx_base.specs.declared.stop.Table.{Table}
use Rattle.psx_base.specs.declared.stop.Table.TheVariants.{A, B, C}
use Rattle.psx_base.specs.Context.{IsAtRest, taken, epc_of}
use Rattle.psx_base.specs.Items.{Entrance, ByA, ByB, ByC, BySyscall, ByInterrupt, ByDone, ByBack, ByTrap}
use Rattle.psx_base.specs.KernelState.{ThreadContext, Thread, Free, Used, Task, Scan, Frame, KernelState}
use Rattle.kern_layout.specs.declared.places.TheConstants.{FRAME_BLOCKS}
use Rattle.kern_layout.specs.Reads.{thread, frame, no_frame}
use Rattle.kern_layout.specs.Valid.{NextFits, Valid}
use Rattle.abs_kernel.specs.declared.calls.CallId.{CallId}
use Rattle.abs_kernel.specs.declared.calls.CallId.TheVariants.{B07, B0E, B0F, B10, B17}
use Rattle.abs_kernel.specs.CallTable.{served_call}
use Rattle.abs_kernel.specs.Cause.{entrance_of}
use Rattle.abs_kernel.specs.Stay.{Stay}
use Rattle.abs_kernel.specs.Answered.{registers_of, with_answer, answered}
use Rattle.abs_kernel.specs.Threads.{number_of, is_used, bad_thread}
use Rattle.abs_kernel.specs.OpenThread.{opens_from}
use Rattle.abs_kernel.specs.ChangeThread.{changes_to}
use Rattle.abs_kernel.specs.Switching.{keeps}
use Rattle.abs_kernel.specs.Callback.{calls_back}
use Rattle.abs_kernel.specs.TakingUp.{taken_up, resumed_by, resumed}
use Rattle.abs_kernel.specs.Tasks.{work}
use Rattle.abs_kernel.specs.Returning.{innermost, without_innermost, popped, pops}
use Rattle.abs_kernel.specs.Interrupt.{interrupted, interrupt_tasks}
use Rattle.abs_kernel.specs.Sys.{behind_syscall, SYSCALL_CLASS, SYSCALL_SPEC, syscall}
use Rattle.abs_kernel.specs.Calls.{call, by_row}
use Rattle.abs_kernel.specs.KernelStep.{settled_state, by_entrance, stay_of}
use Rattle.abs_kernel.specs.Changes.{Part, AndThreads, AndFrames, ContextAlone, changes, Changed, takes_up_another}
use Rattle.abs_kernel.specs.Played.{Returned}
use Rattle.abs_kernel.specs.StayLaws.{EachReturn}
use Rattle.abs_kernel.specs.ThreadLaws.{Move, Step, Stays, Moves}
use Rattle.abs_kernel.specs.InterruptLaws.{interrupted_context, ContextInterrupted, Sleeps, EntryTakesUp, Under, Woken, FrameTakesUp, ThreadTakesUp, NamesThread, Preempts}
use Rattle.abs_kernel.proofs.Ending.{if_ends_by, at_rest}
use Rattle.abs_kernel.proofs.EndsTasks.{work_by, pops_by_frame}
use Rattle.abs_kernel.proofs.UserSteps.{user_step_keeps_valid}
use Rattle.abs_kernel.proofs.Ends.{Any, valid_kept, halts_any, returns_changed, call_ends, syscall_ends}
use Rattle.abs_kernel.proofs.Lists.{of_end_is}
use Rattle.abs_kernel.proofs.Switched.{ends_mono, away_kept}
use Rattle.abs_kernel.proofs.Delivered.{taken_up_as_kept, named_is_taken_up}

-- ---- the innermost frame by its number

pub record Innermost (fs : List Frame) (k : ℕ) : Type 0 where
  pub is : innermost fs ≡ Some (slice_index_or fs k no_frame)
  pub count : length (without_innermost fs) ≡ k
  pub others : (j : ℕ) → j < k → slice_index_or (without_innermost fs) j no_frame ≡ slice_index_or fs j no_frame

pub innermost_by : (fs : List Frame) (k : ℕ) → length fs ≡ suc k → Innermost fs k
innermost_by [] k e = absurd (omega (arith, e))
innermost_by (f ∷ []) zero e = record { is = refl; count = refl; others = λ j lt. absurd (omega (arith, lt)) }
innermost_by (f ∷ []) (suc k) e = absurd (omega (arith, e))
innermost_by (f ∷ g ∷ fs) zero e = absurd (omega (arith, e))
innermost_by (f ∷ g ∷ fs) (suc k) e =
    let h = innermost_by (g ∷ fs) k (omega (arith, e)) in
    record { is = h.is; count = ap suc h.count; others = other h }
  where
    other : Innermost (g ∷ fs) k → (j : ℕ) → j < suc k → slice_index_or (f ∷ without_innermost (g ∷ fs)) j no_frame ≡ slice_index_or (f ∷ g ∷ fs) j no_frame
    other h zero lt = refl
    other h (suc j) lt = h.others j (omega (arith, lt))

some_is : (f g : Frame) → Some f ≡ Some g → f ≡ g
some_is f g e = ap (or_else f) e
  where
    or_else : Frame → Option Frame → Frame
    or_else d None = d
    or_else d (Some x) = x

-- ---- a state in which frame d keeps a context of the running thread

resumed_deep : (t : KernelState) (c : ThreadContext) (o : Option ℕ) (fs : List Frame) → 0 < length fs → resumed_by t c o fs ≡ record t { running = taken_up c }
resumed_deep t c None fs some = refl
resumed_deep t c (Some n) [] some = absurd (omega (arith, some))
resumed_deep t c (Some n) (f ∷ fs) some = refl

kept_there : (threads : List Thread) (n : ℕ) (c : ThreadContext) → is_used (slice_index_or (slice_set threads n (keeps c (slice_index_or threads n Free))) n Free) ≡ true → slice_index_or (slice_set threads n (keeps c (slice_index_or threads n Free))) n Free ≡ Used c
kept_there threads n c h = ⊎_elim
    (λ (lt : n < length threads). let same = get_or-set_same threads n now Free lt in same ∙ used (slice_index_or threads n Free) (sym (ap is_used same) ∙ h))
    (λ (le : length threads ≤ n). absurd (false≢true (sym (ap is_used (get_or_past (slice_set threads n now) n Free (let e = length-set threads n now in omega (arith, le, e)))) ∙ h)))
    (cases_lt n (length threads))
  where
    now : Thread
    now = keeps c (slice_index_or threads n Free)

    used : (t : Thread) → is_used (keeps c t) ≡ true → keeps c t ≡ Used c
    used Free e = absurd (false≢true e)
    used (Used x) e = refl

-- the thread that a valid state is to take up isn't the running one
another : (s : KernelState) (n : ℕ) → s.current ≡ n → (o : Option ℕ) → NextFits s o → (j : ℕ) → o ≡ Some j → j ≢ n
another s n at None fits j e = absurd (false≢true (ap (or_true false) e))
  where
    or_true : Bool → Option ℕ → Bool
    or_true d None = d
    or_true d (Some x) = true
another s n at (Some k) fits j e = λ is. fits.2 (ap (or_else k) e ∙ is ∙ sym at)
  where
    or_else : ℕ → Option ℕ → ℕ
    or_else d None = d
    or_else d (Some x) = x

module _ (s : KernelState) (n d : ℕ) (c : ThreadContext) (rests : IsAtRest c.context) (sleeps : Sleeps n d c s) (named : (j : ℕ) → s.next ≡ Some j → j ≢ n) where
  abbrev u : KernelState
  u = settled_state s

  abbrev Wakes : KernelState → Type 0
  Wakes t = Sleeps n d c t ⊎ Woken n d c t

  same : (t : KernelState) → t.current ≡ s.current → t.frames ≡ s.frames → Wakes t
  same t e f = inl (record { current = e ∙ sleeps.current; there = subst (λ fs. d < length fs) (sym f) sleeps.there; keeps = ap (λ fs. (slice_index_or fs d no_frame).context) f ∙ sleeps.keeps })

  -- ---- while tasks are done above the frame

  abbrev Deeper : KernelState → Type 0
  Deeper t = Sleeps n d c t

  deeper_calls : (t : KernelState) (x : ThreadContext) (ts : List Task) (f argument ra : ℕ) → Deeper t → EachReturn Wakes (calls_back t x ts f argument ra)
  deeper_calls t x ts f argument ra b = if_ends_by Wakes Any (nat_lt (length t.frames) FRAME_BLOCKS) _ _
      (λ e. let g : Frame = record { context = x; tasks = ts } in let count = length_push t.frames g in let there = b.there in
      inl (record { current = b.current; there = omega (arith, count, there); keeps = ap (λ (y : Frame). y.context) (get_or_append_left t.frames (g ∷ []) no_frame d there) ∙ b.keeps })) (λ e. tt)

  deeper_resumed : (t : KernelState) (x : ThreadContext) → Deeper t → Wakes (resumed_by t x t.next t.frames)
  deeper_resumed t x b = subst Wakes (sym (resumed_deep t x t.next t.frames (let there = b.there in omega (arith, there)))) (inl (record { current = b.current; there = b.there; keeps = b.keeps }))

  deeper_work : (t : KernelState) (x : ThreadContext) (ts : List Task) (value ra : ℕ) → Deeper t → EachReturn Wakes (work t x ts value ra)
  deeper_work t x ts value ra b =
      work_by Wakes Any Deeper (λ v i h. record { current = h.current; there = h.there; keeps = h.keeps }) x (λ v us f argument at h. deeper_calls v x us f argument at h) (λ v h. deeper_resumed v x h) t ts value ra b

  settled_deeper : Deeper u
  settled_deeper = record { current = sleeps.current; there = sleeps.there; keeps = sleeps.keeps }

  -- ---- while its own tasks are done

  record Taken (t : KernelState) : Type 0 where
    current : t.current ≡ n
    count : length t.frames ≡ d
    other : (j : ℕ) → t.next ≡ Some j → j ≢ n

  taken_calls : (t : KernelState) (ts : List Task) (f argument ra : ℕ) → Taken t → EachReturn Wakes (calls_back t c ts f argument ra)
  taken_calls t ts f argument ra b = if_ends_by Wakes Any (nat_lt (length t.frames) FRAME_BLOCKS) _ _
      (λ e. let g : Frame = record { context = c; tasks = ts } in let more = length_push t.frames g in let count = b.count in
      inl (record { current = b.current; there = omega (arith, more, count); keeps = ap (λ k. (slice_index_or (t.frames ++ (g ∷ [])) k no_frame).context) (sym count) ∙ ap (λ (y : Frame). y.context) (get_or-append_seam t.frames g [] no_frame) })) (λ e. tt)

  taken_resumed : (t : KernelState) (o : Option ℕ) (fs : List Frame) → t.frames ≡ fs → t.next ≡ o → Taken t → Wakes (resumed_by t c o fs)
  taken_resumed t None fs e next b = inr (record { frames = b.count; goes_on = inl (b.current, taken_up_as_kept c rests) })
  taken_resumed t (Some j) [] e next b = inr (record {
    frames = b.count;
    goes_on = inr (
      b.other j next,
      λ h. let at = b.current in subst (λ k. thread (resumed_by t c (Some j) []) k ≡ Used c) at
          (kept_there t.threads t.current (taken_up c) (subst (λ k. is_used (thread (resumed_by t c (Some j) []) k) ≡ true) (sym at) h) ∙ ap Used (taken_up_as_kept c rests)),
    );
  })
  taken_resumed t (Some j) (f ∷ fs) e next b = inr (record { frames = b.count; goes_on = inl (b.current, taken_up_as_kept c rests) })

  taken_work : (t : KernelState) (ts : List Task) (value ra : ℕ) → Taken t → EachReturn Wakes (work t c ts value ra)
  taken_work t ts value ra b =
      work_by Wakes Any Taken (λ v i h. record { current = h.current; count = h.count; other = h.other }) c (λ v us f argument at h. taken_calls v us f argument at h) (λ v h. taken_resumed v v.next v.frames refl refl h) t ts value ra b

  -- ---- a frame is taken away: the one that keeps the context, or one above it

  pops_wake : (next : Frame → Stay) → ((x : ThreadContext) (ts : List Task) → Deeper (popped u) → EachReturn Wakes (next (record { context = x; tasks = ts })))
      → ((ts : List Task) → Taken (popped u) → EachReturn Wakes (next (record { context = c; tasks = ts }))) → EachReturn Wakes (pops u next)
  pops_wake next deeper own = pops_by_frame Wakes Any u next (λ stop. tt) (λ f e. ⊎_elim (λ (lt : suc d < length s.frames). above f lt) (λ (le : length s.frames ≤ suc d). last f e (let there = sleeps.there in omega (arith, le, there))) (cases_lt (suc d) (length s.frames)))
    where
      above : (f : Frame) → suc d < length s.frames → EachReturn Wakes (next f)
      above f lt =
          let h = innermost_by s.frames (length (without_innermost s.frames)) (omega (arith, one)) in
          let few : d < length (without_innermost s.frames) = omega (arith, lt, one) in
          deeper f.context f.tasks (record { current = sleeps.current; there = few; keeps = ap (λ (y : Frame). y.context) (h.others d few) ∙ sleeps.keeps })
        where
          one : suc (length (without_innermost s.frames)) ≡ length s.frames
          one = go (length s.frames) refl
            where
              go : (k : ℕ) → length s.frames ≡ k → suc (length (without_innermost s.frames)) ≡ length s.frames
              go zero e = absurd (omega (arith, e, lt))
              go (suc k) e = let c = (innermost_by s.frames k e).count in omega (arith, e, c)

      last : (f : Frame) → innermost s.frames ≡ Some f → length s.frames ≡ suc d → EachReturn Wakes (next f)
      last f e count =
          let h = innermost_by s.frames d count in
          let is : f.context ≡ c = ap (λ (y : Frame). y.context) (some_is f (frame s d) (sym e ∙ h.is)) ∙ sleeps.keeps in
          subst (λ x. EachReturn Wakes (next (record { context = x; tasks = f.tasks }))) (sym is) (own f.tasks (record { current = sleeps.current; count = h.count; other = named }))

  -- ---- each stay

  opened_wakes : (k j : ℕ) → EachReturn Wakes (opens_from k u j)
  opened_wakes zero j = same _ refl refl
  opened_wakes (suc k) j = if_ends_by Wakes Any (is_used (thread s j) || nat_eq j s.current) _ _ (λ e. opened_wakes k (suc j)) (λ e. same _ refl refl)

  changed_wakes : (j : ℕ) (fs : List Frame) → s.frames ≡ fs → EachReturn Wakes (changes_to u j fs)
  changed_wakes j [] e = absurd (let there = sleeps.there in let none = ap length e in omega (arith, there, none))
  changed_wakes j (f ∷ fs) e = same _ refl refl

  unchanged_wakes : (part : Part) → takes_up_another part ≡ false → (t : KernelState) → Changed part s t → Wakes t
  unchanged_wakes AndThreads alone t e = absurd (false≢true (sym alone))
  unchanged_wakes AndFrames alone t e = absurd (false≢true (sym alone))
  unchanged_wakes _ alone t e = same t (ap (λ x. x.current) e) (ap (λ x. x.frames) e)

  call_wakes : (id : CallId) → EachReturn Wakes (call id u)
  call_wakes B0E = opened_wakes (length s.threads) 0
  call_wakes B0F = if_ends_by Wakes Any (nat_lt (number_of (registers_of u).r4) (length s.threads)) _ _ (λ e. same _ refl refl) (λ e. tt)
  call_wakes B10 = let j : ℕ = number_of (registers_of u).r4 in if_ends_by Wakes Any (is_used (thread s j)) _ _ (λ e. changed_wakes j s.frames refl) (λ e. tt)
  call_wakes B07 = let r = registers_of u in deeper_work u (record u.running { context = with_answer (taken u.running.context r.r31) 0 }) (Scan r.r4 r.r5 0 ∷ []) 0 r.r31 settled_deeper
  call_wakes B17 = pops_wake (λ f. resumed (popped u) f.context) (λ x ts h. deeper_resumed (popped u) x h) (λ ts h. taken_resumed (popped u) (popped u).next (popped u).frames refl refl h)
  call_wakes id =
      let part = changes id in
      ends_mono (Changed part s) Wakes (unchanged_wakes part refl) (call id u) (call_ends (Changed part s) Any u id (halts_any part u) (returns_changed part s))

  row_wakes : (table : Table) (row : Option CallId) → EachReturn Wakes (by_row table row u)
  row_wakes table None = tt
  row_wakes table (Some id) = call_wakes id

  syscall_wakes : (k : ℕ) → EachReturn Wakes (syscall k u)
  syscall_wakes (suc (suc (suc (suc k)))) =
      let x = u.running.context in
      deeper_work u (record u.running { context = taken x (behind_syscall x) }) (Scan SYSCALL_CLASS SYSCALL_SPEC 0 ∷ []) 0 (epc_of x) settled_deeper
  syscall_wakes k = ends_mono (Changed ContextAlone s) Wakes (unchanged_wakes ContextAlone refl) (syscall k u) (syscall_ends (Changed ContextAlone s) Any u k (halts_any ContextAlone u) (returns_changed ContextAlone s))

  entrance_wakes : (e : Entrance) (code : ℕ) → EachReturn Wakes (by_entrance e code u)
  entrance_wakes ByA code = row_wakes A (served_call A (registers_of u).r9)
  entrance_wakes ByB code = row_wakes B (served_call B (registers_of u).r9)
  entrance_wakes ByC code = row_wakes C (served_call C (registers_of u).r9)
  entrance_wakes BySyscall code = syscall_wakes (registers_of u).r4
  entrance_wakes ByInterrupt code = let v = interrupted u in λ stat mask. deeper_work v v.running (interrupt_tasks v stat mask) 0 v.running.context.pc (record { current = sleeps.current; there = sleeps.there; keeps = sleeps.keeps })
  entrance_wakes ByDone code = tt
  entrance_wakes ByBack code =
      let r = registers_of u in pops_wake (λ f. work (popped u) f.context f.tasks r.r2 r.r31) (λ x ts h. deeper_work (popped u) x ts r.r2 r.r31 h) (λ ts h. taken_work (popped u) ts r.r2 r.r31 h)
  entrance_wakes ByTrap code = tt

  stay_wakes : (code : ℕ) → EachReturn Wakes (stay_of s code)
  unfolding stay_of
  stay_wakes code = entrance_wakes (entrance_of s.running.context code) code

  pub move_wakes : (move : Move) (t : KernelState) → Moves move s t → Wakes t
  move_wakes Step t h = let e = h.3 in same t (ap (λ x. x.current) e) (ap (λ x. x.frames) e)
  move_wakes (Stays code answers) t h = of_end_is Wakes Any (stay_of s code) answers (Returned t) (stay_wakes code) h

-- ---- the laws

pub context_interrupted : ContextInterrupted
context_interrupted s = record { regs = refl; pc = refl; rests = at_rest (settled_state s).running.context (epc_of s.running.context); interrupts = refl }

-- a move keeps a valid state valid
move_valid : (move : Move) (s t : KernelState) → Valid s → Moves move s t → Valid t
move_valid Step s t v h = subst Valid (sym h.3) (user_step_keeps_valid s h.0 h.1 v h.2)
move_valid (Stays code answers) s t v h = of_end_is Valid Any (stay_of s code) answers (Returned t) (valid_kept s code v) h

pub frame_takes_up : FrameTakesUp
frame_takes_up s u n d c [] valid rests sleeps e = inl (subst (Sleeps n d c) (sym e) sleeps)
frame_takes_up s u n d c (move ∷ moves) valid rests sleeps (there, t, made, later) =
    on (move_wakes s n d c rests sleeps (another s n sleeps.current s.next valid.next) move t made) moves later (λ h. frame_takes_up t u n d c moves (move_valid move s t valid made) rests h later)
  where
    on : Sleeps n d c t ⊎ Woken n d c t → (ms : List Move) → Under d ms t u → (Sleeps n d c t → Sleeps n d c u ⊎ Woken n d c u) → Sleeps n d c u ⊎ Woken n d c u
    on (inl h) ms later go = go h
    on (inr h) [] later go = inr (subst (Woken n d c) (sym later) h)
    on (inr h) (m ∷ ms) later go = absurd (let few = h.frames in let some = later.0 in omega (arith, few, some))

pub thread_takes_up : ThreadTakesUp
thread_takes_up s u n c moves other slot away here = away_kept moves s u n c (λ e. absurd (other (sym e)), λ ne used. slot) away here

pub names_thread : NamesThread
names_thread s f fs other frames used ne =
    let n : ℕ = number_of (registers_of s).r4 in
    ap (λ b. if b then changes_to s n s.frames else bad_thread s) (ap is_used used) ∙ ap (changes_to s n) frames ∙ ap (λ b. answered (record s { next = if b then None else Some n }) 1) (ne_eqb n s.current ne)

pub preempts : Preempts
preempts s f n own other frames none rests next ne few mine its =
    let h = named_is_taken_up s f n own other frames rests next few mine its in
    let t : KernelState = h.0 in
    let up = h.1 in
    (t, h.2 none, up.current, up.running, λ moves u away here. away_kept moves t u s.current f.context (λ e. absurd (ne (sym up.current ∙ e)), λ other used. up.slot) away here)

-- ---- the entry itself

module _ (s : KernelState) (valid : Valid s) where
  abbrev v : KernelState
  v = interrupted (settled_state s)

  abbrev own : ThreadContext
  own = interrupted_context s

  abbrev Either : KernelState → Type 0
  Either t = ((t.current ≡ s.current) × (t.frames ≡ s.frames) × (t.running ≡ own)) ⊎ Sleeps s.current (length s.frames) own t

  record Before (t : KernelState) : Type 0 where
    current : t.current ≡ s.current
    frames : t.frames ≡ s.frames
    next : t.next ≡ s.next

  before_calls : (t : KernelState) (ts : List Task) (f argument ra : ℕ) → Before t → EachReturn Either (calls_back t own ts f argument ra)
  before_calls t ts f argument ra b = if_ends_by Either Any (nat_lt (length t.frames) FRAME_BLOCKS) _ _
      (λ e. let g : Frame = record { context = own; tasks = ts } in let more = length_push t.frames g in let same = ap length b.frames in
      inr (record { current = b.current; there = omega (arith, more, same); keeps = ap (λ k. (slice_index_or (t.frames ++ (g ∷ [])) k no_frame).context) (sym same) ∙ ap (λ (y : Frame). y.context) (get_or-append_seam t.frames g [] no_frame) })) (λ e. tt)

  none_named : (j : ℕ) (o : Option ℕ) → o ≡ Some j → NextFits s o → length s.frames ≡ 0 → ⊥
  none_named j None e h none = absurd (cc)
  none_named j (Some i) e h none = let some = h.3 in omega (arith, some, none)

  before_resumed : (t : KernelState) (o : Option ℕ) (fs : List Frame) → t.next ≡ o → t.frames ≡ fs → Before t → Either (resumed_by t own o fs)
  before_resumed t None fs e q b = inl (b.current, b.frames, taken_up_as_kept own (context_interrupted s).rests)
  before_resumed t (Some j) [] e q b = absurd (none_named j s.next (sym b.next ∙ e) valid.next (ap length (sym b.frames ∙ q)))
  before_resumed t (Some j) (f ∷ fs) e q b = inl (b.current, b.frames, taken_up_as_kept own (context_interrupted s).rests)

  before_work : (t : KernelState) (ts : List Task) (value ra : ℕ) → Before t → EachReturn Either (work t own ts value ra)
  before_work t ts value ra b =
      work_by Either Any Before (λ x i h. record { current = h.current; frames = h.frames; next = h.next }) own (λ x us f argument at h. before_calls x us f argument at h) (λ x h. before_resumed x x.next x.frames refl refl h) t ts value ra b

pub entry_takes_up : EntryTakesUp
unfolding stay_of
entry_takes_up s valid = λ stat mask. let t = v s valid in before_work s valid t (interrupt_tasks t stat mask) 0 t.running.context.pc (record { current = refl; frames = refl; next = refl })
