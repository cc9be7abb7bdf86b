-- What the calls on threads leave of other threads, and the thread that is changed away from and back to.
use Rattle.std.proofs.Common.{◌≡◌, ℕ, zero, suc, ◌+◌, ◌-◌, ◌^◌, ◌<◌, ◌≤◌, ◌⊎◌, inr, Bool, true, false, List, [], ◌∷◌, Option, Some, None, length, refl, sym, ap, ◌∙◌, subst, arith, ⊎_elim, get_or-set_same, get_or-set_other, ne_eqb}
use Rattle.std.specs.Prelude.{nat_eq, nat_lt, ◌||◌, slice_index_or, slice_set, if◌then◌else◌}
use Rattle.std.proofs.lemmas.Bool.{false≢true, cases_eq, ltb-true}
use Rattle.std.proofs.lemmas.List.{get_or_past}
use Rattle.psx_base.specs.declared.stop.Table.{Table}
use Rattle.psx_base.specs.declared.stop.Table.TheVariants.{A, B, C}
use Rattle.psx_base.specs.Context.{settled, taken, epc_of}
use Rattle.psx_base.specs.Items.{Entrance, ByA, ByB, ByC, BySyscall, ByInterrupt, ByDone, ByBack, ByTrap}
use Rattle.psx_base.specs.KernelState.{ThreadContext, Thread, Free, Used, Task, Scan, Frame, KernelState}
use Rattle.kern_layout.specs.Reads.{thread}
use Rattle.abs_kernel.specs.declared.calls.CallId.{CallId}
use Rattle.abs_kernel.specs.declared.calls.CallId.TheVariants.{B07, B0E, B0F, B10, B17}
use Rattle.abs_kernel.specs.CallTable.{served_call}
use Rattle.abs_kernel.specs.Cause.{entrance_of}
use Rattle.abs_kernel.specs.Answered.{registers_of, with_answer, answered}
use Rattle.abs_kernel.specs.Threads.{number_of, handle_of, is_used, bad_thread}
use Rattle.abs_kernel.specs.OpenThread.{with_opened, opens_from, open_thread}
use Rattle.abs_kernel.specs.CloseThread.{with_freed}
use Rattle.abs_kernel.specs.ChangeThread.{changes_to, change_thread}
use Rattle.abs_kernel.specs.Switching.{caller, keeps, context_of, switched}
use Rattle.abs_kernel.specs.Calls.{call, by_row}
use Rattle.abs_kernel.specs.Interrupt.{interrupted, interrupt_tasks}
use Rattle.abs_kernel.specs.Sys.{behind_syscall, SYSCALL_CLASS, SYSCALL_SPEC, syscall}
use Rattle.abs_kernel.specs.KernelStep.{settled_state, by_entrance, stay_of}
use Rattle.abs_kernel.specs.Stay.{Stay, Return, Halt, Ask, Tell, Write, Touch}
use Rattle.abs_kernel.specs.Played.{Returned}
use Rattle.abs_kernel.specs.Changes.{Part, AndThreads, AndFrames, ContextAlone, changes, Changed, takes_up_another}
use Rattle.abs_kernel.specs.StayLaws.{EachReturn}
use Rattle.abs_kernel.specs.ThreadLaws.{OneHandle, BadHandleStops, MayOpen, OpensLowest, UsedStay, Move, Step, Stays, Moves, Away, TakenUpAgain, ChangesBack}
use Rattle.abs_kernel.proofs.Ending.{if_ends_by}
use Rattle.abs_kernel.proofs.EndsTasks.{work_by, pops_by_frame}
use Rattle.abs_kernel.specs.Callback.{calls_back}
use Rattle.abs_kernel.specs.TakingUp.{taken_up, resumed_by}
use Rattle.abs_kernel.specs.Tasks.{work}
use Rattle.abs_kernel.specs.Returning.{popped, pops, comes_back, delivers}
use Rattle.kern_layout.specs.declared.places.TheConstants.{FRAME_BLOCKS}
use Rattle.abs_kernel.proofs.Lists.{of_end_is}
use Rattle.abs_kernel.proofs.Ends.{Any, halts_any, returns_changed, call_ends, syscall_ends}

-- ---- handles

pub one_handle : OneHandle
one_handle n handle few word = (omega (arith, few), λ e. omega (arith, e, few, word))

not_below : (a b : ℕ) → b ≤ a → nat_lt a b ≡ false
not_below a b g = grind arith

pub bad_handle_stops : BadHandleStops
bad_handle_stops s =
    let n : ℕ = number_of (registers_of s).r4 in
    let free : thread s n ≡ Free → change_thread s ≡ bad_thread s = λ e. ap (λ b. if b then changes_to s n s.frames else bad_thread s) (ap is_used e) in
    (λ past. (ap (λ b. if b then answered (with_freed s n) 1 else bad_thread s) (not_below n (length s.threads) past), free (get_or_past s.threads n Free past)), free)

-- ---- OpenThread

different : (k n : ℕ) → nat_eq k n ≡ false → k ≡ n → ⊥
different k n h e = grind arith

free_is : (t : Thread) → is_used t ≡ false → t ≡ Free
free_is Free h = refl
free_is (Used u) h = absurd (false≢true (sym h))

or_left : (a b : Bool) → (a || b) ≡ false → a ≡ false
or_left true b h = h
or_left false b h = refl

or_right : (a b : Bool) → (a || b) ≡ false → b ≡ false
or_right true b h = absurd (false≢true (sym h))
or_right false b h = h

-- what holds at each return, by what holds there already
pub ends_mono : (P P' : KernelState → Type 0) → ((t : KernelState) → P t → P' t) → (stay : Stay) → EachReturn P stay → EachReturn P' stay
ends_mono P P' f (Return t) h = f t h
ends_mono P P' f (Halt stop memory) h = tt
ends_mono P P' f (Ask port next) h = λ value. ends_mono P P' f (next value) (h value)
ends_mono P P' f (Tell port value next) h = ends_mono P P' f next h
ends_mono P P' f (Write byte next) h = ends_mono P P' f next h
ends_mono P P' f (Touch bytes next) h = ends_mono P P' f next h

-- slot n stays, and so does the running number
abbrev SlotStays : KernelState → ℕ → KernelState → Type 0
SlotStays s n t = (thread t n ≡ thread s n) × (t.current ≡ s.current)

opened_stays : (s : KernelState) (n : ℕ) → (n ≡ s.current) ⊎ (is_used (thread s n) ≡ true) → (k j : ℕ) → EachReturn (SlotStays s n) (opens_from k s j)
opened_stays s n h zero j = (refl, refl)
opened_stays s n h (suc k) j =
    if_ends_by (SlotStays s n) Any (is_used (thread s j) || nat_eq j s.current) _ _ (λ e. opened_stays s n h k (suc j))
    (λ e. (
      get_or-set_other s.threads j n _ Free
          (λ q. ⊎_elim
          (λ r. different j s.current (or_right (is_used (thread s j)) (nat_eq j s.current) e) (sym q ∙ r))
          (λ u. false≢true (sym (or_left (is_used (thread s j)) (nat_eq j s.current) e) ∙ ap (λ x. is_used (thread s x)) (sym q) ∙ u)) h),
      refl,
    ))

pub used_stay : UsedStay
used_stay s n h = ends_mono (SlotStays s n) (λ t. thread t n ≡ thread s n) (λ t q. q.0) (open_thread s) (opened_stays s n h (length s.threads) 0)

-- the slots up to n may not be taken
may_open : (s : KernelState) (n : ℕ) → n < length s.threads → (is_used (thread s n) || nat_eq n s.current) ≡ false → MayOpen s n
may_open s n few e = (few, free_is (thread s n) (or_left (is_used (thread s n)) (nat_eq n s.current) e), different n s.current (or_right (is_used (thread s n)) (nat_eq n s.current) e))

passed : (b : Bool) (x y : Stay) → (b ≡ false → ⊥) → (if b then x else y) ≡ x
passed true x y h = refl
passed false x y h = absurd (h refl)

taken_is : (s : KernelState) (k j : ℕ) → MayOpen s j → opens_from (suc k) s j ≡ answered (with_opened s j) (handle_of j)
taken_is s k j h =
    ap (λ b. if b || nat_eq j s.current then opens_from k s (suc j) else answered (with_opened s j) (handle_of j)) (ap is_used h.1)
    ∙ ap (λ b. if b then opens_from k s (suc j) else answered (with_opened s j) (handle_of j)) (ne_eqb j s.current h.2)

opens_at : (s : KernelState) (n : ℕ) → MayOpen s n → ((k : ℕ) → k < n → MayOpen s k → ⊥) → (k j : ℕ) → j + k ≡ length s.threads → j ≤ n → opens_from k s j ≡ answered (with_opened s n) (handle_of n)
opens_at s n may none zero j e le = let few = may.0 in absurd (omega (arith, e, le, few))
opens_at s n may none (suc k) j e le = ⊎_elim
    (λ (q : j ≡ n). subst (λ x. opens_from (suc k) s x ≡ answered (with_opened s n) (handle_of n)) (sym q) (taken_is s k n may))
    (λ (ne : j ≡ n → ⊥).
    passed _ _ _ (λ b. none j (omega (arith, le, ne)) (may_open s j (omega (arith, e)) b)) ∙ opens_at s n may none k (suc j) (omega (arith, e)) (omega (arith, le, ne)))
    (cases_eq j n)

opens_none : (s : KernelState) → ((n : ℕ) → MayOpen s n → ⊥) → (k j : ℕ) → j + k ≡ length s.threads → opens_from k s j ≡ answered s (2 ^ 32 - 1)
opens_none s none zero j e = refl
opens_none s none (suc k) j e = passed _ _ _ (λ b. none j (may_open s j (omega (arith, e)) b)) ∙ opens_none s none k (suc j) (omega (arith, e))

pub opens_lowest : OpensLowest
opens_lowest s = (λ n may none. opens_at s n may none (length s.threads) 0 (omega arith) (omega arith), λ none. opens_none s none (length s.threads) 0 (omega arith))

-- ---- away and back

changed_same : (part : Part) (s t : KernelState) → takes_up_another part ≡ false → Changed part s t → (t.threads ≡ s.threads) × (t.current ≡ s.current)
changed_same AndThreads s t alone e = absurd (false≢true (sym alone))
changed_same AndFrames s t alone e = absurd (false≢true (sym alone))
changed_same _ s t alone e = (ap (λ x. x.threads) e, ap (λ x. x.current) e)

-- thread n has its context, in its slot or as the running one
abbrev pub Has : (n : ℕ) → ThreadContext → KernelState → Type 0
Has n own t = (t.current ≡ n → t.running ≡ own) × ((t.current ≡ n → ⊥) → is_used (thread t n) ≡ true → thread t n ≡ Used own)

module _ (s : KernelState) (n : ℕ) (own : ThreadContext) (away : s.current ≡ n → ⊥) (used : thread s n ≡ Used own) where
  abbrev u : KernelState
  u = settled_state s

  -- the slot stays, and another thread runs on
  kept : (t : KernelState) → SlotStays s n t → Has n own t
  kept t q = (λ here. absurd (away (sym q.1 ∙ here)), λ there still. q.0 ∙ used)

  unchanged : (part : Part) → takes_up_another part ≡ false → (t : KernelState) → Changed part s t → Has n own t
  unchanged part alone t e = let q = changed_same part s t alone e in kept t (ap (λ x. slice_index_or x n Free) q.0, q.1)

  closed : (j : ℕ) → j < length s.threads → is_used (thread (with_freed u j) n) ≡ true → thread (with_freed u j) n ≡ Used own
  closed j few still = ⊎_elim
      (λ (e : n ≡ j). absurd (false≢true (sym (ap (λ x. is_used (thread (with_freed u j) x)) e ∙ ap is_used (get_or-set_same s.threads j Free Free few)) ∙ still)))
      (λ (ne : n ≡ j → ⊥). get_or-set_other s.threads j n Free Free ne ∙ used)
      (cases_eq n j)

  switched_kept : (j : ℕ) → Has n own (switched u j)
  switched_kept j =
      let now : Thread = keeps (caller u) (thread s s.current) in
      let stays : thread (switched u j) n ≡ Used own = get_or-set_other s.threads s.current n now Free (λ e. away (sym e)) ∙ used in
      (λ here. ap (λ x. context_of (slice_index_or (slice_set s.threads s.current now) x Free)) here ∙ ap context_of stays, λ there still. stays)

  changes_kept : (j : ℕ) (fs : List Frame) → EachReturn (Has n own) (changes_to u j fs)
  changes_kept j [] = switched_kept j
  changes_kept j (f ∷ fs) = (λ here. absurd (away here), λ there still. used)

  -- while tasks are done the slot stays, and another thread runs
  abbrev Slot : KernelState → Type 0
  Slot t = (thread t n ≡ Used own) × (t.current ≡ n → ⊥)

  slot_has : (t : KernelState) → Slot t → Has n own t
  slot_has t b = (λ here. absurd (b.1 here), λ there still. b.0)

  calls_kept : (t : KernelState) (c : ThreadContext) (ts : List Task) (f argument ra : ℕ) → Slot t → EachReturn (Has n own) (calls_back t c ts f argument ra)
  calls_kept t c ts f argument ra b = if_ends_by (Has n own) Any (nat_lt (length t.frames) FRAME_BLOCKS) _ _ (λ e. (λ here. absurd (b.1 here), λ there still. b.0)) (λ e. tt)

  resumed_kept : (t : KernelState) (c : ThreadContext) (o : Option ℕ) (fs : List Frame) → Slot t → Has n own (resumed_by t c o fs)
  resumed_kept t c None fs b = slot_has (record t { running = taken_up c }) b
  resumed_kept t c (Some j) [] b =
      let now : Thread = keeps (taken_up c) (thread t t.current) in
      (λ here. ap (λ x. context_of (thread t x)) here ∙ ap context_of b.0, λ there still. get_or-set_other t.threads t.current n now Free (λ e. b.1 (sym e)) ∙ b.0)
  resumed_kept t c (Some j) (f ∷ fs) b = slot_has (record t { running = taken_up c }) b

  work_kept : (t : KernelState) (c : ThreadContext) (ts : List Task) (value ra : ℕ) → Slot t → EachReturn (Has n own) (work t c ts value ra)
  work_kept t c ts value ra h = work_by (Has n own) Any Slot (λ u i b. b) c (λ u us f argument at b. calls_kept u c us f argument at b) (λ u b. resumed_kept u c u.next u.frames b) t ts value ra h

  delivery_kept : (c : ThreadContext) (class spec ra : ℕ) → EachReturn (Has n own) (delivers u c class spec ra)
  delivery_kept c class spec ra = work_kept u c (Scan class spec 0 ∷ []) 0 ra (used, away)

  pops_kept : (next : Frame → Stay) → ((f : Frame) → EachReturn (Has n own) (next f)) → EachReturn (Has n own) (pops u next)
  pops_kept next h = pops_by_frame (Has n own) Any u next (λ stop. tt) (λ f e. h f)

  back_kept : EachReturn (Has n own) (comes_back u)
  back_kept = pops_kept _ (λ f. work_kept (popped u) f.context f.tasks (registers_of u).r2 (registers_of u).r31 (used, away))

  call_kept : (id : CallId) → EachReturn (Has n own) (call id u)
  call_kept B0E = ends_mono (SlotStays s n) (Has n own) kept (open_thread u) (opened_stays u n (inr (ap is_used used)) (length s.threads) 0)
  call_kept B0F =
      let j : ℕ = number_of (registers_of u).r4 in
      if_ends_by (Has n own) Any (nat_lt j (length s.threads)) _ _ (λ e. (λ here. absurd (away here), λ there still. closed j (ltb-true j (length s.threads) e) still)) (λ e. tt)
  call_kept B10 = let j : ℕ = number_of (registers_of u).r4 in if_ends_by (Has n own) Any (is_used (thread s j)) _ _ (λ e. changes_kept j s.frames) (λ e. tt)
  call_kept B07 = let r = registers_of u in delivery_kept (record u.running { context = with_answer (taken u.running.context r.r31) 0 }) r.r4 r.r5 r.r31
  call_kept B17 = pops_kept _ (λ f. resumed_kept (popped u) f.context s.next (popped u).frames (used, away))
  call_kept id =
      let part = changes id in
      ends_mono (Changed part s) (Has n own) (unchanged part refl) (call id u) (call_ends (Changed part s) Any u id (halts_any part u) (returns_changed part s))

  row_kept : (table : Table) (row : Option CallId) → EachReturn (Has n own) (by_row table row u)
  row_kept table None = tt
  row_kept table (Some id) = call_kept id

  syscall_kept : (k : ℕ) → EachReturn (Has n own) (syscall k u)
  syscall_kept (suc (suc (suc (suc k)))) =
      let c = u.running.context in
      delivery_kept (record u.running { context = taken c (behind_syscall c) }) SYSCALL_CLASS SYSCALL_SPEC (epc_of c)
  syscall_kept k = ends_mono (Changed ContextAlone s) (Has n own) (unchanged ContextAlone refl) (syscall k u) (syscall_ends (Changed ContextAlone s) Any u k (halts_any ContextAlone u) (returns_changed ContextAlone s))

  entrance_kept : (e : Entrance) (code : ℕ) → EachReturn (Has n own) (by_entrance e code u)
  entrance_kept ByA code = row_kept A (served_call A (registers_of u).r9)
  entrance_kept ByB code = row_kept B (served_call B (registers_of u).r9)
  entrance_kept ByC code = row_kept C (served_call C (registers_of u).r9)
  entrance_kept BySyscall code = syscall_kept (registers_of u).r4
  entrance_kept ByInterrupt code = let v = interrupted u in λ stat mask. work_kept v v.running (interrupt_tasks v stat mask) 0 v.running.context.pc (used, away)
  entrance_kept ByDone code = tt
  entrance_kept ByBack code = back_kept
  entrance_kept ByTrap code = tt

  stay_kept : (code : ℕ) → EachReturn (Has n own) (stay_of s code)
  unfolding stay_of
  stay_kept code = entrance_kept (entrance_of s.running.context code) code

  move_kept : (move : Move) (t : KernelState) → Moves move s t → Has n own t
  move_kept Step t h = kept t (let e = h.3 in (ap (λ x. thread x n) e, ap (λ x. x.current) e))
  move_kept (Stays code answers) t h = of_end_is (Has n own) Any (stay_of s code) answers (Returned t) (stay_kept code) h

-- from where another thread runs up to where thread n does
pub away_kept : (moves : List Move) (s t : KernelState) (n : ℕ) (own : ThreadContext) → Has n own s → Away n moves s t → t.current ≡ n → t.running ≡ own
away_kept [] s t n own has a here = ap (λ x. x.running) a ∙ has.0 (ap (λ x. x.current) (sym a) ∙ here)
away_kept (move ∷ moves) s t n own has a here =
    let there = a.0.0 in
    away_kept moves a.1 t n own (move_kept s n own there (has.1 there a.0.1) move a.1 a.2) a.3 here

pub changes_back : ChangesBack
changes_back s own other none frames few mine its far =
    let n : ℕ = number_of (registers_of s).r4 in
    let now : Thread = keeps (caller s) (thread s s.current) in
    let stay : change_thread s ≡ Return (switched s n) = ap (λ b. if b then changes_to s n s.frames else bad_thread s) (ap is_used its) ∙ ap (changes_to s n) frames in
    let slot : thread (switched s n) s.current ≡ Used (caller s) = get_or-set_same s.threads s.current now Free few ∙ ap (keeps (caller s)) mine in
    (switched s n, stay, λ moves t a here. told t (away_kept moves (switched s n) t s.current (caller s) (λ e. absurd (far e), λ there still. slot) a here))
  where
    told : (t : KernelState) → t.running ≡ caller s → TakenUpAgain s t
    told t e = record { regs = ap (λ x. x.context.regs) e ∙ settled_is; pc = ap (λ x. x.context.pc) e; interrupts = ap (λ x. x.interrupts) e }
      where
        settled_is : (caller s).context.regs ≡ record (registers_of s) { r2 = 1; r26 = (registers_of s).r31; r27 = 0 }
        settled_is = ap (λ o. record (settled (registers_of s) o) { r2 = 1; r26 = (registers_of s).r31; r27 = 0 }) none
