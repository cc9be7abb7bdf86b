-- Each move leaves frames and puts at most one there; so a frame stays until a return takes it away.
use Rattle.std.proofs.Common.{◌≡◌, ℕ, suc, ◌≤◌, Bool, true, false, inl, inr, List, [], ◌∷◌, ◌++◌, length, refl, sym, ap, ◌∙◌, subst, arith}
use Rattle.std.specs.Prelude.{◌⊎◌, Option, Some, None, nat_lt, if◌then◌else◌}
use Rattle.std.proofs.lemmas.Bool.{false≢true}
use Rattle.std.proofs.lemmas.List.{append_assoc, length_push, length-append}
use Rattle.psx_base.specs.declared.stop.Table.{Table}
use Rattle.psx_base.specs.declared.stop.Table.TheVariants.{A, B, C}
use Rattle.psx_base.specs.Context.{taken, epc_of}
use Rattle.psx_base.specs.Items.{Entrance, ByA, ByB, ByC, BySyscall, ByInterrupt, ByDone, ByBack, ByTrap}
use Rattle.psx_base.specs.KernelState.{ThreadContext, Task, Scan, Frame, KernelState}
use Rattle.kern_layout.specs.declared.places.TheConstants.{FRAME_BLOCKS}
use Rattle.abs_kernel.specs.declared.calls.CallId.{CallId}
use Rattle.abs_kernel.specs.declared.calls.CallId.TheVariants.{B07, B17}
use Rattle.abs_kernel.specs.CallTable.{served_call}
use Rattle.abs_kernel.specs.Cause.{entrance_of}
use Rattle.abs_kernel.specs.Answered.{registers_of, with_answer}
use Rattle.abs_kernel.specs.Callback.{calls_back}
use Rattle.abs_kernel.specs.TakingUp.{resumed_by}
use Rattle.abs_kernel.specs.Tasks.{work}
use Rattle.abs_kernel.specs.Returning.{without_innermost, popped}
use Rattle.abs_kernel.specs.Interrupt.{interrupted, interrupt_tasks}
use Rattle.abs_kernel.specs.Sys.{behind_syscall, SYSCALL_CLASS, SYSCALL_SPEC, syscall}
use Rattle.abs_kernel.specs.Calls.{call, by_row}
use Rattle.abs_kernel.specs.KernelStep.{settled_state, by_entrance, stay_of}
use Rattle.abs_kernel.specs.Changes.{Part, AndFrames, ContextAlone, changes, Changed}
use Rattle.abs_kernel.specs.Played.{Returned}
use Rattle.abs_kernel.specs.StayLaws.{EachReturn}
use Rattle.abs_kernel.specs.ThreadLaws.{Move, Step, Stays}
use Rattle.abs_kernel.proofs.Ending.{if_ends}
use Rattle.abs_kernel.proofs.EndsTasks.{work_by, pops_by_frame}
use Rattle.abs_kernel.proofs.Ends.{Any, halts_any, returns_changed, call_ends, syscall_ends}
use Rattle.abs_kernel.proofs.Lists.{of_end_is}
use Rattle.abs_kernel.proofs.Switched.{ends_mono}
use Rattle.abs_kernel.proofs.Delivered.{goes_on_with_last, drops_tasks}
use Rattle.kern_event.specs.FrameLaws.{returns_from_exception, takes_frame, left, MoveKeepsFrames, Above, FramesStay, GoesOnWith, FramesAreKept}

-- ---- one move

-- these frames are left, with at most one upon them
abbrev On : List Frame → KernelState → Type 0
On gs t = (t.frames ≡ gs) ⊎ ((f : Frame) × (t.frames ≡ gs ++ (f ∷ [])))

resumed_on : (gs : List Frame) (t : KernelState) (c : ThreadContext) (o : Option ℕ) (fs : List Frame) → t.frames ≡ gs → On gs (resumed_by t c o fs)
resumed_on gs t c None fs e = inl e
resumed_on gs t c (Some n) [] e = inl e
resumed_on gs t c (Some n) (f ∷ fs) e = inl e

work_on : (gs : List Frame) (t : KernelState) (c : ThreadContext) (ts : List Task) (value ra : ℕ) → t.frames ≡ gs → EachReturn (On gs) (work t c ts value ra)
work_on gs t c ts value ra e = work_by (On gs) Any (λ u. u.frames ≡ gs) (λ u i h. h) c (λ u us f argument at h. calls u us f argument at h) (λ u h. resumed_on gs u c u.next u.frames h) t ts value ra e
  where
    calls : (u : KernelState) (us : List Task) (f argument at : ℕ) → u.frames ≡ gs → EachReturn (On gs) (calls_back u c us f argument at)
    calls u us f argument at h = let g : Frame = record { context = c; tasks = us } in if_ends (On gs) Any (nat_lt (length u.frames) FRAME_BLOCKS) _ _ (inr (g, ap (λ fs. fs ++ (g ∷ [])) h)) tt

changes_frames : Part → Bool
changes_frames AndFrames = true
changes_frames _ = false

module _ (s : KernelState) where
  abbrev settled : KernelState
  settled = settled_state s

  abbrev left_by : Bool → List Frame
  left_by b = if b then without_innermost s.frames else s.frames

  unchanged : (part : Part) → changes_frames part ≡ false → (t : KernelState) → Changed part s t → On s.frames t
  unfolding changes_frames
  unchanged AndFrames alone t e = absurd (false≢true (sym alone))
  unchanged _ alone t e = inl (ap (λ x. x.frames) e)

  call_on : (id : CallId) → EachReturn (On (left_by (returns_from_exception (Some id)))) (call id settled)
  unfolding changes_frames
  call_on B07 =
      let r = registers_of settled in
      work_on s.frames settled (record settled.running { context = with_answer (taken settled.running.context r.r31) 0 }) (Scan r.r4 r.r5 0 ∷ []) 0 r.r31 refl
  call_on B17 = pops_by_frame (On (left_by true)) Any settled _ (λ stop. tt) (λ f e. resumed_on (left_by true) (popped settled) f.context (popped settled).next (popped settled).frames refl)
  call_on id =
      let part = changes id in
      ends_mono (Changed part s) (On s.frames) (unchanged part refl) (call id settled) (call_ends (Changed part s) Any settled id (halts_any part settled) (returns_changed part s))

  row_on : (table : Table) (row : Option CallId) → EachReturn (On (left_by (returns_from_exception row))) (by_row table row settled)
  row_on table None = tt
  row_on table (Some id) = call_on id

  syscall_on : (k : ℕ) → EachReturn (On s.frames) (syscall k settled)
  unfolding changes_frames
  syscall_on (suc (suc (suc (suc k)))) =
      let x = settled.running.context in
      work_on s.frames settled (record settled.running { context = taken x (behind_syscall x) }) (Scan SYSCALL_CLASS SYSCALL_SPEC 0 ∷ []) 0 (epc_of x) refl
  syscall_on k =
      let ends = syscall_ends (Changed ContextAlone s) Any settled k (halts_any ContextAlone settled) (returns_changed ContextAlone s) in
      ends_mono (Changed ContextAlone s) (On s.frames) (unchanged ContextAlone refl) (syscall k settled) ends

  entrance_on : (e : Entrance) (code : ℕ) → EachReturn (On (left_by (takes_frame e (registers_of settled)))) (by_entrance e code settled)
  entrance_on ByA code = row_on A (served_call A (registers_of settled).r9)
  entrance_on ByB code = row_on B (served_call B (registers_of settled).r9)
  entrance_on ByC code = row_on C (served_call C (registers_of settled).r9)
  entrance_on BySyscall code = syscall_on (registers_of settled).r4
  entrance_on ByInterrupt code = let v = interrupted settled in λ stat mask. work_on s.frames v v.running (interrupt_tasks v stat mask) 0 v.running.context.pc refl
  entrance_on ByDone code = tt
  entrance_on ByBack code =
      let r = registers_of settled in
      pops_by_frame (On (left_by true)) Any settled _ (λ stop. tt) (λ f e. work_on (left_by true) (popped settled) f.context f.tasks r.r2 r.r31 refl)
  entrance_on ByTrap code = tt

  stay_on : (code : ℕ) (answers : List ℕ) → EachReturn (On (left (Stays code answers) s)) (stay_of s code)
  unfolding stay_of
  stay_on code answers = entrance_on (entrance_of s.running.context code) code

pub move_keeps_frames : MoveKeepsFrames
move_keeps_frames s t Step h = inl (ap (λ x. x.frames) h.3)
move_keeps_frames s t (Stays code answers) h = of_end_is (On (left (Stays code answers) s)) Any (stay_of s code) answers (Returned t) (stay_on s code answers) h

-- ---- many moves

-- frames that begin with these
abbrev Begins : List Frame → List Frame → Type 0
Begins fs all = (hs : List Frame) × (all ≡ fs ++ hs)

-- so do those without the innermost one, where there are as many
front : (fs gs : List Frame) → length fs ≤ length (without_innermost (fs ++ gs)) → Begins fs (without_innermost (fs ++ gs))
front [] gs h = (without_innermost gs, refl)
front (x ∷ []) [] h = absurd (omega (arith, h))
front (x ∷ []) (g ∷ gs) h = (without_innermost (g ∷ gs), refl)
front (x ∷ y ∷ fs) gs h = let k = front (y ∷ fs) gs (omega (arith, h)) in (k.0, ap (λ rest. x ∷ rest) k.1)

left_begins : (fs gs : List Frame) (s : KernelState) (b : Bool) → s.frames ≡ fs ++ gs → length fs ≤ length (left_by s b) → Begins fs (left_by s b)
left_begins fs gs s true e few = let same = ap without_innermost e in subst (Begins fs) (sym same) (front fs gs (subst (λ all. length fs ≤ length all) same few))
left_begins fs gs s false e few = (gs, e)

move_begins : (fs gs : List Frame) (s : KernelState) (move : Move) → s.frames ≡ fs ++ gs → length fs ≤ length (left move s) → Begins fs (left move s)
move_begins fs gs s Step e few = (gs, e)
move_begins fs gs s (Stays code answers) e few = left_begins fs gs s _ e few

on_begins : (fs now : List Frame) (t : KernelState) → Begins fs now → On now t → Begins fs t.frames
on_begins fs now t (hs, e) (inl same) = (hs, same ∙ e)
on_begins fs now t (hs, e) (inr (f, more)) = (hs ++ (f ∷ []), more ∙ ap (λ all. all ++ (f ∷ [])) e ∙ append_assoc fs hs (f ∷ []))

pub frames_stay : FramesStay
frames_stay s u fs gs [] e is = (gs, ap (λ x. x.frames) is ∙ e)
frames_stay s u fs gs (move ∷ moves) e (few, t, made, later) =
    let h = on_begins fs (left move s) t (move_begins fs gs s move e few) (move_keeps_frames s t move made) in
    frames_stay t u fs h.0 moves h.1 later

-- ---- the return

-- as many frames as those and one are those and that one
last_is : (fs hs : List Frame) (f : Frame) (all : List Frame) → all ≡ (fs ++ (f ∷ [])) ++ hs → length all ≡ suc (length fs) → all ≡ fs ++ (f ∷ [])
last_is fs [] f all e count = e ∙ append_assoc fs (f ∷ []) []
last_is fs (h ∷ hs) f all e count = absurd (let l = ap length e in omega (arith, l, count, length-append (fs ++ (f ∷ [])) (h ∷ hs), length_push fs f))

pub goes_on_with : (fs : List Frame) (f : Frame) (u : KernelState) → u.frames ≡ fs ++ (f ∷ []) → GoesOnWith fs f u
unfolding stay_of
goes_on_with fs f u e =
    let v : KernelState = settled_state u in
    record {
      frames = e;
      back = λ code gate. ap (λ g. by_entrance g code v) gate ∙ goes_on_with_last v fs f e;
      dropped = λ code gate row. ap (λ g. by_entrance g code v) gate ∙ ap (λ id. by_row B id v) row ∙ drops_tasks v fs f e;
    }

pub frames_are_kept : FramesAreKept
frames_are_kept s u fs f gs moves e above count =
    let all = frames_stay s u (fs ++ (f ∷ [])) gs moves (e ∙ sym (append_assoc fs (f ∷ []) gs)) (subst (λ d. Above d moves s u) (omega (arith, length_push fs f)) above) in
    goes_on_with fs f u (last_is fs all.0 f u.frames all.1 count)
