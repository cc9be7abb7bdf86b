-- A delivery comes to each event once, whatever the functions do that it calls.
use Rattle.std.proofs.Common.{◌≡◌, ℕ, zero, suc, ◌+◌, ◌-◌, ◌<◌, ◌≤◌, Bool, true, false, inl, inr, List, [], ◌∷◌, ◌++◌, length, refl, sym, ap, ◌∙◌, subst, arith, ⊎_elim}
use Rattle.std.specs.Prelude.{◌⊎◌, Option, Some, None, nat_lt, slice_index_or, if◌then◌else◌}
use Rattle.std.proofs.lemmas.Bool.{cases_lt}
use Rattle.std.proofs.lemmas.List.{length_push}
use Rattle.psx_base.specs.declared.stop.Table.TheVariants.{B}
use Rattle.psx_base.specs.Context.{taken, epc_of}
use Rattle.psx_base.specs.declared.stop.Stop.TheVariants.{Deep}
use Rattle.psx_base.specs.KernelState.{ThreadContext, Event, Task, Scan, Frame, KernelState}
use Rattle.kern_layout.specs.declared.places.TheConstants.{FRAME_BLOCKS}
use Rattle.kern_layout.specs.Reads.{event, no_event}
use Rattle.abs_kernel.specs.Stay.{Return, Halt}
use Rattle.abs_kernel.specs.Answered.{registers_of, with_answer}
use Rattle.abs_kernel.specs.Callback.{callback, pushed, calls_back}
use Rattle.abs_kernel.specs.Scan.{is_called, scan}
use Rattle.abs_kernel.specs.TakingUp.{resumed_by}
use Rattle.abs_kernel.specs.Tasks.{class_of_line, SPEC_OF_LINES, work}
use Rattle.abs_kernel.specs.Returning.{without_innermost, delivers}
use Rattle.abs_kernel.specs.Sys.{behind_syscall, SYSCALL_CLASS, SYSCALL_SPEC, syscall, sys_delivers}
use Rattle.abs_kernel.specs.Calls.{by_row}
use Rattle.abs_kernel.specs.KernelStep.{settled_state, by_entrance, stay_of}
use Rattle.abs_kernel.specs.Played.{Returned, played}
use Rattle.abs_kernel.specs.ThreadLaws.{Move, Step, Stays}
use Rattle.abs_kernel.specs.WorkLaws.{Delivered, NoneCalled}
use Rattle.abs_kernel.proofs.Delivered.{delivers_to_the_last, delivers_to_a_call}
use Rattle.kern_event.specs.FrameLaws.{left, Above}
use Rattle.kern_event.specs.DeliveryLaws.{CallbackRun, ComesBack, Follow, behind, CallsAt, Finishes, Reaches, ScanReaches, LineReaches, Ends, ReachesAll, DeliverEventReachesAll, SyscallReachesAll}
use Rattle.kern_event.proofs.FramesKept.{frames_are_kept}

returned_is : (s t : KernelState) → Returned s ≡ Returned t → s ≡ t
returned_is s t e = cc

-- ---- one stay

module _ (class spec : ℕ) where
  abbrev calls_at : List Event → (k : ℕ) → Bool
  calls_at es k = is_called class spec (slice_index_or es k no_event)

  -- the first of n events from a number on whose function is to be called
  abbrev First : (n from : ℕ) (es : List Event) → Type 0
  First n from es = (to : ℕ) × (from ≤ to) × (to < from + n) × NoneCalled class spec from to es × (calls_at es to ≡ true)

  abbrev Searched : (n from : ℕ) (es : List Event) → Type 0
  Searched n from es = NoneCalled class spec from (from + n) es ⊎ First n from es

  none_before : (from to : ℕ) (es : List Event) → calls_at es from ≡ false → NoneCalled class spec (suc from) to es → NoneCalled class spec from to es
  none_before from to es here h k le lt = ⊎_elim (λ (l : k < suc from). at (omega (arith, l, le))) (λ (g : suc from ≤ k). h k g lt) (cases_lt k (suc from))
    where
      at : k ≡ from → calls_at es k ≡ false
      at q = ap (calls_at es) q ∙ here

  searched : (n from : ℕ) (es : List Event) → Searched n from es
  searched zero from es = inl (λ k le lt. absurd (omega (arith, le, lt)))
  searched (suc n) from es = here (calls_at es from) refl (searched n (suc from) es)
    where
      here : (b : Bool) → calls_at es from ≡ b → Searched n (suc from) es → Searched (suc n) from es
      here true e later = inr (from, omega arith, omega arith, (λ k le lt. absurd (omega (arith, le, lt))), e)
      here false e (inl none) = inl (none_before from (from + suc n) es e (subst (λ to. NoneCalled class spec (suc from) to es) (omega arith) none))
      here false e (inr (to, low, few, none, is)) = inr (to, omega (arith, low), omega (arith, few), none_before from to es e none, is)

  module _ (c : ThreadContext) (ts : List Task) where
    -- the state in which a function begins; it is that with which its stay returns
    abbrev begun : KernelState → List Task → (f : ℕ) → KernelState
    begun s us f = record (pushed s (record { context = c; tasks = us })) { running = callback c.context f 0 }

    begun_is : (s t : KernelState) (us : List Task) (f ra : ℕ) (answers : List ℕ) → (played (calls_back s c us f 0 ra) answers).end ≡ Returned t → t ≡ begun s us f
    begun_is s t us f ra answers = by (nat_lt (length s.frames) FRAME_BLOCKS)
      where
        by : (b : Bool) → (played (if b then Return (begun s us f) else Halt (Deep ra) s.memory) answers).end ≡ Returned t → t ≡ begun s us f
        by true e = sym (returned_is (begun s us f) t e)
        by false e = absurd (cc)

    module _ (s t : KernelState) (from value ra : ℕ) (answers : List ℕ) (e : (played (work s c (Scan class spec from ∷ ts) value ra) answers).end ≡ Returned t) where
      finishes : NoneCalled class spec from (length s.events) s.events → from ≤ length s.events → Finishes class spec c ts from value ra s t
      finishes none le =
          let h = delivers_to_the_last s c ts class spec from value ra le none in
          record { none = none; events = h.0; ready = h.1; answers = answers; leads = ap (λ stay. (played stay answers).end) (sym h.2) ∙ e }

      calls : (to : ℕ) → from ≤ to → to < length s.events → NoneCalled class spec from to s.events → calls_at s.events to ≡ true → CallsAt class spec c ts from to s t
      calls to le lt none is =
          let h = delivers_to_a_call s c ts class spec from to value ra le lt none is in
          let made = λ (es : List Event). begun (record s { events = es }) (Scan class spec (suc to) ∷ ts) (event s to).function in
          let q : t ≡ made h.0 = begun_is (record s { events = h.0 }) t (Scan class spec (suc to) ∷ ts) (event s to).function ra answers (ap (λ stay. (played stay answers).end) (sym h.2) ∙ e) in
          let es : t.events ≡ h.0 = ap (λ x. x.events) q in
          record { low = le; few = lt; none = none; called = is; ready = subst (Delivered class spec from to s.events) (sym es) h.1; begins = q ∙ ap made (sym es) }

      one_stay : from ≤ length s.events → Finishes class spec c ts from value ra s t ⊎ ((to : ℕ) × CallsAt class spec c ts from to s t)
      one_stay le = by (searched (length s.events - from) from s.events)
        where
          by : Searched (length s.events - from) from s.events → Finishes class spec c ts from value ra s t ⊎ ((to : ℕ) × CallsAt class spec c ts from to s t)
          by (inl none) = inl (finishes (subst (λ to. NoneCalled class spec from to s.events) (omega (arith, le)) none) le)
          by (inr (to, low, few, none, is)) = inr (to, calls to low (omega (arith, few, le)) none is)

      -- behind the last event nothing is left to be looked at
      past : length s.events < from → Finishes class spec c ts from value ra s t
      past lt =
          let none : length s.events - from ≡ 0 = omega (arith, lt) in
          let rest = λ (n : ℕ). (played (scan n class spec from s (λ x. work x c ts value ra) (λ x f i. calls_back x c (Scan class spec i ∷ ts) f 0 ra)) answers).end in
          record {
            none = λ k le few. absurd (omega (arith, lt, le, few));
            events = s.events;
            ready = record { count = refl; within = λ k le few. absurd (omega (arith, lt, le, few)); before = λ k less. refl; behind = λ k le. refl };
            answers = answers;
            leads = sym (ap rest none) ∙ e;
          }

      pub in_one_stay : Finishes class spec c ts from value ra s t ⊎ ((to : ℕ) × CallsAt class spec c ts from to s t)
      in_one_stay = ⊎_elim (λ (l : length s.events < from). inl (past l)) (λ (g : from ≤ length s.events). one_stay g) (cases_lt (length s.events) from)

-- ---- all stays

-- the return of the function that was called goes on with the scan from the next number
goes_on_scanning : (class spec : ℕ) (c : ThreadContext) (ts : List Task) (from to : ℕ) (s t : KernelState) (run : CallbackRun) → CallsAt class spec c ts from to s t → ComesBack (length s.frames) run t
    → let v = behind s.frames run in (played (work v c (Scan class spec (suc to) ∷ ts) (registers_of v).r2 (registers_of v).r31) run.answers).end ≡ Returned run.after
goes_on_scanning class spec c ts from to s t run at comes =
    let f : Frame = record { context = c; tasks = Scan class spec (suc to) ∷ ts } in
    let kept = frames_are_kept t run.returns s.frames f [] run.moves (ap (λ x. x.frames) at.begins) comes.done comes.last in
    ap (λ stay. (played stay run.answers).end) (sym (kept.back run.code comes.gate)) ∙ comes.goes_on

pub scan_reaches : ScanReaches
scan_reaches s t u c ts class spec from value ra answers [] e follow = in_one_stay class spec c ts s t from value ra answers e
scan_reaches s t u c ts class spec from value ra answers (run ∷ runs) e (comes, more) = ⊎_elim
    (λ (h : Finishes class spec c ts from value ra s t). inl h)
    (λ (h : (to : ℕ) × CallsAt class spec c ts from to s t).
    let v = behind s.frames run in
    inr (h.0, h.1, scan_reaches v run.after u c ts class spec (suc h.0) (registers_of v).r2 (registers_of v).r31 run.answers runs (goes_on_scanning class spec c ts from h.0 s t run h.1 comes) more))
    (in_one_stay class spec c ts s t from value ra answers e)

pub line_reaches : LineReaches
line_reaches s t u c ts n value ra answers runs e =
    let class : ℕ = class_of_line n in
    let by = λ (k : ℕ). (played (scan k class SPEC_OF_LINES 0 s (λ x. work x c ts value ra) (λ x f i. calls_back x c (Scan class SPEC_OF_LINES i ∷ ts) f 0 ra)) answers).end in
    let all : length s.events - 0 ≡ length s.events = omega arith in
    scan_reaches s t u c ts class SPEC_OF_LINES 0 value ra answers runs (ap by all ∙ e)

-- ---- a delivery that is done

fewer : (fs : List Frame) → length (without_innermost fs) ≤ length fs
fewer [] = omega arith
fewer (f ∷ []) = omega arith
fewer (f ∷ g ∷ fs) = let h = fewer (g ∷ fs) in omega (arith, h)

left_fewer : (move : Move) (s : KernelState) → length (left move s) ≤ length s.frames
left_fewer Step s = omega arith
left_fewer (Stays code answers) s = by _
  where
    by : (b : Bool) → length (if b then without_innermost s.frames else s.frames) ≤ length s.frames
    by true = fewer s.frames
    by false = omega arith

-- no function returns where its frame isn't there
no_frame_left : (d : ℕ) (moves : List Move) (t u : KernelState) → length t.frames ≡ d → Above (suc d) moves t u → length u.frames ≡ suc d → ⊥
no_frame_left d [] t u count is more = let same : length u.frames ≡ length t.frames = ap (λ x. length x.frames) is in omega (arith, count, same, more)
no_frame_left d (move ∷ moves) t u count (few, next, made, later) more = let h = left_fewer move t in omega (arith, count, few, h)

module _ (class spec : ℕ) (c : ThreadContext) where
  ends : (from value ra : ℕ) (s t : KernelState) → Finishes class spec c [] from value ra s t → Ends class spec c from s t
  ends from value ra s t h =
      let made = λ (es : List Event). resumed_by (record s { events = es }) c s.next s.frames in
      let q : t ≡ made h.events = sym (returned_is (made h.events) t h.leads) in
      let es : t.events ≡ h.events = ap (λ x. x.events) q ∙ kept h.events s.next s.frames in
      record { none = h.none; ready = subst (Delivered class spec from (length s.events) s.events) (sym es) h.ready; taken_up = q ∙ ap made (sym es) }
    where
      kept : (es : List Event) (o : Option ℕ) (fs : List Frame) → (resumed_by (record s { events = es }) c o fs).events ≡ es
      kept es None fs = refl
      kept es (Some n) [] = refl
      kept es (Some n) (f ∷ fs) = refl

  frames_back : (from : ℕ) (s t : KernelState) → Ends class spec c from s t → length t.frames ≡ length s.frames
  frames_back from s t h = ap (λ x. length x.frames) h.taken_up ∙ ap length (kept t.events s.next s.frames)
    where
      kept : (es : List Event) (o : Option ℕ) (fs : List Frame) → (resumed_by (record s { events = es }) c o fs).frames ≡ s.frames
      kept es None fs = refl
      kept es (Some n) [] = refl
      kept es (Some n) (f ∷ fs) = refl

  one_frame_more : (from to : ℕ) (s t : KernelState) → CallsAt class spec c [] from to s t → length t.frames ≡ suc (length s.frames)
  one_frame_more from to s t h =
      let f : Frame = record { context = c; tasks = Scan class spec (suc to) ∷ [] } in
      let all : length t.frames ≡ length (s.frames ++ (f ∷ [])) = ap (λ x. length x.frames) h.begins in
      omega (arith, all, length_push s.frames f)

  all_reached : (runs : List CallbackRun) (from value ra : ℕ) (s t u : KernelState)
      → Follow (length s.frames) runs t u → length u.frames ≡ length s.frames → Reaches class spec c [] runs from value ra s t → ReachesAll class spec c runs from s t
  all_reached [] from value ra s t u is count (inl h) = ends from value ra s t h
  all_reached [] from value ra s t u is count (inr (to, h)) =
      let more = one_frame_more from to s t h in let same : length u.frames ≡ length t.frames = ap (λ x. length x.frames) is in absurd (omega (arith, more, same, count))
  all_reached (run ∷ runs) from value ra s t u (comes, more) count (inl h) =
      absurd (no_frame_left (length s.frames) run.moves t run.returns (frames_back from s t (ends from value ra s t h)) comes.done comes.last)
  all_reached (run ∷ runs) from value ra s t u (comes, more) count (inr (to, h, rest)) =
      let v = behind s.frames run in (to, h, all_reached runs (suc to) (registers_of v).r2 (registers_of v).r31 v run.after u more count rest)

  delivery_reaches_all : (s t u : KernelState) (ra : ℕ) (answers : List ℕ) (runs : List CallbackRun)
      → (played (delivers s c class spec ra) answers).end ≡ Returned t → Follow (length s.frames) runs t u → length u.frames ≡ length s.frames → ReachesAll class spec c runs 0 s t
  delivery_reaches_all s t u ra answers runs e follow count = all_reached runs 0 0 ra s t u follow count (scan_reaches s t u c [] class spec 0 0 ra answers runs e follow)

-- ---- the laws

pub deliver_event_reaches_all : DeliverEventReachesAll
unfolding stay_of
deliver_event_reaches_all s t u code answers runs gate row made follow count =
    let v : KernelState = settled_state s in
    let r = registers_of v in
    let c : ThreadContext = record v.running { context = with_answer (taken v.running.context r.r31) 0 } in
    let stay : stay_of s code ≡ delivers v c r.r4 r.r5 r.r31 = ap (λ g. by_entrance g code v) gate ∙ ap (λ id. by_row B id v) row in
    delivery_reaches_all r.r4 r.r5 c v t u r.r31 answers runs (ap (λ x. (played x answers).end) (sym stay) ∙ made) follow count

four_and_more : (n : ℕ) (s : KernelState) → 4 ≤ n → syscall n s ≡ sys_delivers s
four_and_more (suc (suc (suc (suc n)))) s h = refl
four_and_more _ s h = absurd (omega (arith, h))

pub syscall_reaches_all : SyscallReachesAll
unfolding stay_of
syscall_reaches_all s t u code answers runs gate number made follow count =
    let v : KernelState = settled_state s in
    let x = v.running.context in
    let c : ThreadContext = record v.running { context = taken x (behind_syscall x) } in
    let stay : stay_of s code ≡ sys_delivers v = ap (λ g. by_entrance g code v) gate ∙ four_and_more (registers_of v).r4 v number in
    delivery_reaches_all SYSCALL_CLASS SYSCALL_SPEC c v t u (epc_of x) answers runs (ap (λ y. (played y answers).end) (sym stay) ∙ made) follow count
