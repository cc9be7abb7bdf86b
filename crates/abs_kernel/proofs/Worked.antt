-- Tasks keep a valid state valid.
use Rattle.std.proofs.Common.{◌≡◌, ℕ, zero, suc, ◌+◌, ◌-◌, ◌<◌, ◌≤◌, Bool, true, false, List, [], ◌∷◌, ◌++◌, length, sym, ap, ◌∙◌, subst, arith, inr, refl}
use Rattle.std.specs.Prelude.{All, Option, Some, None, nat_eq, nat_lt, slice_set, if◌then◌else◌}
use Rattle.std.proofs.lemmas.Bool.{false≢true, ltb-true}
use Rattle.std.proofs.lemmas.List.{length-set, length_push}
use Rattle.std.proofs.lemmas.List.Elements.{All-push, All-cons, All-tail}
use Rattle.psx_base.specs.Addresses.{place}
use Rattle.psx_base.specs.Memory.{word}
use Rattle.psx_base.specs.Context.{Context, IsAtRest}
use Rattle.psx_base.specs.KernelState.{ThreadContext, Thread, Free, Used, Event, Task, Element, Second, Line, Scan, Frame, KernelState}
use Rattle.kern_layout.specs.declared.places.TheConstants.{FRAME_BLOCKS}
use Rattle.kern_layout.specs.Reads.{thread, event}
use Rattle.kern_layout.specs.Tasks.{elements_of}
use Rattle.kern_layout.specs.Valid.{ThreadRests, IsUsed, NextFits, TasksFit, FrameFits, Valid}
use Rattle.abs_kernel.specs.Stay.{Stay}
use Rattle.abs_kernel.specs.Answered.{registers_of}
use Rattle.abs_kernel.specs.StayLaws.{EachReturn}
use Rattle.abs_kernel.specs.Switching.{keeps, context_of}
use Rattle.abs_kernel.specs.Callback.{callback, calls_back}
use Rattle.abs_kernel.specs.Scan.{is_marked, is_called, made_ready, with_ready, scan}
use Rattle.abs_kernel.specs.TakingUp.{taken_up, resumed_by, resumed}
use Rattle.abs_kernel.specs.Tasks.{first_of, second_of, reads_function, class_of_line, SPEC_OF_LINES, work}
use Rattle.abs_kernel.specs.Returning.{innermost, without_innermost, popped, pops_by}
use Rattle.abs_kernel.specs.WorkLaws.{IsNext, Working, GoesOn, WorkKeepsValid, BackKeepsValid, DeliveryKeepsValid}
use Rattle.abs_kernel.proofs.Threaded.{rests_set, valid_threaded}
use Rattle.abs_kernel.proofs.Evented.{events_set, valid_evented}
use Rattle.abs_kernel.proofs.Moved.{valid_moved}
use Rattle.abs_kernel.proofs.Ending.{rest_fits, at_rest, if_ends, if_ends_by}
use Rattle.abs_kernel.proofs.TasksLeft.{no_elements, left_fits, left, with_second, with_scan}

-- ---- states

-- the thread to take up, where a frame is there
next_fits : (s : KernelState) (o : Option ℕ) → 0 < length s.frames → IsNext s o → NextFits s o
next_fits s None some h = tt
next_fits s (Some n) some h = (h.0, h.1, h.2, some)

pub next_of : (s : KernelState) (o : Option ℕ) → NextFits s o → IsNext s o
next_of s None h = tt
next_of s (Some n) h = (h.0, h.1, h.2)

-- a valid state with its thread to take up put there, or left out
valid_next : (s : KernelState) (o : Option ℕ) → NextFits s o → Valid (record s { next = None }) → Valid (record s { next = o })
valid_next s o fits v = valid_threaded (record s { next = None }) s.threads s.current o v (record { count = refl; rest = v.threads; running = v.current; next = fits' o fits })
  where
    fits' : (o : Option ℕ) → NextFits s o → NextFits (record s { next = o }) o
    fits' None h = tt
    fits' (Some n) h = h

pub valid_no_next : (s : KernelState) → Valid s → Valid (record s { next = None })
valid_no_next s v = valid_threaded s s.threads s.current None v (record { count = refl; rest = v.threads; running = v.current; next = tt })

-- other frames
valid_framed : (s : KernelState) (fs : List Frame) → s.next ≡ None → Valid s → length fs ≤ 8 → All (FrameFits (length s.events)) fs → Valid (record s { frames = fs })
valid_framed s fs none v few fit = record {
  threads_least = v.threads_least;
  threads_most = v.threads_most;
  threads = v.threads;
  current = v.current;
  running = v.running;
  next = subst (NextFits (record s { frames = fs })) (sym none) tt;
  events_least = v.events_least;
  events_most = v.events_most;
  statuses = v.statuses;
  frames_most = few;
  frames = fit;
  chains_count = v.chains_count;
  chains = v.chains;
  heap = v.heap;
  files_count = v.files_count;
  files = v.files;
  line = v.line;
}

-- ---- the state while tasks are done, with so many events

record Base (events : ℕ) (s : KernelState) : Type 0 where
  count : length s.events ≡ events
  valid : Valid (record s { next = None })
  next : IsNext s s.next

base_ready : (events : ℕ) (s : KernelState) (i : ℕ) → Base events s → Base events (with_ready s i)
base_ready events s i b =
    let e : Event = made_ready (event s i) in
    let count : length (slice_set s.events i e) ≡ length s.events = length-set s.events i e in
    record {
      count = count ∙ b.count;
      valid = valid_evented (record s { next = None }) (slice_set s.events i e) b.valid (events_set s.events i e (inr (inr (inr refl))));
      next = same s.next b.next;
    }
  where
    same : (o : Option ℕ) → IsNext s o → IsNext (with_ready s i) o
    same None h = tt
    same (Some n) h = h

-- a scan ends as what follows it does
scan_ends : (P : KernelState → Type 0) (events n class spec i : ℕ) (s : KernelState) (done : KernelState → Stay) (called : KernelState → (function from : ℕ) → Stay)
    → ((t : KernelState) → Base events t → EachReturn P (done t)) → ((t : KernelState) (f j : ℕ) → Base events t → j ≤ i + n → EachReturn P (called t f j)) → Base events s → EachReturn P (scan n class spec i s done called)
scan_ends P events zero class spec i s done called d c b = d s b
scan_ends P events (suc n) class spec i s done called d c b =
    let e = event s i in
    let later = λ (t : KernelState) (g : Base events t). scan_ends P events n class spec (suc i) t done called d (λ u f j h le. c u f j h (omega (arith, le))) g in
    if_ends P _ (is_marked class spec e) _ _ (later (with_ready s i) (base_ready events s i b))
    (if_ends P _ (is_called class spec e) _ _ (c s e.function (suc i) b (omega arith)) (later s b))

-- ---- the ends of tasks

callback_rests : (c : Context) (function argument : ℕ) → IsAtRest (callback c function argument).context
callback_rests c function argument = record { follows = refl; no_slot = refl; k0 = refl; k1 = refl; none_pending = refl }

-- a call of a function, with tasks left that fit
calls_end : (events : ℕ) (s : KernelState) (c : ThreadContext) (ts : List Task) (function argument ra : ℕ)
    → Base events s → IsAtRest c.context → TasksFit events ts → EachReturn GoesOn (calls_back s c ts function argument ra)
calls_end events s c ts function argument ra b rests fit = if_ends_by GoesOn _ (nat_lt (length s.frames) FRAME_BLOCKS) _ _ returns (λ e. tt)
  where
    f : Frame
    f = record { context = c; tasks = ts }

    now : List Frame
    now = s.frames ++ (f ∷ [])

    run : ThreadContext
    run = callback c.context function argument

    returns : nat_lt (length s.frames) FRAME_BLOCKS ≡ true → GoesOn (record s { frames = now; running = run })
    returns e =
        let room : length s.frames < 8 = ltb-true (length s.frames) 8 e in
        let count : length now ≡ length s.frames + 1 = length_push s.frames f in
        let fits : FrameFits (length s.events) f = record { rests = rests; tasks = subst (λ n. TasksFit n ts) (sym b.count) fit } in
        let framed = valid_framed (record s { next = None }) now refl b.valid (omega (arith, room, count)) (All-push (FrameFits (length s.events)) s.frames f b.valid.frames fits) in
        let t : KernelState = record s { frames = now } in
        let v : Valid t = valid_next t s.next (next_fits t s.next (omega (arith, count)) (same s.next b.next)) framed in
        (valid_moved t t.memory t.random run v (rest_fits run.context (callback_rests c.context function argument)), callback_rests c.context function argument)
      where
        same : (o : Option ℕ) → IsNext s o → IsNext (record s { frames = now }) o
        same None h = tt
        same (Some n) h = h

kept_rests : (c : ThreadContext) (t : Thread) → ThreadRests (keeps (taken_up c) t)
kept_rests c Free = tt
kept_rests c (Used u) = at_rest c.context c.context.pc

used_rests : (t : Thread) → IsUsed t → ThreadRests t → IsAtRest (context_of t).context
used_rests Free u h = absurd u
used_rests (Used t) u h = h

-- the taking up of a context
resumed_ends : (events : ℕ) (s : KernelState) (c : ThreadContext) → Base events s → (o : Option ℕ) → s.next ≡ o → (fs : List Frame) → s.frames ≡ fs → GoesOn (resumed_by s c o fs)
resumed_ends events s c b None e fs q =
    let v : Valid s = subst (λ o. Valid (record s { next = o })) (sym e) b.valid in
    (valid_moved s s.memory s.random (taken_up c) v (rest_fits _ (at_rest c.context c.context.pc)), at_rest c.context c.context.pc)
resumed_ends events s c b (Some n) e [] q =
    let named : IsNext s (Some n) = subst (IsNext s) e b.next in
    let t : Thread = keeps (taken_up c) (thread s s.current) in
    let threads : List Thread = slice_set s.threads s.current t in
    let count : length threads ≡ length s.threads = length-set s.threads s.current t in
    let rests = used_rests (thread s n) named.1 (b.valid.threads n Free named.0) in
    let v = valid_threaded (record s { next = None }) threads n None b.valid
    (record { count = count; rest = rests_set s.threads s.current t (kept_rests c (thread s s.current)) b.valid.threads; running = omega (arith, named.0, count); next = tt }) in
    (valid_moved _ s.memory s.random (context_of (thread s n)) v (rest_fits _ rests), rests)
resumed_ends events s c b (Some n) e (f ∷ fs) q =
    let some : 0 < length s.frames = let l : length s.frames ≡ suc (length fs) = ap length q in omega (arith, l) in
    let v : Valid s = valid_next s s.next (next_fits s s.next some b.next) b.valid in
    (valid_moved s s.memory s.random (taken_up c) v (rest_fits _ (at_rest c.context c.context.pc)), at_rest c.context c.context.pc)

-- a function's address is read, and 0 is passed over
function_ends : (s : KernelState) (at : ℕ) (on : Stay) (called : ℕ → Stay) → EachReturn GoesOn on → ((f : ℕ) → EachReturn GoesOn (called f)) → EachReturn GoesOn (reads_function s at (λ f. if nat_eq f 0 then on else called f))
function_ends s at on called h g = let f = word s.memory (place at) in if_ends GoesOn _ (nat_eq f 0) on (called f) h (g f)

-- all tasks
tasks_end : (events : ℕ) (s : KernelState) (c : ThreadContext) (ts : List Task) (value ra : ℕ) → IsAtRest c.context → Base events s → TasksFit events ts → EachReturn GoesOn (work s c ts value ra)
tasks_end events s c [] value ra rests b fit = resumed_ends events s c b s.next refl s.frames refl
tasks_end events s c (Element e ∷ ts) value ra rests b fit =
    let l = left events (Element e) ts fit in
    function_ends s (first_of e) (work s c ts value ra) (λ f. calls_back s c (Second e ∷ ts) f 0 ra) (tasks_end events s c ts value ra rests b (left_fits events ts l)) (λ f. calls_end events s c (Second e ∷ ts) f 0 ra b rests (with_second events e ts fit.each.0 l))
tasks_end events s c (Second e ∷ ts) value ra rests b fit =
    let l = left_fits events ts (left events (Second e) ts fit) in
    let on = tasks_end events s c ts value ra rests b l in
    if_ends GoesOn (λ stop memory. Unit {0}) (nat_eq value 0) (work s c ts value ra) _ on
    (function_ends s (second_of e) (work s c ts value ra) (λ f. calls_back s c ts f value ra) on (λ f. calls_end events s c ts f value ra b rests l))
tasks_end events s c (Line n ∷ ts) value ra rests b fit =
    let l = left events (Line n) ts fit in
    scan_ends GoesOn events (length s.events) (class_of_line n) SPEC_OF_LINES 0 s _ _ (λ t g. tasks_end events t c ts value ra rests g (left_fits events ts l))
    (λ t f i g le. calls_end events t c (Scan (class_of_line n) SPEC_OF_LINES i ∷ ts) f 0 ra g rests
    (with_scan events (class_of_line n) SPEC_OF_LINES i ts (no_elements n ts (elements_of ts) fit.order) (omega (arith, le, b.count)) l)) b
tasks_end events s c (Scan class spec from ∷ ts) value ra rests b fit =
    let l = left events (Scan class spec from) ts fit in
    let low : from ≤ events = fit.each.0 in
    scan_ends GoesOn events (length s.events - from) class spec from s _ _ (λ t g. tasks_end events t c ts value ra rests g (left_fits events ts l))
    (λ t f i g le. calls_end events t c (Scan class spec i ∷ ts) f 0 ra g rests (with_scan events class spec i ts fit.after_scan (omega (arith, le, low, b.count)) l)) b

-- ---- the laws

pub work_keeps_valid : WorkKeepsValid
work_keeps_valid s c ts value ra w = tasks_end (length s.events) s c ts value ra w.context (record { count = refl; valid = w.valid; next = w.next }) w.tasks

abbrev frame_or : Frame → Option Frame → Frame
frame_or f None = f
frame_or f (Some g) = g

abbrev is_some : Option Frame → Bool
is_some None = false
is_some (Some f) = true

none_some : {f : Frame} → None ≡ Some f → ⊥
none_some e = false≢true (ap is_some e)

some_same : {f g : Frame} → Some f ≡ Some g → f ≡ g
some_same {f} e = ap (frame_or f) e

-- the innermost frame is one of the frames, and the others are too
innermost_fits : (P : Frame → Type 0) (fs : List Frame) (f : Frame) → All P fs → innermost fs ≡ Some f → P f × All P (without_innermost fs) × (suc (length (without_innermost fs)) ≡ length fs)
innermost_fits P [] f h e = absurd (none_some e)
innermost_fits P (x ∷ []) f h e = (subst P (some_same e) (h 0 x (omega arith)), (λ k d lt. absurd (omega (arith, lt))), refl)
innermost_fits P (x ∷ y ∷ fs) f h e =
    let more = innermost_fits P (y ∷ fs) f (All-tail P x (y ∷ fs) h) e in
    (more.0, All-cons P x (without_innermost (y ∷ fs)) (h 0 x (omega arith)) more.1, ap suc more.2)

-- a valid state without its innermost frame
popped_base : (s : KernelState) (f : Frame) → Valid s → innermost s.frames ≡ Some f → FrameFits (length s.events) f × Base (length s.events) (popped s)
popped_base s f v e =
    let fits = innermost_fits (FrameFits (length s.events)) s.frames f v.frames e in
    let few : length (without_innermost s.frames) ≤ 8 = omega (arith, fits.2, v.frames_most) in
    (fits.0, record { count = refl; valid = valid_framed (record s { next = None }) (without_innermost s.frames) refl (valid_no_next s v) few fits.1; next = same s.next (next_of s s.next v.next) })
  where
    same : (o : Option ℕ) → IsNext s o → IsNext (popped s) o
    same None h = tt
    same (Some n) h = h

-- with the frame's context and tasks it is one in which tasks are done
pub popped_works : (s : KernelState) (f : Frame) → Valid s → innermost s.frames ≡ Some f → Working (popped s) f.context f.tasks
popped_works s f v e = let p = popped_base s f v e in record { valid = p.1.valid; next = p.1.next; context = p.0.rests; tasks = p.0.tasks }

pub back_keeps_valid : BackKeepsValid
back_keeps_valid s v = (
  goes_back (λ f. work (popped s) f.context f.tasks (registers_of s).r2 (registers_of s).r31) (λ f e. let p = popped_base s f v e in tasks_end _ _ _ _ _ _ p.0.rests p.1 p.0.tasks) (innermost s.frames) refl,
  goes_back (λ f. resumed (popped s) f.context) (λ f e. let p = popped_base s f v e in resumed_ends _ (popped s) f.context p.1 s.next refl (popped s).frames refl) (innermost s.frames) refl,
)
  where
    goes_back : (next : Frame → Stay) → ((f : Frame) → innermost s.frames ≡ Some f → EachReturn GoesOn (next f)) → (o : Option Frame) → innermost s.frames ≡ o → EachReturn GoesOn (pops_by s next o)
    goes_back next h None e = tt
    goes_back next h (Some f) e = h f e

pub delivery_keeps_valid : DeliveryKeepsValid
delivery_keeps_valid s c class spec ra v rests =
    work_keeps_valid s c (Scan class spec 0 ∷ []) 0 ra (record { valid = valid_no_next s v; next = next_of s s.next v.next; context = rests; tasks = record { order = refl; after_scan = refl; elements = omega arith; lines = omega arith; each = (omega arith, tt) } })
