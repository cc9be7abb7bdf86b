-- What a delivery makes ready, and what frames keep.
use Rattle.std.proofs.Common.{◌≡◌, ℕ, zero, suc, ◌+◌, ◌-◌, ◌%◌, ◌^◌, ◌<◌, ◌≤◌, Bool, true, false, List, [], ◌∷◌, ◌++◌, length, refl, sym, ap, ◌∙◌, subst, arith, ⊎_elim, take, drop, get_or-set_same, get_or-set_other}
use Rattle.std.specs.Prelude.{Option, Some, None, nat_eq, nat_lt, not, ◌&&◌, map, slice_set, slice_index_or, if◌then◌else◌}
use Rattle.std.proofs.lemmas.List.{length-set, set-get_or}
use Rattle.std.proofs.lemmas.Bool.{true≢false, false≢true, cases_eq, cases_lt}
use Rattle.psx_base.specs.Context.{Context, settled}
use Rattle.psx_base.specs.declared.stop.Stop.TheVariants.{Deep}
use Rattle.psx_base.specs.KernelState.{ThreadContext, Free, Used, Event, Element, Line, Frame, KernelState}
use Rattle.kern_layout.specs.Reads.{thread, event, no_event}
use Rattle.std.specs.List.{filter}
use Rattle.psx_base.specs.Ports.{I_STAT}
use Rattle.abs_kernel.specs.Stay.{Stay, Return, Halt, Tell}
use Rattle.abs_kernel.specs.Answered.{registers_of}
use Rattle.abs_kernel.specs.Callback.{pushed, callback}
use Rattle.abs_kernel.specs.Events.{marked}
use Rattle.abs_kernel.specs.Scan.{calling, matches, is_marked, is_called, made_ready, with_ready, scan}
use Rattle.abs_kernel.specs.Switching.{keeps, context_of}
use Rattle.abs_kernel.specs.TakingUp.{taken_up, gives_way, resumed_by, resumed}
use Rattle.abs_kernel.specs.Tasks.{without_line, class_of_line, SPEC_OF_LINES, work}
use Rattle.abs_kernel.specs.Interrupt.{handled, is_due}
use Rattle.abs_kernel.specs.InterruptLaws.{LineIsHandled, OnlyLines}
use Rattle.abs_kernel.specs.Returning.{innermost, without_innermost, popped, pops_by}
use Rattle.abs_kernel.specs.WorkLaws.{delivered, Delivered, NoneCalled, DeliversToAll, DeliversToTheLast, DeliversToACall, LastInFirstOut, GoesOnWithLast, TakenUpAsKept, CallbackLeavesNothing, DropsTasks, EightFrames, NamedIsTakenUp, NamedWaits}

-- ---- a list in which the elements from number i on are changed by f

abbrev changed_from : (Event → Event) → (i : ℕ) → List Event → List Event
changed_from f i es = take i es ++ map f (drop i es)

-- one more is changed before, or needs no change
one_changed : (f : Event → Event) (i : ℕ) (es : List Event) (d : Event) → i < length es → changed_from f (suc i) (slice_set es i (f (slice_index_or es i d))) ≡ changed_from f i es
one_changed f i [] d lt = absurd (omega (arith, lt))
one_changed f zero (e ∷ es) d lt = refl
one_changed f (suc i) (e ∷ es) d lt = ap (λ rest. e ∷ rest) (one_changed f i es d (omega (arith, lt)))

none_changed : (f : Event → Event) (es : List Event) → changed_from f (length es) es ≡ es
none_changed f [] = refl
none_changed f (e ∷ es) = ap (λ rest. e ∷ rest) (none_changed f es)

-- ---- a delivery

module _ (class spec : ℕ) where
  -- event i as a delivery leaves it
  abbrev with_delivered : KernelState → (i : ℕ) → KernelState
  with_delivered s i = record s { events = slice_set s.events i (delivered class spec (event s i)) }

  -- the scan's turn at an event whose function isn't to be called
  scan_on : (n i : ℕ) (s : KernelState) (done : KernelState → Stay) (called : KernelState → (function from : ℕ) → Stay) → is_called class spec (event s i) ≡ false
      → scan (suc n) class spec i s done called ≡ scan n class spec (suc i) (with_delivered s i) done called
  scan_on n i s done called h = chosen (is_marked class spec e) refl (is_called class spec e) h
    where
      e : Event
      e = event s i

      on : Event → Stay
      on x = scan n class spec (suc i) (record s { events = slice_set s.events i x }) done called

      as_is : delivered class spec e ≡ e → scan n class spec (suc i) s done called ≡ on (delivered class spec e)
      as_is same = ap (λ es. scan n class spec (suc i) (record s { events = es }) done called) (sym (set-get_or s.events i no_event)) ∙ ap on (sym same)

      chosen : (m : Bool) → is_marked class spec e ≡ m → (b : Bool) → b ≡ false
          → (if m then on (made_ready e) else (if b then called s e.function (suc i) else scan n class spec (suc i) s done called)) ≡ on (delivered class spec e)
      chosen true m b q = ap (λ x. on (if x then made_ready e else e)) (sym m)
      chosen false m true q = absurd (true≢false q)
      chosen false m false q = as_is (ap (λ x. if x then made_ready e else e) m)

  -- the later events are the same behind the turn
  same_later : (i to : ℕ) (s : KernelState) → NoneCalled class spec i to s.events → NoneCalled class spec (suc i) to (with_delivered s i).events
  same_later i to s h k le lt =
      let differ : k ≡ i → ⊥ = λ q. omega (arith, le, q) in
      ap (is_called class spec) (get_or-set_other s.events i k (delivered class spec (event s i)) no_event differ) ∙ h k (omega (arith, le)) lt

  count_later : (n i : ℕ) (s : KernelState) → i + suc n ≡ length s.events → suc i + n ≡ length (with_delivered s i).events
  count_later n i s e = omega (arith, e, length-set s.events i (delivered class spec (event s i)))

  -- ---- all events are changed, as a list

  scanned : (n i : ℕ) (s : KernelState) (done : KernelState → Stay) (called : KernelState → (function from : ℕ) → Stay) → i + n ≡ length s.events → NoneCalled class spec i (length s.events) s.events
      → scan n class spec i s done called ≡ done (record s { events = changed_from (delivered class spec) i s.events })
  scanned zero i s done called e h =
      let all : i ≡ length s.events = omega (arith, e) in
      ap (λ es. done (record s { events = es })) (sym (subst (λ k. changed_from (delivered class spec) k s.events ≡ s.events) (sym all) (none_changed (delivered class spec) s.events)))
  scanned (suc n) i s done called e h =
      let lt : i < length s.events = omega (arith, e) in
      let t : KernelState = with_delivered s i in
      let count : length t.events ≡ length s.events = length-set s.events i (delivered class spec (event s i)) in
      scan_on n i s done called (h i (omega arith) lt)
      ∙ scanned n (suc i) t done called (count_later n i s e) (subst (λ to. NoneCalled class spec (suc i) to t.events) (sym count) (same_later i (length s.events) s h))
      ∙ ap (λ es. done (record s { events = es })) (one_changed (delivered class spec) i s.events no_event lt)

  -- ---- one event more, by numbers

  nothing_delivered : (i : ℕ) (es : List Event) → Delivered class spec i i es es
  nothing_delivered i es = record { count = refl; within = λ k le lt. absurd (omega (arith, le, lt)); before = λ k lt. refl; behind = λ k le. refl }

  one_delivered : (i to : ℕ) (s : KernelState) (es : List Event) → i < to → i < length s.events → Delivered class spec (suc i) to (with_delivered s i).events es → Delivered class spec i to s.events es
  one_delivered i to s es low lt d = record {
    count = d.count ∙ length-set s.events i x;
    within = λ k le few. ⊎_elim
        (λ (q : k ≡ i). subst (λ j. slice_index_or es j no_event ≡ delivered class spec (event s j)) (sym q) (d.before i (omega arith) ∙ get_or-set_same s.events i x no_event lt))
        (λ (ne : k ≡ i → ⊥). d.within k (above k le ne) few ∙ ap (delivered class spec) (other k ne)) (cases_eq k i);
    before = λ k less. d.before k (omega (arith, less)) ∙ other k (λ q. omega (arith, less, q));
    behind = λ k le. d.behind k le ∙ other k (λ q. omega (arith, le, low, q));
  }
    where
      x : Event
      x = delivered class spec (event s i)

      other : (k : ℕ) → (k ≡ i → ⊥) → slice_index_or (slice_set s.events i x) k no_event ≡ event s k
      other k ne = get_or-set_other s.events i k x no_event ne

      above : (k : ℕ) → i ≤ k → (k ≡ i → ⊥) → suc i ≤ k
      above k le ne = ⊎_elim (λ (l : k < suc i). absurd (ne (omega (arith, l, le)))) (λ (g : suc i ≤ k). g) (cases_lt k (suc i))

  last_delivered : (n i : ℕ) (s : KernelState) (done : KernelState → Stay) (called : KernelState → (function from : ℕ) → Stay) → i + n ≡ length s.events → NoneCalled class spec i (length s.events) s.events
      → (es : List Event) × Delivered class spec i (length s.events) s.events es × (scan n class spec i s done called ≡ done (record s { events = es }))
  last_delivered zero i s done called e h = (s.events, subst (λ to. Delivered class spec i to s.events s.events) (omega (arith, e)) (nothing_delivered i s.events), refl)
  last_delivered (suc n) i s done called e h =
      let lt : i < length s.events = omega (arith, e) in
      let t : KernelState = with_delivered s i in
      let count : length t.events ≡ length s.events = length-set s.events i (delivered class spec (event s i)) in
      let later = last_delivered n (suc i) t done called (count_later n i s e) (subst (λ to. NoneCalled class spec (suc i) to t.events) (sym count) (same_later i (length s.events) s h)) in
      (later.0, one_delivered i (length s.events) s later.0 lt lt (subst (λ to. Delivered class spec (suc i) to t.events later.0) count later.1), scan_on n i s done called (h i (omega arith) lt) ∙ later.2)

  -- an event whose function is to be called isn't to become ready
  not_marked : (e : Event) → is_called class spec e ≡ true → is_marked class spec e ≡ false
  not_marked e h = not_both (matches class spec e) (nat_eq e.mode marked) refl h
    where
      not_both : (m r : Bool) → nat_eq e.mode marked ≡ r → (m && (nat_eq e.mode calling && not (nat_eq e.function 0))) ≡ true → (m && r) ≡ false
      not_both false r q h = refl
      not_both true false q h = refl
      not_both true true q h = absurd (other_mode (nat_eq e.mode calling) refl (not (nat_eq e.function 0)) h)
        where
          other_mode : (b : Bool) → nat_eq e.mode calling ≡ b → (f : Bool) → (b && f) ≡ true → ⊥
          other_mode false k f h = false≢true h
          other_mode true k f h = grind arith

  -- the events up to the one whose function is to be called are delivered, and it is called
  abbrev CalledAt : (n i to : ℕ) (s : KernelState) (done : KernelState → Stay) (called : KernelState → (function from : ℕ) → Stay) → Type 0
  CalledAt n i to s done called =
      (es : List Event) × Delivered class spec i to s.events es × (scan n class spec i s done called ≡ called (record s { events = es }) (event s to).function (suc to))

  call_delivered : (n i to : ℕ) (s : KernelState) (done : KernelState → Stay) (called : KernelState → (function from : ℕ) → Stay) → i + n ≡ length s.events → i ≤ to → to < length s.events
      → NoneCalled class spec i to s.events → is_called class spec (event s to) ≡ true → CalledAt n i to s done called
  call_delivered zero i to s done called e le lt h g = absurd (omega (arith, e, le, lt))
  call_delivered (suc n) i to s done called e le lt h g =
      let t : KernelState = with_delivered s i in
      let count : length t.events ≡ length s.events = length-set s.events i (delivered class spec (event s i)) in
      let on : i < to → CalledAt (suc n) i to s done called = λ (less : i < to).
      let same : event t to ≡ event s to = get_or-set_other s.events i to (delivered class spec (event s i)) no_event (λ q. omega (arith, less, q)) in
      let later = call_delivered n (suc i) to t done called (count_later n i s e) less (omega (arith, count, lt)) (same_later i to s h) (ap (is_called class spec) same ∙ g) in
      let end : scan (suc n) class spec i s done called ≡ called (record s { events = later.0 }) (event s to).function (suc to)
      = scan_on n i s done called (h i (omega arith) less) ∙ later.2 ∙ ap (λ (x : Event). called (record s { events = later.0 }) x.function (suc to)) same in
      (later.0, one_delivered i to s later.0 less (omega (arith, less, lt)) later.1, end) in
      let here : i ≡ to → CalledAt (suc n) i to s done called = λ (q : i ≡ to).
      let marked : is_marked class spec (event s i) ≡ false = not_marked (event s i) (ap (λ k. is_called class spec (event s k)) q ∙ g) in
      let at : is_called class spec (event s i) ≡ true = ap (λ k. is_called class spec (event s k)) q ∙ g in
      let turn : scan (suc n) class spec i s done called ≡ called s (event s i).function (suc i)
      = ap (λ m. if m then scan n class spec (suc i) (with_ready s i) done called else (if is_called class spec (event s i) then called s (event s i).function (suc i) else scan n class spec (suc i) s done called)) marked
      ∙ ap (λ b. if b then called s (event s i).function (suc i) else scan n class spec (suc i) s done called) at in
      (s.events, subst (λ k. Delivered class spec i k s.events s.events) q (nothing_delivered i s.events), turn ∙ ap (λ k. called s (event s k).function (suc k)) q) in
      ⊎_elim (λ (l : i < to). on l) (λ (k : to ≤ i). here (omega (arith, le, k))) (cases_lt i to)

pub delivers_to_all : DeliversToAll
delivers_to_all s c class spec ra h = scanned class spec (length s.events - 0) 0 s _ _ (omega arith) (λ k le lt. h k no_event lt)

pub delivers_to_the_last : DeliversToTheLast
delivers_to_the_last s c ts class spec from value ra le h = last_delivered class spec (length s.events - from) from s _ _ (omega (arith, le)) h

pub delivers_to_a_call : DeliversToACall
delivers_to_a_call s c ts class spec from to value ra le lt h g = call_delivered class spec (length s.events - from) from to s _ _ (omega (arith, le, lt)) le lt h g

pub line_is_handled : LineIsHandled
line_is_handled s c ts n value ra h = ap (λ stay. Tell I_STAT (without_line n) stay) (scanned (class_of_line n) SPEC_OF_LINES (length s.events) 0 s _ _ (omega arith) (λ k le lt. h k no_event lt))

pub only_lines : OnlyLines
only_lines s stat mask none = ap (λ es. map Element es ++ map Line (filter (is_due stat mask) handled)) none

-- ---- frames

innermost_last : (fs : List Frame) (f : Frame) → (innermost (fs ++ (f ∷ [])) ≡ Some f) × (without_innermost (fs ++ (f ∷ [])) ≡ fs)
innermost_last [] f = (refl, refl)
innermost_last (x ∷ []) f = (refl, refl)
innermost_last (x ∷ y ∷ fs) f = let h = innermost_last (y ∷ fs) f in (h.0, ap (λ rest. x ∷ rest) h.1)

pub last_in_first_out : LastInFirstOut
last_in_first_out s f = let h = innermost_last s.frames f in (h.0, ap (λ fs. record s { frames = fs }) h.1)

pub goes_on_with_last : GoesOnWithLast
goes_on_with_last s fs f e =
    let h = innermost_last fs f in
    let top : innermost s.frames ≡ Some f = ap innermost e ∙ h.0 in
    let rest : without_innermost s.frames ≡ fs = ap without_innermost e ∙ h.1 in
    ap (λ o. pops_by s (λ g. work (popped s) g.context g.tasks (registers_of s).r2 (registers_of s).r31) o) top
    ∙ ap (λ us. work (record s { frames = us }) f.context f.tasks (registers_of s).r2 (registers_of s).r31) rest

pub taken_up_as_kept : TakenUpAsKept
taken_up_as_kept c r =
    let k : Context = c.context in
    let made = λ (p q : Option (ℕ × ℕ)) (k0 k1 next : ℕ) (slot : Bool). record c { context = record { regs = record (settled k.regs p) { r26 = k0; r27 = k1 }; pending = q; pc = k.pc; next = next; in_slot = slot } } in
    ap (λ p. made p None k.pc 0 ((k.pc + 4) % 2 ^ 32) false) r.none_pending
    ∙ ap (λ q. made None q k.pc 0 ((k.pc + 4) % 2 ^ 32) false) (sym r.none_pending)
    ∙ ap (λ k0. made None k.pending k0 0 ((k.pc + 4) % 2 ^ 32) false) (sym r.k0)
    ∙ ap (λ k1. made None k.pending k.regs.r26 k1 ((k.pc + 4) % 2 ^ 32) false) (sym r.k1)
    ∙ ap (λ next. made None k.pending k.regs.r26 k.regs.r27 next false) (sym r.follows)
    ∙ ap (λ slot. made None k.pending k.regs.r26 k.regs.r27 k.next slot) (sym r.no_slot)

pub callback_leaves_nothing : CallbackLeavesNothing
callback_leaves_nothing s c running = goes_on_with_last (record (pushed s (record { context = c; tasks = [] })) { running = running }) s.frames (record { context = c; tasks = [] }) refl

pub drops_tasks : DropsTasks
drops_tasks s fs f e =
    let h = innermost_last fs f in
    ap (λ o. pops_by s (λ g. resumed (popped s) g.context) o) (ap innermost e ∙ h.0) ∙ ap (λ us. resumed (record s { frames = us }) f.context) (ap without_innermost e ∙ h.1)

below : (a b : ℕ) → a < b → nat_lt a b ≡ true
below a b h = grind arith

not_below : (a b : ℕ) → b ≤ a → nat_lt a b ≡ false
not_below a b h = grind arith

pub eight_frames : EightFrames
eight_frames s c left function argument ra =
    let called : Stay = Return (record (pushed s (record { context = c; tasks = left })) { running = callback c.context function argument }) in
    let either : Bool → Stay = λ b. if b then called else Halt (Deep ra) s.memory in
    (λ few. ap either (below (length s.frames) 8 few), λ many. ap either (not_below (length s.frames) 8 many))

-- ---- the thread that a callback has named

pub named_waits : NamedWaits
named_waits s f fs c e = ap (λ us. Return (resumed_by s c s.next us)) e ∙ either s.next
  where
    either : (o : Option ℕ) → Return (resumed_by s c o (f ∷ fs)) ≡ Return (record s { running = taken_up c })
    either None = refl
    either (Some n) = refl

pub named_is_taken_up : NamedIsTakenUp
named_is_taken_up s f n own other frames rests next few mine its =
    let c : ThreadContext = f.context in
    let now = keeps (taken_up c) (thread s s.current) in
    let last : KernelState = record s { frames = [] } in
    let up : resumed last c ≡ Return (gives_way last c n) = ap (λ o. Return (resumed_by last c o [])) next in
    let by_work = λ (none : f.tasks ≡ []). ap (λ ts. work last c ts (registers_of s).r2 (registers_of s).r31) none in (
      gives_way last c n,
      record {
        running = ap context_of its;
        current = refl;
        none = refl;
        slot = get_or-set_same s.threads s.current now Free few ∙ ap (keeps (taken_up c)) mine ∙ ap Used (taken_up_as_kept c rests);
        others = λ k ne. get_or-set_other s.threads s.current k now Free ne;
      },
      λ none. goes_on_with_last s [] f frames ∙ by_work none ∙ up,
      drops_tasks s [] f frames ∙ up,
    )
