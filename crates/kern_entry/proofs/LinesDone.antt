-- The lines among the tasks, each with its scan, as the listing of WORK does them.
use Rattle.psx_flow.proofs.Kit.{◌≡◌, ℕ, suc, ◌+◌, ◌-◌, ◌*◌, ◌%◌, ◌^◌, ◌≤◌, ◌++◌, inr, List, [], ◌∷◌, length, refl, sym, ap, ◌∙◌, subst, arith, ⊎_elim, Memory, word, put_word, Registers, Cop0, Run, Access, PortWrite, Goal, Tree, Stop, Do, Choose, Loop, Meets, Calls, calls, Fair, fair, kernel_words, Part, Anew, Calling, Count, run, while, Turn, Sym, ended, word_sort, Kernel, place}
use Rattle.std.proofs.Common.{zero, ne_eqb}
use Rattle.std.specs.Prelude.{Option, Some, None, if◌then◌else◌}
use Rattle.psx_base.specs.Ports.{I_STAT}
use Rattle.psx_base.specs.KernelState.{ThreadContext, Event, Task, Line, Scan, KernelState}
use Rattle.psx_flow.specs.Told.{ports}
use Rattle.psx_flow.proofs.Knows.{first_call, later_call}
use Rattle.kern_layout.specs.Tasks.{TasksAt}
use Rattle.kern_layout.specs.Valid.{IsLine, TasksFit}
use Rattle.kern_layout.proofs.MemoryStored.{word_stored}
use Rattle.kern_layout.proofs.Blocks.{put_other}
use Rattle.abs_kernel.specs.Stay.{Stay, Tell}
use Rattle.abs_kernel.specs.Callback.{calls_back}
use Rattle.abs_kernel.specs.Scan.{scan}
use Rattle.abs_kernel.specs.TakingUp.{resumed}
use Rattle.abs_kernel.specs.Tasks.{class_of_line, without_line, work}
use Rattle.abs_kernel.specs.WorkLaws.{IsNext, Working}
use Rattle.abs_kernel.proofs.Evented.{EventsFit, events_same, valid_evented}
use Rattle.abs_kernel.proofs.TasksLeft.{Left, left_fits, left, with_scan}
use Rattle.kern_stay.specs.declared.places.TheConstants.{WORK, PUSH, TAKE_UP}
use Rattle.kern_stay.specs.Follows.{written_of, after, IsWritten, Follows}
use Rattle.kern_stay.specs.Shared.{tree, tested_there}
use Rattle.kern_stay.specs.Doors as door
use Rattle.kern_stay.specs.Doors.{Holds, CallsBack, TakesUp, AtCall, GoesOnWithin}
use Rattle.kern_stay.proofs.Copying.{data_place, data_sort}
use Rattle.kern_stay.proofs.Ending.{at_once}
use Rattle.kern_stay.proofs.Looping.{loop_test, loop_body, behind_loop}
use Rattle.kern_entry.specs.WorkOwn.{work_own}
use Rattle.kern_entry.specs.declared.places.TheConstants.{ELEMENTS, SCAN}
use Rattle.kern_entry.specs.declared.elements.TheConstants.{ELEMENTS_NODES}
use Rattle.kern_entry.specs.declared.scan.TheConstants.{SCAN_NODES}
use Rattle.kern_entry.specs.declared.work.TheConstants.{WORK_NODES}
use Rattle.kern_entry.proofs.TasksHeld.{Sized, sized, sized_events, behind_none, behind_put, holds_behind}
use Rattle.kern_entry.proofs.TaskForms.{plain, elements_plain, lines_plain, Parts, tasks_at, parts_same, line_less, touched}
use Rattle.kern_entry.proofs.ScanSteps.{Done, Called, busy, busy_few}
use Rattle.kern_entry.proofs.Scanning.{ScanDone, ScanCalls, Scanned, ScanKnown, scans}
use Rattle.kern_entry.proofs.ElementsTaken.{ElementsKnown, First, AfterFirst, takes_first, takes_second}

-- ---- what the listing calls

abbrev pub C : Calls
C = calls kernel_words (work_own ++ tested_there)

pub fair_own : Fair C
fair_own = fair kernel_words (work_own ++ tested_there)

abbrev behind_elements : List (ℕ × Tree)
behind_elements = (SCAN, tree SCAN_NODES) ∷ tested_there

scanning : (s : KernelState) (t : ThreadContext) → Sized s → (m : Memory) → Holds (record s { running = t }) m → (c : Registers) → c.r14 ≡ 0x80010000 → c.r13 ≤ length s.events → (z : Cop0) (q : List Access) (p : Count) (k : Part) → ScanKnown k s t m c q p
    → Calling C SCAN c.r31 k c z m [] q p
scanning s t sz m holds c r14 few z q p k known = record {
  called = λ ok. later_call SCAN (ELEMENTS, tree ELEMENTS_NODES) behind_elements c.r31 (Anew k) (run c z m [] q p) refl
      (first_call SCAN (tree SCAN_NODES) tested_there c.r31 (Anew k) (run c z m [] q p) refl
      (scans (calls kernel_words tested_there) (fair kernel_words tested_there) s t sz m c r14 few q p k known z holds));
}

module _ (s : KernelState) (t : ThreadContext) (sz : Sized s) (ra : ℕ) (whole : Stay) (es ls : List ℕ) (m : Memory) (holds : Holds (record s { running = t }) m) (fits : Left (length s.events) (plain es ls)) (parts : Parts (word m) es ls)
    (c : Registers) (r14 : c.r14 ≡ 0x80010000) (z : Cop0) (q : List Access) (p : Count) (k : Part) (known : ElementsKnown k s t ra whole ls m c q p) where
  pub taking : First s t ra whole es ls m c → Calling C ELEMENTS c.r31 k c z m [] q p
  taking first = record {
    called = λ ok. first_call ELEMENTS (tree ELEMENTS_NODES) behind_elements c.r31 (Anew k) (run c z m [] q p) refl
        (takes_first (calls kernel_words behind_elements) (fair kernel_words behind_elements) s t sz ra whole ls m holds c r14 q p k known es z fits parts first);
  }

  pub taking_second : AfterFirst s t ra whole es ls m c → Calling C ELEMENTS c.r31 k c z m [] q p
  taking_second h = record {
    called = λ ok. first_call ELEMENTS (tree ELEMENTS_NODES) behind_elements c.r31 (Anew k) (run c z m [] q p) refl
        (takes_second (calls kernel_words behind_elements) (fair kernel_words behind_elements) s t sz ra whole ls m holds c r14 q p k known es z fits parts h);
  }

-- ---- behind what a stay touches

door_behind : (P : Stay → Type 0) (n : ℕ) (rest : Stay) → P rest → door.Behind P (touched n rest)
door_behind P zero rest h = at_once P rest h
door_behind P (suc n) rest h = inr (door_behind P n rest h)

told_behind : (n v : ℕ) (next : Stay) → IsWritten I_STAT v (touched n (Tell I_STAT v next))
told_behind zero v next = (refl, refl, refl)
told_behind (suc n) v next = told_behind n v next

rest_behind : (n v : ℕ) (next : Stay) → written_of (touched n (Tell I_STAT v next)) ≡ next
rest_behind zero v next = refl
rest_behind (suc n) v next = rest_behind n v next

-- ---- a line's numbers

mask_of : (l : ℕ) → IsLine l → 2 ^ 32 - 1 - 1 * 2 ^ (l % 32) % 2 ^ 32 ≡ without_line l
mask_of l h = ⊎_elim (λ (a : l ≡ 0). by 0 a refl) (λ h. ⊎_elim (λ (a : l ≡ 4). by 4 a refl) (λ h. ⊎_elim (λ (a : l ≡ 5). by 5 a refl) (λ (a : l ≡ 6). by 6 a refl) h) h) h
  where
    by : (n : ℕ) → l ≡ n → 2 ^ 32 - 1 - 1 * 2 ^ (n % 32) % 2 ^ 32 ≡ without_line n → 2 ^ 32 - 1 - 1 * 2 ^ (l % 32) % 2 ^ 32 ≡ without_line l
    by n a e = subst (λ l. 2 ^ 32 - 1 - 1 * 2 ^ (l % 32) % 2 ^ 32 ≡ without_line l) (sym a) e

class_of : (l : ℕ) → IsLine l → (l ≡ 0 → ⊥) → ((0xF2000000 + l) % 2 ^ 32 + 0xFFFFFFFC) % 2 ^ 32 ≡ class_of_line l
class_of l h ne =
    let is : class_of_line l ≡ 0xF2000000 + (l - 4) = ap (λ b. if b then 0xF2000003 else 0xF2000000 + (l - 4)) (ne_eqb l 0 ne) in
    let low : (4 ≤ l) × (l ≤ 6) = ⊎_elim (λ (a : l ≡ 0). absurd (ne a)) (λ h. ⊎_elim (λ (a : l ≡ 4). (omega (arith, a), omega (arith, a))) (λ h. ⊎_elim (λ (a : l ≡ 5). (omega (arith, a), omega (arith, a))) (λ (a : l ≡ 6). (omega (arith, a), omega (arith, a))) h) h) h in
    (let e : ((0xF2000000 + l) % 2 ^ 32 + 0xFFFFFFFC) % 2 ^ 32 ≡ 0xF2000000 + (l - 4) = omega (arith, low.0, low.1) in e) ∙ sym is

-- ---- other events, and other tasks

working_on : (s : KernelState) (t : ThreadContext) (ts us : List Task) (events : List Event) → Working s t ts → EventsFit s.events events → TasksFit (length s.events) us → Working (record s { events = events }) t us
working_on s t ts us events w f fits = record {
  valid = valid_evented (record s { next = None }) events w.valid f;
  next = same s.next w.next;
  context = w.context;
  tasks = subst (λ n. TasksFit n us) (sym f.count) fits;
}
  where
    same : (o : Option ℕ) → IsNext s o → IsNext (record s { events = events }) o
    same None h = tt
    same (Some n) h = h

-- ---- the loop over lines

-- what stands behind the choice between a scan and elements
abbrev behind_choice : Tree → Tree
behind_choice (Do i rest) = behind_choice rest
behind_choice (Choose test a b rest) = rest
behind_choice _ = Stop

abbrev pub lines_tree : Tree
lines_tree = behind_choice (tree WORK_NODES)

abbrev pub lines_at : ℕ
lines_at = WORK + 0x54

-- one turn, at its address
abbrev TurningAt : (at : ℕ) → (ℕ → Goal) → (ℕ → Goal) → ℕ → Goal
TurningAt at G Inv k e = Turn C (loop_test lines_tree) (loop_body lines_tree) at (Sym C (behind_loop lines_tree) 0 (ended (λ _. ⊥)) G) G ℕ (λ i. i) Inv k e

abbrev pub done : ThreadContext → (ls : List ℕ) → (value ra : ℕ) → Done
done t ls value ra u = work u t (plain [] ls) value ra

abbrev pub called : ThreadContext → (ls : List ℕ) → (class spec ra : ℕ) → Called
called t ls class spec ra u f i = calls_back u t (Scan class spec i ∷ plain [] ls) f 0 ra

-- at its head, with k lines to come behind a scan
pub record Head (most : ℕ) (rest : Stay) (s : KernelState) (t : ThreadContext) (value ra : ℕ) (k : ℕ) (e : Run) : Type 0 where
  ls : List ℕ
  count : length ls ≡ k
  events : List Event
  fit : EventsFit s.events events
  told : List Access
  port : ports e.seen ≡ told
  follows : Follows rest told
  touches : ℕ
  is : after rest told ≡ touched touches (scan (length events - e.regs.r13) e.regs.r4 e.regs.r5 e.regs.r13 (record s { events = events }) (done t ls value ra) (called t ls e.regs.r4 e.regs.r5 ra))
  from : e.regs.r13 ≤ length events
  fits : Left (length s.events) (plain [] ls)
  within : e.steps + 1460 * k + 22 * (length events - e.regs.r13) + busy events + 44 ≤ most
  holds : Holds (record s { events = events; running = t }) e.bytes
  parts : Parts (word e.bytes) [] ls
  r10 : e.regs.r10 ≡ k
  r14 : e.regs.r14 ≡ 0x80010000
  r17 : e.regs.r17 ≡ 0
  r18 : e.regs.r18 ≡ ra

module _ (most : ℕ) (bound : most ≤ 8192) (at : ℕ) (rest : Stay) (s : KernelState) (t : ThreadContext) (ts : List Task) (w : Working s t ts) (value ra : ℕ) where
  abbrev pub G : ℕ → Goal
  G to e = GoesOnWithin AtCall rest most to e

  abbrev pub Inv : ℕ → Goal
  Inv k e = Head most rest s t value ra k e

  sz : Sized s
  sz = sized s w.valid

  -- a function is called: at PUSH
  pub pushes : (e : Run) (told : List Access) (touches : ℕ) (events : List Event) (left : List Task) → ports e.seen ≡ told → Follows rest told → after rest told ≡ touched touches (calls_back (record s { events = events }) t left e.regs.r16 e.regs.r17 e.regs.r18)
      → EventsFit s.events events → TasksFit (length s.events) left → Holds (record s { events = events; running = t }) e.bytes → TasksAt (word e.bytes) 0xEB00 left → e.steps ≤ most → G PUSH e
  pushes e told touches events left port follows is fit fits holds tasks few = record {
    told = told;
    ports = port;
    follows = follows;
    goes = (
      few,
      omega (arith, few, bound),
      subst (door.Behind (λ x. AtCall x PUSH e)) (sym is) (door_behind (λ x. AtCall x PUSH e) touches _ (record {
        state = record s { events = events };
        context = t;
        tasks = left;
        is = refl;
        working = working_on s t ts left events w fit fits;
        holds = holds;
        there = tasks;
      })),
    );
  }

  -- no task is left: at TAKE_UP
  takes_up : (e : Run) (told : List Access) (touches : ℕ) (events : List Event) → ports e.seen ≡ told → Follows rest told → after rest told ≡ touched touches (resumed (record s { events = events }) t)
      → EventsFit s.events events → Left (length s.events) [] → Holds (record s { events = events; running = t }) e.bytes → e.steps ≤ most → G TAKE_UP e
  takes_up e told touches events port follows is fit fits holds few = record {
    told = told;
    ports = port;
    follows = follows;
    goes = (
      few,
      omega (arith, few, bound),
      subst (door.Behind (λ x. AtCall x TAKE_UP e)) (sym is) (door_behind (λ x. AtCall x TAKE_UP e) touches _ (record {
        state = record s { events = events };
        context = t;
        is = refl;
        working = working_on s t ts [] events w fit (left_fits (length s.events) [] fits);
        holds = holds;
      })),
    );
  }

  module _ (k : ℕ) (e : Run) (h : Inv k e) where
    abbrev now : KernelState
    now = record s { events = h.events }

    sizes : Sized now
    sizes = sized_events s h.events h.fit.count sz

    -- the scan comes back
    abbrev Scan_came : (a : Registers) (n : Memory) (steps : ℕ) → Type 0
    Scan_came a n steps = Scanned now t e.regs.r4 e.regs.r5 e.regs.r13 e.bytes n a.r16 (suc (suc (suc (suc e.steps)))) steps

    fit_on : (a : Registers) (n : Memory) (steps : ℕ) (d : Scan_came a n steps) → EventsFit s.events d.events
    fit_on a n steps d = record { count = d.fit.count ∙ h.fit.count; fit = λ x. d.fit.fit (h.fit.fit x) }

    -- a function is called
    calls_one : (a : Registers) (n : Memory) (steps : ℕ) → Scan_came a n steps → (a.r16 ≡ 0 → ⊥) → (g : Run) → g.regs.r16 ≡ a.r16 → g.regs.r17 ≡ e.regs.r17 → g.regs.r18 ≡ e.regs.r18 → g.bytes ≡ n → ports g.seen ≡ ports e.seen → g.steps ≤ steps + 4 → G PUSH g
    calls_one a n steps d some g r16 same17 same18 bytes port few =
        let fits = fit_on a n steps d in
        let all = h.within in
        let inside = d.within in
        let c : ScanCalls now (record s { events = d.events }) e.regs.r4 e.regs.r5 e.regs.r13 e.bytes n a.r16 = ⊎_elim (λ x. absurd (some x.none)) (λ x. x) d.end in
        let left : List Task = Scan e.regs.r4 e.regs.r5 c.next ∷ plain [] h.ls in
        let lines = subst (λ x. length x ≤ 4) (lines_plain [] h.ls) h.fits.lines in
        let r17 : g.regs.r17 ≡ 0 = same17 ∙ h.r17 in
        let r18 : g.regs.r18 ≡ ra = same18 ∙ h.r18 in
        let next_few : c.next ≤ length s.events = (let x = c.few in let y = h.fit.count in omega (arith, x, y)) in
        pushes g h.told h.touches d.events left (port ∙ h.port) h.follows
        (h.is ∙ ap (touched h.touches) (c.is (done t h.ls value ra) (called t h.ls e.regs.r4 e.regs.r5 ra)) ∙ (λ j. touched h.touches (calls_back (record s { events = d.events }) t left (sym r16 j) (sym r17 j) (sym r18 j))))
        fits (with_scan (length s.events) e.regs.r4 e.regs.r5 c.next (plain [] h.ls) (elements_plain [] h.ls) next_few h.fits)
        (subst (λ b. Holds (record s { events = d.events; running = t }) b) (sym bytes) d.holds)
        (subst (λ b. TasksAt (word b) 0xEB00 left) (sym bytes) (tasks_at (word n) left [] h.ls (elements_plain [] h.ls) (lines_plain [] h.ls) (c.kind, (c.class_is, (c.spec_is, (c.event_is, tt)))) (parts_same (word e.bytes) (word n) [] h.ls (omega arith) lines c.tasks h.parts)))
        (omega (arith, all, inside, few))

    -- the next line is taken back, and its events are to be scanned
    next_line : (a : Registers) (n : Memory) (steps : ℕ) (d : Scan_came a n steps) → ScanDone now (record s { events = d.events }) e.regs.r4 e.regs.r5 e.regs.r13 e.bytes n a.r16 → (l : ℕ) (ls : List ℕ) → h.ls ≡ l ∷ ls
        → (g : Run) → g.regs.r4 ≡ class_of_line l → g.regs.r5 ≡ 2 → g.regs.r13 ≡ 0 → g.regs.r10 ≡ length ls → g.regs.r14 ≡ 0x80010000 → g.regs.r17 ≡ e.regs.r17 → g.regs.r18 ≡ e.regs.r18
        → g.bytes ≡ put_word n 0xEBAC (length ls) → ports g.seen ≡ PortWrite I_STAT (without_line l) ∷ ports e.seen → g.steps ≤ steps + 24 → Inv (length ls) g
    next_line a n steps d over l ls y g r4 r5 r13 r10 r14 r17 r18 bytes port few =
        let all = h.within in
        let inside = d.within in
        let len : suc (length ls) ≡ k = sym (ap length y) ∙ h.count in
        let events : List Event = d.events in
        let u : KernelState = record s { events = events } in
        let fits = fit_on a n steps d in
        let many : length events ≤ 64 = (let x = fits.count in omega (arith, x, sz.events)) in
        let were : Left (length s.events) (plain [] (l ∷ ls)) = subst (λ xs. Left (length s.events) (plain [] xs)) y h.fits in
        let all_fit : TasksFit (length s.events) (plain [] (l ∷ ls)) = left_fits (length s.events) (plain [] (l ∷ ls)) were in
        let rests : Left (length s.events) (plain [] ls) = left (length s.events) (Line l) (plain [] ls) all_fit in
        let four = subst (λ x. length x ≤ 4) (lines_plain [] ls) rests.lines in
        let five = subst (λ x. length x ≤ 4) (lines_plain [] (l ∷ ls)) were.lines in
        let next = λ (count class spec from : ℕ). scan count class spec from u (done t ls value ra) (called t ls class spec ra) in
        let tells : after rest h.told ≡ touched h.touches (Tell I_STAT (without_line l) (next (length events) (class_of_line l) 2 0))
        = h.is ∙ ap (touched h.touches) (over.is (done t h.ls value ra) (called t h.ls e.regs.r4 e.regs.r5 ra)) ∙ ap (λ xs. touched h.touches (work u t (plain [] xs) value ra)) y in
        let x : Memory = put_word n 0xEBAC (length ls) in
        let kept : (b : ℕ) → b % 4 ≡ 0 → (b ≡ 0xEBAC → ⊥) → word x b ≡ word n b = λ b al ne. word_stored n 0xEBAC (length ls) b refl al ∙ put_other (word n) 0xEBAC (length ls) b ne in
        let before : Parts (word n) [] (l ∷ ls) = parts_same (word e.bytes) (word n) [] (l ∷ ls) (omega arith) five (λ b al lo up. over.tasks b al (omega (arith, lo)) up) (subst (Parts (word e.bytes) []) y h.parts) in
        let same_count : length events - 0 ≡ length events = omega arith in
        let none_from : length events - g.regs.r13 ≡ length events = omega (arith, r13) in
        record {
          ls = ls;
          count = refl;
          events = events;
          fit = fits;
          told = PortWrite I_STAT (without_line l) ∷ h.told;
          port = port ∙ ap (λ q. PortWrite I_STAT (without_line l) ∷ q) h.port;
          follows = (h.follows, subst (IsWritten I_STAT (without_line l)) (sym tells) (told_behind h.touches (without_line l) (next (length events) (class_of_line l) 2 0)));
          touches = 0;
          is = ap written_of tells ∙ rest_behind h.touches (without_line l) (next (length events) (class_of_line l) 2 0)
              ∙ (λ j. next (sym none_from j) (sym r4 j) (sym r5 j) (sym r13 j));
          from = omega (arith, r13);
          fits = rests;
          within = omega (arith, all, inside, few, len, many, none_from);
          holds = subst (λ b. Holds (record u { running = t }) b) (sym bytes) (holds_behind u t (sized_events s events fits.count sz) n x (behind_put n n 0xEBAC (length ls) refl (omega arith) (omega arith) (behind_none n)) d.holds);
          parts = subst (λ b. Parts (word b) [] ls) (sym bytes) (line_less (word n) (word x) l [] ls (omega arith) four (word_stored n 0xEBAC (length ls) 0xEBAC refl refl) (kept 0xEBA8 refl (λ q. omega (arith, q))) (λ b al lo up. kept b al (λ q. omega (arith, q, lo))) before);
          r10 = r10;
          r14 = r14;
          r17 = r17 ∙ h.r17;
          r18 = r18 ∙ h.r18;
        }

  empty : (xs : List ℕ) → length xs ≡ 0 → xs ≡ []
  empty [] e = refl
  empty (x ∷ xs) e = absurd (omega (arith, e))

  some_line : (xs : List ℕ) → (length xs ≡ 0 → ⊥) → (x : ℕ) × (ys : List ℕ) × (xs ≡ x ∷ ys)
  some_line [] ne = absurd (ne refl)
  some_line (x ∷ xs) ne = (x, xs, refl)

  turn : (k : ℕ) (e : Run) → Inv k e → TurningAt at G Inv k e
  turn k e h = record {
    leave = λ ne. absurd (ne refl);
    again = λ same. scanning (now k e h) t (sizes k e h) e.bytes h.holds (record e.regs { r31 = at + 8 + 8 }) h.r14 h.from e.cop0 e.seen _ _ (λ a z n u p quiet d. (
      λ some. calls_one k e h a n p.steps d some _ refl refl refl refl quiet (omega arith),
      λ none.
          let over : ScanDone (now k e h) (record s { events = d.events }) e.regs.r4 e.regs.r5 e.regs.r13 e.bytes n a.r16 = ⊎_elim (λ x. x) (λ x. absurd (x.some none)) d.end in (
            λ zero.
                let no_line : h.ls ≡ [] = empty h.ls (h.count ∙ sym h.r10 ∙ zero) in
                takes_up _ h.told h.touches d.events (quiet ∙ h.port) h.follows
                (h.is ∙ ap (touched h.touches) (over.is (done t h.ls value ra) (called t h.ls e.regs.r4 e.regs.r5 ra)) ∙ ap (λ xs. touched h.touches (work (record s { events = d.events }) t (plain [] xs) value ra)) no_line)
                (fit_on k e h a n p.steps d) (subst (λ xs. Left (length s.events) (plain [] xs)) no_line h.fits) d.holds (let all = h.within in let inside = d.within in omega (arith, all, inside)),
            λ more.
                let l = some_line h.ls (λ q. more (h.r10 ∙ sym h.count ∙ q)) in
                let x : ℕ = l.0 in
                let rest_lines : List ℕ = l.1 in
                let r10 = h.r10 in
                let len : suc (length rest_lines) ≡ k = sym (ap length l.2) ∙ h.count in
                let lines = subst (λ xs. length xs ≤ 4) (lines_plain [] (x ∷ rest_lines)) (subst (λ xs. Left (length s.events) (plain [] xs)) l.2 h.fits).lines in
                let is_line : IsLine x = (left_fits (length s.events) (plain [] (x ∷ rest_lines)) (subst (λ xs. Left (length s.events) (plain [] xs)) l.2 h.fits)).each.0 in
                let less : (e.regs.r10 + 0xFFFFFFFF) % 2 ^ 32 ≡ length rest_lines = omega (arith, r10, len, lines) in
                let here : ((length rest_lines * 2 ^ 2 % 2 ^ 32 + 0x80010000) % 2 ^ 32 + 0xFFFFEBB0) % 2 ^ 32 ≡ 0x80000000 + (0xEBB0 + 4 * length rest_lines) = omega (arith, lines) in
                let sort : word_sort (0x80000000 + (0xEBB0 + 4 * length rest_lines)) ≡ Kernel = data_sort (0xEBB0 + 4 * length rest_lines) (omega arith) (omega arith) (omega (arith, lines)) in
                let place_is : place (0x80000000 + (0xEBB0 + 4 * length rest_lines)) ≡ 0xEBB0 + 4 * length rest_lines = data_place (0xEBB0 + 4 * length rest_lines) (omega (arith, lines)) in
                let there : word n (0xEBB0 + 4 * length rest_lines) ≡ x = over.tasks (0xEBB0 + 4 * length rest_lines) (omega arith) (omega arith) (omega (arith, lines)) ∙ (subst (Parts (word e.bytes) []) l.2 h.parts).lines.0 in
                rw (h.r14, less, here, sort, place_is, there) (
                  λ zero. (
                    length rest_lines,
                    omega (arith, len),
                    next_line k e h a n p.steps d over x rest_lines l.2 _ (sym (ap class_of_line zero)) refl refl refl refl refl refl refl (λ j. PortWrite I_STAT (mask_of x is_line j) ∷ quiet j) (omega arith),
                  ),
                  λ other. (
                    length rest_lines,
                    omega (arith, len),
                    next_line k e h a n p.steps d over x rest_lines l.2 _ (class_of x is_line other) refl refl refl refl refl refl refl (λ j. PortWrite I_STAT (mask_of x is_line j) ∷ quiet j) (omega arith),
                  ),
                ),
          ),
    ));
  }

  pub in_loop : (k : ℕ) (e : Run) → Inv k e → Meets kernel_words C (Loop (loop_test lines_tree) (loop_body lines_tree) Stop) at (Anew (Sym C (behind_loop lines_tree) 0 (ended (λ _. ⊥)) G)) G e
  in_loop k e h = while C fair_own (loop_test lines_tree) (loop_body lines_tree) at (Sym C (behind_loop lines_tree) 0 (ended (λ _. ⊥)) G) G ℕ (λ i. i) Inv turn k e h

  -- the loop is come to, before any access to a port
  pub begins : (e : Run) (ls : List ℕ) (touches steps from : ℕ) → e.steps ≡ steps → e.regs.r13 ≡ from → ports e.seen ≡ [] → rest ≡ touched touches (scan (length s.events - e.regs.r13) e.regs.r4 e.regs.r5 e.regs.r13 s (done t ls value ra) (called t ls e.regs.r4 e.regs.r5 ra)) → from ≤ length s.events
      → Left (length s.events) (plain [] ls) → steps + 22 * (length s.events - from) + 5948 ≤ most → Holds (record s { running = t }) e.bytes → Parts (word e.bytes) [] ls → e.regs.r10 ≡ word e.bytes 0xEBAC → e.regs.r14 ≡ 0x80010000 → e.regs.r17 ≡ 0 → e.regs.r18 ≡ ra → Inv (length ls) e
  begins e ls touches steps from steps_is r13 quiet is low fits few holds parts r10 r14 r17 r18 =
      let lines = subst (λ xs. length xs ≤ 4) (lines_plain [] ls) fits.lines in
      let all = sz.events in
      let some = busy_few s.events in
      record {
        ls = ls;
        count = refl;
        events = s.events;
        fit = events_same s.events;
        told = [];
        port = quiet;
        follows = tt;
        touches = touches;
        is = is;
        from = omega (arith, r13, low);
        fits = fits;
        within = omega (arith, few, lines, all, some, steps_is, r13);
        holds = holds;
        parts = parts;
        r10 = r10 ∙ parts.line_count;
        r14 = r14;
        r17 = r17;
        r18 = r18;
      }
