-- The listing of WORK does the tasks.
use Rattle.psx_flow.proofs.Rules.{meets_mono}
use Rattle.psx_flow.proofs.Kit.{◌≡◌, inr, ℕ, suc, ◌-◌, ◌%◌, ◌<◌, ◌≤◌, List, [], ◌∷◌, length, refl, sym, ap, ◌∙◌, subst, arith, ⊎_elim, Memory, word, put_word, Registers, Cop0, Run, Goal, Meets, kernel_words, Count, start}
use Rattle.psx_base.specs.KernelState.{ThreadContext, Task, Element, Second, Scan, KernelState}
use Rattle.psx_flow.specs.Told.{ports}
use Rattle.kern_layout.specs.Fields.{Block}
use Rattle.kern_layout.specs.Tasks.{under_way, TasksAt}
use Rattle.kern_layout.specs.Valid.{TasksFit}
use Rattle.kern_layout.proofs.MemoryStored.{word_stored}
use Rattle.kern_layout.proofs.Blocks.{put_other}
use Rattle.abs_kernel.specs.Stay.{Stay}
use Rattle.abs_kernel.specs.Callback.{calls_back}
use Rattle.abs_kernel.specs.Scan.{scan}
use Rattle.abs_kernel.specs.Tasks.{work}
use Rattle.abs_kernel.proofs.Evented.{events_same}
use Rattle.abs_kernel.proofs.TasksLeft.{Left, left_fits, left}
use Rattle.kern_stay.specs.declared.places.TheConstants.{WORK, PUSH}
use Rattle.kern_stay.specs.Shared.{tree}
use Rattle.kern_stay.specs.Doors.{Holds, Works, BeginsWork, AtCall, ThroughTo, GoesOnWithin, Makes, MakesWithin, begun, most_work_steps, most_begun_steps}
use Rattle.kern_entry.specs.WorkOwn.{work_own}
use Rattle.kern_entry.specs.declared.work.TheConstants.{WORK_NODES}
use Rattle.kern_entry.proofs.TasksHeld.{Sized, sized, Behind, behind_none, behind_put, holds_behind}
use Rattle.kern_entry.proofs.TaskForms.{plain, elements_plain, lines_plain, none_under_way, Form, IsPlain, IsSecond, IsScan, form, parts_of, parts_same, touched}
use Rattle.kern_entry.proofs.ElementsTaken.{Over, Calls as Called_one, Taken}
use Rattle.kern_entry.proofs.LinesDone.{C, fair_own, taking, taking_second, lines_at, done, called, pushes, in_loop, begins}

-- ---- the whole listing

all_left : (events : ℕ) (es ls : List ℕ) → TasksFit events (plain es ls) → Left events (plain es ls)
all_left events es ls f = record { plain = λ j. plain (sym (elements_plain es ls) j) (sym (lines_plain es ls) j); elements = f.elements; lines = f.lines; each = f.each }

module _ (most : ℕ) (bound : most ≤ 8192) (enough : 6464 ≤ most) (rest : Stay) (d : Registers) (z : Cop0) (m : Memory) (h : Works rest (begun d z m)) where
  abbrev s : KernelState
  s = h.state

  abbrev t : ThreadContext
  t = h.context

  abbrev Aim : ℕ → Goal
  Aim to e = GoesOnWithin AtCall rest most to e

  abbrev Whole : Type 0
  Whole = Meets kernel_words C (tree WORK_NODES) WORK (λ _. ⊥) Aim (begun d z m)

  size : Sized s
  size = sized s h.working.valid

  count : word m 0xEA10 ≡ length s.events
  count = h.holds.reads.variables.1.1.1.1.0

  -- where no scan is under way, none of the events is looked at
  no_scan : (class spec from : ℕ) (ls : List ℕ) → from ≡ length s.events → work s t (plain [] ls) d.r2 d.r31 ≡ scan (length s.events - from) class spec from s (done t ls d.r2 d.r31) (called t ls class spec d.r31)
  no_scan class spec from ls e = ap (λ n. scan n class spec from s (done t ls d.r2 d.r31) (called t ls class spec d.r31)) (let none : 0 ≡ length s.events - from = omega (arith, e) in none)

  -- the lines that are left when the elements are done
  lines_of_left : (es ls : List ℕ) → Left (length s.events) (plain es ls) → Left (length s.events) (plain [] ls)
  lines_of_left [] ls l = l
  lines_of_left (e ∷ es) ls l = lines_of_left es ls (left (length s.events) (Element e) (plain es ls) (left_fits (length s.events) (plain (e ∷ es) ls) l))

  -- what the listing of elements has come back with
  held : (n : Memory) → Behind m n → Holds (record s { running = t }) n
  held n same = holds_behind s t size m n same h.holds

  called_of : (n : Memory) (a : Registers) {ls : List ℕ} (p : Count) → (a.r16 ≡ 0 → ⊥) → Taken s t d.r2 d.r31 rest ls m n a.r16 a.r17 9 p.steps → Called_one s t d.r31 rest n a.r16 a.r17
  called_of n a p some taken = ⊎_elim (λ x. absurd (some x.none)) (λ x. x) taken.end

  over_of : (ls : List ℕ) (n : Memory) (a : Registers) (p : Count) → a.r16 ≡ 0 → Taken s t d.r2 d.r31 rest ls m n a.r16 a.r17 9 p.steps → Over s t d.r2 d.r31 rest ls n a.r16
  over_of ls n a p none taken = ⊎_elim (λ x. x) (λ x. absurd (x.some none)) taken.end

  -- a function of an element is called
  called_one : (e : Run) (n : Memory) → Behind m n → (x : Called_one s t d.r31 rest n e.regs.r16 e.regs.r17) → e.bytes ≡ n → e.regs.r18 ≡ d.r31 → ports e.seen ≡ [] → e.steps ≤ most → Aim PUSH e
  called_one e n same x bytes r18 quiet few =
      pushes most bound lines_at rest s t h.tasks h.working d.r2 d.r31 e [] x.touches s.events x.left quiet tt (x.is ∙ ap (λ ra. touched x.touches (calls_back s t x.left e.regs.r16 e.regs.r17 ra)) (sym r18)) (events_same s.events) x.fits
      (subst (λ b. Holds (record s { running = t }) b) (sym bytes) (held n same)) (subst (λ b. TasksAt (word b) 0xEB00 x.left) (sym bytes) x.tasks) few

  plain_made : (es ls : List ℕ) → h.tasks ≡ plain es ls → Whole
  plain_made es ls e =
      let fits : TasksFit (length s.events) (plain es ls) = subst (TasksFit (length s.events)) e h.working.tasks in
      let l = all_left (length s.events) es ls fits in
      let there : TasksAt (word m) 0xEB00 (plain es ls) = subst (TasksAt (word m) 0xEB00) e h.there in
      let kind : word m 0xEB98 ≡ 0 = (subst (Block (word m) 0xEB00) (none_under_way es ls) there.first).0 in
      let parts = parts_of (word m) (plain es ls) es ls (elements_plain es ls) (lines_plain es ls) there in
      let is : rest ≡ work s t (plain es ls) d.r2 d.r31 = h.is ∙ ap (λ ts. work s t ts d.r2 d.r31) e in
      start C fair_own (tree WORK_NODES) WORK (λ _. ⊥) Aim (begun d z m) (
        λ scan. absurd (omega (arith, scan, kind)),
        λ other. taking s t size d.r31 rest es ls m h.holds l parts _ refl z _ (record { passed = 7; steps = 9 }) _ (λ a z n u p quiet taken. (
          λ some. called_one _ n taken.same (called_of n a p some taken) refl refl quiet (let few = taken.within in omega (arith, few, enough)),
          λ none.
              let x = over_of ls n a p none taken in
              in_loop most bound lines_at rest s t h.tasks h.working d.r2 d.r31 (length ls) _
              (begins most bound lines_at rest s t h.tasks h.working d.r2 d.r31 _ ls x.touches (suc (suc (suc (suc p.steps)))) (length s.events) refl count quiet (x.is ∙ ap (touched x.touches) (no_scan _ _ _ ls count)) (omega arith) (lines_of_left es ls l)
              (let few = taken.within in omega (arith, few, enough)) (held n taken.same) x.parts refl refl refl refl),
        )) (record { r8 = kind; kind = kind; is = is }),
      )

  second_made : (x : ℕ) (es ls : List ℕ) → h.tasks ≡ Second x ∷ plain es ls → Whole
  second_made x es ls e =
      let fits : TasksFit (length s.events) (Second x ∷ plain es ls) = subst (TasksFit (length s.events)) e h.working.tasks in
      let l = left (length s.events) (Second x) (plain es ls) fits in
      let there : TasksAt (word m) 0xEB00 (Second x ∷ plain es ls) = subst (TasksAt (word m) 0xEB00) e h.there in
      let kind : word m 0xEB98 ≡ 1 = there.first.0 in
      let parts = parts_of (word m) (Second x ∷ plain es ls) es ls (elements_plain es ls) (lines_plain es ls) there in
      let is : rest ≡ work s t (Second x ∷ plain es ls) d.r2 d.r31 = h.is ∙ ap (λ ts. work s t ts d.r2 d.r31) e in
      start C fair_own (tree WORK_NODES) WORK (λ _. ⊥) Aim (begun d z m) (
        λ scan. absurd (omega (arith, scan, kind)),
        λ other. taking_second s t size d.r31 rest es ls m h.holds l parts _ refl z _ (record { passed = 7; steps = 9 }) _ (λ a z n u p quiet taken. (
          λ some. called_one _ n taken.same (called_of n a p some taken) refl refl quiet (let few = taken.within in omega (arith, few, enough)),
          λ none.
              let x = over_of ls n a p none taken in
              in_loop most bound lines_at rest s t h.tasks h.working d.r2 d.r31 (length ls) _
              (begins most bound lines_at rest s t h.tasks h.working d.r2 d.r31 _ ls x.touches (suc (suc (suc (suc p.steps)))) (length s.events) refl count quiet (x.is ∙ ap (touched x.touches) (no_scan _ _ _ ls count)) (omega arith) (lines_of_left es ls l)
              (let few = taken.within in omega (arith, few, enough)) (held n taken.same) x.parts refl refl refl refl),
        )) (record { element = x; r8 = λ q. omega (arith, q, kind); fits = fits.each.0; first = there.first.1.0; is = is }),
      )

  scan_made : 7424 ≤ most → (class spec i : ℕ) (ls : List ℕ) → h.tasks ≡ Scan class spec i ∷ plain [] ls → Whole
  scan_made all class spec i ls e =
      let fits : TasksFit (length s.events) (Scan class spec i ∷ plain [] ls) = subst (TasksFit (length s.events)) e h.working.tasks in
      let l = left (length s.events) (Scan class spec i) (plain [] ls) fits in
      let there : TasksAt (word m) 0xEB00 (Scan class spec i ∷ plain [] ls) = subst (TasksAt (word m) 0xEB00) e h.there in
      let kind : word m 0xEB98 ≡ 2 = there.first.0 in
      let class_is : word m 0xEB9C ≡ class = there.first.1.0 in
      let spec_is : word m 0xEBA0 ≡ spec = there.first.1.1.0 in
      let event_is : word m 0xEBA4 ≡ i = there.first.1.1.1.0 in
      let parts = parts_of (word m) (Scan class spec i ∷ plain [] ls) [] ls (elements_plain [] ls) (lines_plain [] ls) there in
      let lines = subst (λ xs. length xs ≤ 4) (lines_plain [] ls) l.lines in
      let is : rest ≡ work s t (Scan class spec i ∷ plain [] ls) d.r2 d.r31 = h.is ∙ ap (λ ts. work s t ts d.r2 d.r31) e in
      let low : i ≤ length s.events = fits.each.0 in
      let many = size.events in
      let n : Memory = put_word m 0xEB98 0 in
      let same : Behind m n = behind_put m m 0xEB98 0 refl (omega arith) (omega arith) (behind_none m) in
      let kept : (a : ℕ) → a % 4 ≡ 0 → 0xEBA8 ≤ a → a < 0xEC80 → word n a ≡ word m a = λ a al lo up. word_stored m 0xEB98 0 a refl al ∙ put_other (word m) 0xEB98 0 a (λ q. omega (arith, q, lo)) in
      start C fair_own (tree WORK_NODES) WORK (λ _. ⊥) Aim (begun d z m) (
        λ is_scan. in_loop most bound lines_at rest s t h.tasks h.working d.r2 d.r31 (length ls) _
            (begins most bound lines_at rest s t h.tasks h.working d.r2 d.r31 _ ls 0 15 i refl event_is refl
            (is ∙ (λ j. scan (length s.events - sym event_is j) (sym class_is j) (sym spec_is j) (sym event_is j) s (done t ls d.r2 d.r31) (called t ls (sym class_is j) (sym spec_is j) d.r31)))
            low l (omega (arith, many, all)) (held n same) (parts_same (word m) (word n) [] ls (omega arith) lines kept parts) (sym (kept 0xEBAC refl (omega arith) (omega arith))) refl refl refl),
        λ other. absurd (other kind),
      )

  whole_made : 7424 ≤ most → Whole
  whole_made all = by (form (length s.events) h.tasks h.working.tasks)
    where
      by : Form h.tasks → Whole
      by (IsPlain es ls e) = plain_made es ls e
      by (IsSecond x es ls e) = second_made x es ls e
      by (IsScan class spec i ls e) = scan_made all class spec i ls e

  -- where no task is under way
  begun_made : under_way h.tasks ≡ [] → Whole
  begun_made none = by (form (length s.events) h.tasks h.working.tasks)
    where
      some : (x : Task) → x ∷ [] ≡ [] → ⊥
      some x e = let one : ◌≡◌ {A = ℕ} 1 0 = ap length e in omega (arith, one)

      by : Form h.tasks → Whole
      by (IsPlain es ls e) = plain_made es ls e
      by (IsSecond x es ls e) = absurd (some (Second x) (ap under_way (sym e) ∙ none))
      by (IsScan class spec i ls e) = absurd (some (Scan class spec i) (ap under_way (sym e) ∙ none))

pub makes : Makes work_own most_work_steps Works AtCall WORK (tree WORK_NODES)
makes rest d z m h =
    meets_mono kernel_words C fair_own (tree WORK_NODES) WORK (λ _. ⊥) (λ _. ⊥) (λ to e. GoesOnWithin AtCall rest most_work_steps to e) (λ to e. ThroughTo AtCall rest most_work_steps to e) (begun d z m) (λ e x. x)
    (λ to e g. record { told = g.told; ports = g.ports; follows = g.follows; ends = inr g.goes }) (whole_made most_work_steps (omega arith) (omega arith) rest d z m h (omega arith))

pub begun_makes : MakesWithin work_own most_begun_steps BeginsWork AtCall WORK (tree WORK_NODES)
begun_makes rest d z m h = begun_made most_begun_steps (omega arith) (omega arith) rest d z m h.works h.none
