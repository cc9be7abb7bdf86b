-- read meets its stay.
use Rattle.psx_flow.proofs.Kit.{◌≡◌, ℕ, suc, ◌+◌, ◌-◌, ◌*◌, ◌%◌, ◌^◌, ◌<◌, ◌≤◌, ◌++◌, refl, sym, ap, ◌∙◌, arith, List, Memory, put_byte, Run, Goal, Calls, calls, Access, place, user, kernel_words, start, true, false}
use Rattle.std.proofs.Common.{zero, eq-eqb, ne_eqb}
use Rattle.std.specs.Prelude.{Bool, nat_eq, nat_lt, if◌then◌else◌}
use Rattle.psx_base.specs.KernelState.{KernelState}
use Rattle.psx_cpu.specs.Words.{truth}
use Rattle.kern_layout.specs.Valid.{Valid}
use Rattle.abs_kernel.proofs.Moved.{valid_moved}
use Rattle.abs_kernel.specs.Stay.{Stay, Touch}
use Rattle.abs_kernel.specs.Answered.{registers_of, answered, waits}
use Rattle.abs_kernel.specs.UserBytes.{tests_bytes, bad_pointer, with_byte, following, count_of}
use Rattle.abs_kernel.specs.ConsoleBytes.{takes_byte}
use Rattle.abs_kernel.specs.Files.{file, is_readable, with_errno, refuses, bad_file}
use Rattle.abs_kernel.specs.ReadFile.{read_bytes, read}
use Rattle.abs_kernel.specs.declared.calls.CallId.TheVariants.{A02}
use Rattle.abs_kernel.specs.Calls.{call}
use Rattle.kern_stay.specs.Room.{room}
use Rattle.kern_stay.specs.Shared.{tree, tested_there}
use Rattle.kern_stay.specs.Doors.{Holds, called_with, begun, most_steps}
use Rattle.kern_stay.specs.Loops.{Passes, Repeats, ServesBy, earned}
use Rattle.kern_stay.proofs.RoomGiven.{KnowsRoom, knows_room, true_then, false_then}
use Rattle.kern_stay.proofs.RoomLeft.{Span, span_all, span_some}
use Rattle.kern_stay.proofs.Holding.{holds_byte}
use Rattle.kern_stay.proofs.Ending.{no_count, a_count}
use Rattle.kern_stay.proofs.Passing.{passed, answers_now, refuses_last, enters}
use Rattle.kern_stay.proofs.Looping.{starting}
use Rattle.kern_stay.proofs.Cursor.{Cursor, coming, done_all, done_bad}
use Rattle.kern_stay.proofs.Asking.{begins_is, none_due_behind, one_due_behind, waits_now, passed_ports, turned}
use Rattle.kern_file.specs.Own.{own}
use Rattle.kern_file.specs.declared.places.TheConstants.{READ, READ_LOOP, ROOM}
use Rattle.kern_file.specs.declared.a02_read.TheConstants.{NODES, LOOP_NODES}
use Rattle.kern_file.proofs.FilesHeld.{at_file, mode_is, none_from_16, holds_errno}
use Rattle.kern_file.proofs.Readable.{readable, unreadable}

-- the state with its memory so far
abbrev now : KernelState → Memory → KernelState
now s u = record s { memory = u }

-- where no byte is due
abbrev ends_with : KernelState → (came : ℕ) → Stay
ends_with t came = if nat_eq came 0 then waits t else answered t came

-- and where one came
abbrev next : (k : ℕ) → KernelState → (x came b : ℕ) → Stay
next k t x came b = read_bytes (k - 1) (with_byte t x b) (following x) (came + 1)

read_more : (k : ℕ) (t : KernelState) (x came : ℕ) → 0 < k → read_bytes k t x came ≡ tests_bytes 1 t x (takes_byte (ends_with t came) (next k t x came))
read_more zero t x came h = absurd (omega arith)
read_more (suc k) t x came h = let e : suc k - 1 ≡ k = omega arith in ap (λ n. tests_bytes 1 t x (takes_byte (ends_with t came)
    (λ b. read_bytes n (with_byte t x b) (following x) (came + 1)))) (sym e)

-- at the loop's head, with k bytes to come
record Head (s : KernelState) (a n stop flag k : ℕ) (rest : Stay) (e : Run) : Type 0 where
  memory : Memory
  is : rest ≡ read_bytes k (now s memory) e.regs.r8 (e.regs.r8 - a)
  holds : Holds (now s memory) e.bytes
  r5 : e.regs.r5 ≡ a
  r10 : e.regs.r10 ≡ flag
  r11 : e.regs.r11 ≡ stop
  r26 : e.regs.r26 ≡ 0x1F800000
  cursor : Cursor a n stop k e.regs.r8

module _ (s : KernelState) (valid : Valid s) (out : s.running.context.in_slot ≡ false) (a n stop flag : ℕ) (span : Span a n stop flag) (most : ℕ) (enough : 64 ≤ most) where
  -- where a turn comes back to
  abbrev again : ℕ → Stay → List Access → Stay → Goal
  again m rest told r g = (g.steps ≤ 64) × (64 ≤ 128 * earned rest told) × Repeats own most READ_LOOP (tree LOOP_NODES) m r g

  repeats : (m k : ℕ) (rest : Stay) (e : Run) → k < m → Head s a n stop flag k rest e → Repeats own most READ_LOOP (tree LOOP_NODES) m rest e
  repeats zero k rest e lt h = absurd (omega arith)
  repeats (suc m) k rest e lt h =
      let C : Calls = calls kernel_words (own ++ tested_there) in
      let know : KnowsRoom ROOM C = knows_room ROOM tested_there in
      let x : ℕ = e.regs.r8 in
      let t : KernelState = now s h.memory in
      let came : ℕ = x - a in
      let low = h.cursor.low in
      let high = h.cursor.high in
      let within = span.within in
      let count : (x + 2 ^ 32 - e.regs.r5) % 2 ^ 32 ≡ came = ap (λ y. (x + 2 ^ 32 - y) % 2 ^ 32) h.r5 ∙ omega (arith, low, high, within) in
      let asks : Stay = takes_byte (ends_with t came) (next k t x came) in
      let tests : (b : Bool) → 0 < k → user x ≡ b
      → rest ≡ Touch 1 (if b then asks else bad_pointer t x) = λ b some u. h.is ∙ read_more k t x came some ∙ ap (λ y. Touch 1 (if y then asks else bad_pointer t x)) u in (
        64,
        enough,
        start C know.fair (tree LOOP_NODES) READ_LOOP (λ _. ⊥) (λ to f. Passes READ_LOOP (again m rest) rest 64 to f) (begun e.regs e.cop0 e.bytes) (
          λ eq. (
            λ ne.
                let b = done_bad a n stop flag k x span h.cursor (eq ∙ h.r11) (λ z. ne (h.r10 ∙ z)) in
                passed READ_LOOP (again m rest) rest 64 _ _ refl refl (refuses_last t 1 64 _ rest (tests false b.some b.user) h.holds (omega arith)),
            λ z.
                let none = done_all a n stop flag k x span h.cursor (eq ∙ h.r11) (sym h.r10 ∙ z) in
                passed READ_LOOP (again m rest) rest 64 _ _ refl refl (answers_now t 64 _ rest (h.is ∙ ap (λ j. read_bytes j t x came) none ∙ ap (answered t) (sym count)) h.holds (omega arith)),
          ),
          λ ne.
              let g = coming a n stop flag k x span h.cursor (λ q. ne (q ∙ sym h.r11)) in
              let is = tests true g.some g.user in
              let kept : Valid t = valid_moved s h.memory s.random s.running valid valid.running in
              let up : (x + 1) % 2 ^ 32 - a ≡ came + 1 = (let step = g.next.low in let lower = g.next.high in omega (arith, low, high, within, step, lower)) in
              rw (h.r26) (λ v vs. (
                λ none. (
                  λ first.
                      let w : ends_with t came ≡ waits t = ap (λ b. if b then waits t else answered t came) (eq-eqb came 0 (let f = first ∙ h.r5 in omega (arith, f))) in
                      passed_ports READ_LOOP (again m rest) rest (ends_with t came) _ 2 64 _ _ refl refl (begins_is rest _ _ _ 2 is (none_due_behind 1 (ends_with t came) (next k t x came) v none))
                      (waits_now t 64 _ (ends_with t came) w out h.holds (omega arith)),
                  λ later.
                      let w : ends_with t came ≡ answered t came = ap (λ b. if b then waits t else answered t came) (ne_eqb came 0 (λ q. later (let f = h.r5 in omega (arith, f, q, low)))) in
                      passed_ports READ_LOOP (again m rest) rest (ends_with t came) _ 2 64 _ _ refl refl (begins_is rest _ _ _ 2 is (none_due_behind 1 (ends_with t came) (next k t x came) v none))
                      (answers_now t 64 _ (ends_with t came) (w ∙ ap (answered t) (sym count)) h.holds (omega arith)),
                ),
                λ due y ys.
                    let begin = begins_is rest _ _ _ 3 is (one_due_behind 1 (ends_with t came) (next k t x came) v y due) in
                    rw (g.back, g.sort) (turned READ_LOOP (again m rest) rest (next k t x came (y % 2 ^ 8)) _ 3 64 _ refl refl begin (
                      omega arith,
                      (let earns = begin.earns in omega (arith, earns)),
                      repeats m (k - 1) _ _ (let some = g.some in omega (arith, lt, some)) (record {
                        memory = put_byte h.memory (place x) (y % 2 ^ 8);
                        is = ap (read_bytes (k - 1) (with_byte t x (y % 2 ^ 8)) (following x)) (sym up);
                        holds = holds_byte t kept e.bytes h.holds x (y % 2 ^ 8) g.user;
                        r5 = h.r5;
                        r10 = h.r10;
                        r11 = h.r11;
                        r26 = refl;
                        cursor = g.next;
                      }),
                    )),
              )),
        ),
      )

  -- from where the loop is reached
  starts : (rest : Stay) (e : Run) → rest ≡ read_bytes n s e.regs.r8 0 → Holds s e.bytes → e.regs.r8 ≡ a → e.regs.r5 ≡ a → e.regs.r10 ≡ flag → e.regs.r11 ≡ stop → e.regs.r26 ≡ 0x1F800000
      → (m : ℕ) × Repeats own most READ_LOOP (tree LOOP_NODES) m rest e
  starts rest e is holds r8 r5 r10 r11 r26 =
      let none : e.regs.r8 - a ≡ 0 = omega (arith, r8) in (
        suc n,
        repeats (suc n) n rest e (omega arith) (record {
          memory = s.memory;
          is = is ∙ ap (read_bytes n s e.regs.r8)
              (sym none);
          holds = holds;
          r5 = r5;
          r10 = r10;
          r11 = r11;
          r26 = r26;
          cursor = starting a n stop flag e.regs.r8 span r8;
        }),
      )

pub serves : ServesBy own most_steps (call A02) READ (tree NODES) READ_LOOP (tree LOOP_NODES)
serves s d z m h =
    let C : Calls = calls kernel_words (own ++ tested_there) in
    let know : KnowsRoom ROOM C = knows_room ROOM tested_there in
    let f : ℕ = (registers_of s).r4 in
    let a : ℕ = (registers_of s).r5 in
    let n : ℕ = (registers_of s).r6 in
    let small : a < 2 ^ 32 = h.words 5 in
    let flag : ℕ = truth (nat_lt (room a) n) in
    let takes : Stay = read_bytes (count_of n) s a 0 in
    let by : (b : Bool) → is_readable (file s f) ≡ b → read s ≡ (if b then takes else refuses s bad_file) = λ b e. ap (λ b. if b then takes else refuses s bad_file) e in
    let kept = holds_errno s h.valid m h.holds bad_file in
    let first : List Access → Stay → Goal = λ told rest g. (g.steps ≤ most_steps) × ((j : ℕ) × Repeats own (most_steps - g.steps) READ_LOOP (tree LOOP_NODES) j rest g) in
    start C know.fair (tree NODES) READ (λ _. ⊥) (λ to e. Passes READ_LOOP first (read s) most_steps to e) (begun (called_with (registers_of s) d) z m) (
      λ some.
          let lt : f < 16 = true_then f 16 some in
          let at = at_file f lt in
          let mode = mode_is s h.valid m h.holds f lt in
          rw (at.here, at.sort, at.place) (
            λ odd.
                let is : read s ≡ takes = by true (readable (file s f) (λ q. odd (ap (λ x. x * 2 ^ 31 % 2 ^ 32) mode ∙ q))) in (
                  λ few. passed READ_LOOP first (read s) most_steps _ _ refl refl (answers_now s most_steps _ (read s) (is ∙ ap (λ j. read_bytes j s a 0) (no_count n few)) h.holds (omega arith)),
                  λ pos.
                      let on : read s ≡ read_bytes n s a 0 = is ∙ ap (λ j. read_bytes j s a 0) (a_count n pos.1) in
                      know.room _ _ _ _ _ _ _ small (λ x y p up. (
                        λ q. enters READ_LOOP first (read s) most_steps _ refl refl (
                          omega arith,
                          starts s h.valid h.out a n ((a + n) % 2 ^ 32) flag (span_all a n flag small q (false_then (room a) n q)) _ (omega arith) (read s) _ on h.holds refl refl refl refl refl,
                        ),
                        λ ne. enters READ_LOOP first (read s) most_steps _ refl refl (
                          omega arith,
                          starts s h.valid h.out a n ((a + room a) % 2 ^ 32) flag (span_some a n flag small ne (true_then (room a) n ne)) _ (omega arith) (read s) _ on h.holds refl refl refl refl refl,
                        ),
                      )),
                ),
            λ even. passed READ_LOOP first (read s) most_steps _ _ refl refl (answers_now (with_errno s bad_file) most_steps _ (read s)
                (by false (unreadable (file s f) (sym (ap (λ x. x * 2 ^ 31 % 2 ^ 32) mode) ∙ even))) kept (omega arith)),
          ),
      λ none. passed READ_LOOP first (read s) most_steps _ _ refl refl (answers_now (with_errno s bad_file) most_steps _ (read s)
          (by false (ap is_readable (none_from_16 s h.valid f (false_then f 16 none)))) kept (omega arith)),
    )
