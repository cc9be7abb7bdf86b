-- write meets its stay.
use Rattle.psx_flow.proofs.Kit.{◌≡◌, ℕ, suc, ◌+◌, ◌-◌, ◌*◌, ◌%◌, ◌^◌, ◌<◌, ◌≤◌, ◌++◌, refl, sym, ap, ◌∙◌, arith, byte, Run, Goal, Calls, calls, Access, place, kernel_words, start, true, false}
use Rattle.std.proofs.Common.{zero, List}
use Rattle.std.specs.Prelude.{Bool, nat_lt, if◌then◌else◌}
use Rattle.psx_base.specs.KernelState.{KernelState}
use Rattle.psx_cpu.specs.Words.{truth}
use Rattle.abs_kernel.specs.Stay.{Stay, Write, Touch}
use Rattle.abs_kernel.specs.Answered.{registers_of, answered}
use Rattle.abs_kernel.specs.UserBytes.{reads_byte, bad_pointer, following, count_of}
use Rattle.abs_kernel.specs.Files.{file, is_writable, with_errno, refuses, bad_file}
use Rattle.abs_kernel.specs.WriteFile.{write_bytes, write}
use Rattle.abs_kernel.specs.declared.calls.CallId.TheVariants.{A03}
use Rattle.abs_kernel.specs.Calls.{call}
use Rattle.kern_stay.specs.Room.{room}
use Rattle.kern_stay.specs.Shared.{tree, tested_there}
use Rattle.kern_stay.specs.Doors.{Holds, called_with, begun, most_steps}
use Rattle.kern_stay.specs.Loops.{Passes, Repeats, ServesBy, units, earned}
use Rattle.kern_stay.proofs.RoomGiven.{KnowsRoom, knows_room, true_then, false_then}
use Rattle.kern_stay.proofs.RoomLeft.{Span, span_all, span_some}
use Rattle.kern_stay.proofs.Ending.{user_byte, no_count, a_count}
use Rattle.kern_stay.proofs.Passing.{passed, answers_now, refuses_last, enters, printed}
use Rattle.kern_stay.proofs.Looping.{starting}
use Rattle.kern_stay.proofs.Cursor.{Cursor, coming, done_all, done_bad}
use Rattle.kern_file.specs.Own.{own}
use Rattle.kern_file.specs.declared.places.TheConstants.{WRITE, WRITE_LOOP, ROOM}
use Rattle.kern_file.specs.declared.a03_write.TheConstants.{NODES, LOOP_NODES}
use Rattle.kern_file.proofs.FilesHeld.{at_file, mode_is, none_from_16, writable, unwritable, holds_errno}

bytes_more : (k : ℕ) (s : KernelState) (at value : ℕ) → 0 < k → write_bytes k s at value ≡ reads_byte s at (λ b. Write (b % 2 ^ 8) (write_bytes (k - 1) s (following at) value))
bytes_more zero s at value h = absurd (omega arith)
bytes_more (suc k) s at value h = let e : suc k - 1 ≡ k = omega arith in ap (λ j. reads_byte s at (λ b. Write (b % 2 ^ 8) (write_bytes j s (following at) value))) (sym e)

-- at the loop's head, with k bytes to come
record Head (s : KernelState) (a n stop flag k : ℕ) (rest : Stay) (e : Run) : Type 0 where
  is : rest ≡ write_bytes k s e.regs.r8 n
  holds : Holds s e.bytes
  r6 : e.regs.r6 ≡ n
  r10 : e.regs.r10 ≡ flag
  r11 : e.regs.r11 ≡ stop
  r26 : e.regs.r26 ≡ 0x1F800000
  cursor : Cursor a n stop k e.regs.r8

module _ (s : KernelState) (a n stop flag : ℕ) (span : Span a n stop flag) (most : ℕ) (enough : 64 ≤ most) where
  -- where a turn comes back to
  abbrev again : ℕ → Stay → List Access → Stay → Goal
  again m rest told r g = (g.steps ≤ 64) × (64 ≤ 128 * earned rest told) × Repeats own most WRITE_LOOP (tree LOOP_NODES) m r g

  repeats : (m k : ℕ) (rest : Stay) (e : Run) → k < m → Head s a n stop flag k rest e → Repeats own most WRITE_LOOP (tree LOOP_NODES) m rest e
  repeats zero k rest e lt h = absurd (omega arith)
  repeats (suc m) k rest e lt h =
      let C : Calls = calls kernel_words (own ++ tested_there) in
      let know : KnowsRoom ROOM C = knows_room ROOM tested_there in
      let x : ℕ = e.regs.r8 in
      let v : ℕ = byte s.memory (place x) in
      let on : Stay = write_bytes (k - 1) s (following x) n in
      let sent : Stay = Write (v % 2 ^ 8) on in (
        64,
        enough,
        start C know.fair (tree LOOP_NODES) WRITE_LOOP (λ _. ⊥) (λ to f. Passes WRITE_LOOP (again m rest) rest 64 to f) (begun e.regs e.cop0 e.bytes) (
          λ eq. (
            λ ne.
                let b = done_bad a n stop flag k x span h.cursor (eq ∙ h.r11) (λ z. ne (h.r10 ∙ z)) in
                let is : rest ≡ Touch 1 (bad_pointer s x) = h.is ∙ bytes_more k s x n b.some ∙ ap (λ y. Touch 1 (if y then sent else bad_pointer s x)) b.user in
                passed WRITE_LOOP (again m rest) rest 64 _ _ refl refl (refuses_last s 1 64 _ rest is h.holds (omega arith)),
            λ z.
                let none = done_all a n stop flag k x span h.cursor (eq ∙ h.r11) (sym h.r10 ∙ z) in
                let is : rest ≡ answered s e.regs.r6 = h.is ∙ ap (λ j. write_bytes j s x n) none ∙ ap (answered s) (sym h.r6) in
                passed WRITE_LOOP (again m rest) rest 64 _ _ refl refl (answers_now s 64 _ rest is h.holds (omega arith)),
          ),
          λ ne.
              let g = coming a n stop flag k x span h.cursor (λ q. ne (q ∙ sym h.r11)) in
              let same : byte e.bytes (place x) ≡ v = user_byte s e.bytes h.holds x g.user in
              let is : rest ≡ Touch 1 sent = h.is ∙ bytes_more k s x n g.some ∙ ap (λ y. Touch 1 (if y then sent else bad_pointer s x)) g.user in
              let earns : units rest ≡ 2 = ap units is in
              rw (g.here, g.sort, h.r26) (
              printed WRITE_LOOP (again m rest) rest on 1 (v % 2 ^ 8) (byte e.bytes (place x)) 64 _ refl is refl (ap (λ y. y % 2 ^ 8) same) (
                omega arith,
                omega (arith, earns),
                repeats m (k - 1) on _ (omega (arith, lt, g.some)) (record { is = refl; holds = h.holds; r6 = h.r6; r10 = h.r10; r11 = h.r11; r26 = refl; cursor = g.next }),
              )
              ),
        ),
      )

  -- from where the loop is reached
  starts : (rest : Stay) (e : Run) → rest ≡ write_bytes n s e.regs.r8 n → Holds s e.bytes → e.regs.r8 ≡ a → e.regs.r6 ≡ n → e.regs.r10 ≡ flag → e.regs.r11 ≡ stop → e.regs.r26 ≡ 0x1F800000
      → (m : ℕ) × Repeats own most WRITE_LOOP (tree LOOP_NODES) m rest e
  starts rest e is holds r8 r6 r10 r11 r26 =
      (suc n, repeats (suc n) n rest e (omega arith) (record { is = is; holds = holds; r6 = r6; r10 = r10; r11 = r11; r26 = r26; cursor = starting a n stop flag e.regs.r8 span r8 }))

-- how the stay goes on by the file
begins : (s : KernelState) (b : Bool) → let r = registers_of s in is_writable (file s r.r4) ≡ b → write s ≡ (if b then write_bytes (count_of r.r6) s r.r5 (count_of r.r6) else refuses s bad_file)
begins s b e = let r = registers_of s in ap (λ b. if b then write_bytes (count_of r.r6) s r.r5 (count_of r.r6) else refuses s bad_file) e

pub serves : ServesBy own most_steps (call A03) WRITE (tree NODES) WRITE_LOOP (tree LOOP_NODES)
serves s d z m h =
    let C : Calls = calls kernel_words (own ++ tested_there) in
    let know : KnowsRoom ROOM C = knows_room ROOM tested_there in
    let f : ℕ = (registers_of s).r4 in
    let a : ℕ = (registers_of s).r5 in
    let n : ℕ = (registers_of s).r6 in
    let small : a < 2 ^ 32 = h.words 5 in
    let flag : ℕ = truth (nat_lt (room a) n) in
    let kept = holds_errno s h.valid m h.holds bad_file in
    let first : List Access → Stay → Goal = λ told rest g. (g.steps ≤ most_steps) × ((j : ℕ) × Repeats own (most_steps - g.steps) WRITE_LOOP (tree LOOP_NODES) j rest g) in
    start C know.fair (tree NODES) WRITE (λ _. ⊥) (λ to e. Passes WRITE_LOOP first (write s) most_steps to e) (begun (called_with (registers_of s) d) z m) (
      λ some.
          let lt : f < 16 = true_then f 16 some in
          let at = at_file f lt in
          let mode = mode_is s h.valid m h.holds f lt in
          rw (at.here, at.sort, at.place) (
            λ w.
                let is = begins s true (writable (file s f) (ap (λ x. truth (nat_lt x 2)) (sym mode) ∙ w)) in (
                  λ few. passed WRITE_LOOP first (write s) most_steps _ _ refl refl
                      (answers_now s most_steps _ (write s) (is ∙ ap (λ j. write_bytes j s a j) (no_count n few)) h.holds (omega arith)),
                  λ pos.
                      let sends = is ∙ ap (λ j. write_bytes j s a j) (a_count n pos.1) in
                      know.room _ _ _ _ _ _ _ small (λ x y p up. (
                        λ q.
                            let span = span_all a n flag small q (false_then (room a) n q) in
                            enters WRITE_LOOP first (write s) most_steps _ refl refl
                            (omega arith, starts s a n ((a + n) % 2 ^ 32) flag span _ (omega arith) (write s) _ sends h.holds refl refl refl refl refl),
                        λ ne.
                            let span = span_some a n flag small ne (true_then (room a) n ne) in
                            enters WRITE_LOOP first (write s) most_steps _ refl refl
                            (omega arith, starts s a n ((a + room a) % 2 ^ 32) flag span _ (omega arith) (write s) _ sends h.holds refl refl refl refl refl),
                      )),
                ),
            λ no.
                let is = begins s false (unwritable (file s f) (λ q. no (ap (λ x. truth (nat_lt x 2)) mode ∙ q))) in
                passed WRITE_LOOP first (write s) most_steps _ _ refl refl (answers_now (with_errno s bad_file) most_steps _ (write s) is kept (omega arith)),
          ),
      λ none.
          let is = begins s false (ap is_writable (none_from_16 s h.valid f (false_then f 16 none))) in
          passed WRITE_LOOP first (write s) most_steps _ _ refl refl (answers_now (with_errno s bad_file) most_steps _ (write s) is kept (omega arith)),
    )
